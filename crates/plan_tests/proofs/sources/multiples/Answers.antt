use Rattle.std.proofs.lemmas.Result.{IfOk-weaker}
use Rattle.plan_tests.proofs.sources.multiples.Goals as goal

pub returns : goal.returns
returns c =
    IfOk-weaker c.all_of.result _ _
    (λ given is. rw (c.new-2.ensures.inner, c.new-2.ensures.keep, c.new.ensures.blocks) at is)
    c.all_of.ensures
