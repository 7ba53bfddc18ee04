use Rattle.std.proofs.Common.{◌∙◌, ap, sym}
use Rattle.buf_pool.specs.Parts.{part_count, part_of}
use Rattle.buf_pool.proofs.laws.a_tag_is_of_one_part.Goals as goal

pub returns : goal.returns
returns c = λ one other xs ys f g tag pool own others here there.
    sym (own f tag here) ∙ ap (λ n. part_of (part_count n) tag) pool ∙ others g tag there
