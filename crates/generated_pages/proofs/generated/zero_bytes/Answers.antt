use Rattle.std.proofs.Common.{◌∙◌, ap, take, List, ℕ}
use Rattle.generated_pages.proofs.GeneratedBytesAppend.{some_zeros}
use Rattle.generated_pages.proofs.generated.zero_bytes.Goals as goal

pub returns : goal.returns
returns c =
    ap (λ (xs : List ℕ). take c.args.count xs) (c.bytes.ensures.value ∙ c.requires.zeros)
    ∙ some_zeros 8192 c.args.count c.requires.count
