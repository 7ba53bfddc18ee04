-- A page that is valid by its header.
use Rattle.std.proofs.Common.{ℕ, ◌∙◌, sym, List, false}
use Rattle.page_check.specs.Verdict.{IsValid}
use Rattle.page_check.specs.Checksum.{IsValidAs}
use Rattle.page_check.proofs.VerifiedPages.{verdict_as-off}

-- it is so as any block, where checksums do not count
pub valid_by_header : (block : ℕ) (page : List ℕ) → IsValid page → IsValidAs false block page
valid_by_header block page valid = λ bad. valid (sym (verdict_as-off block page) ∙ bad)
