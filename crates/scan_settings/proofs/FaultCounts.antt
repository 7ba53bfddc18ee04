-- How many faults are told of a page.
use Rattle.std.proofs.Common.{ℕ, ◌<◌, ◌≤◌, ◌^◌, List, arith}
use Rattle.page_check.specs.declared.rules.PageMark.{PageMark}
use Rattle.page_check.specs.declared.rules.PageMark.TheVariants.{Valid, Zeroed, Damaged}
use Rattle.page_faults.proofs.FaultCounts.{few_faults}
use Rattle.scan_settings.specs.PageFormats.{damaged_count, page_format}
use Rattle.scan_settings.specs.declared.page_text.PageText.{PageText}
use Rattle.scan_settings.specs.declared.page_text.PageText.TheVariants.{Items, Tuples, Faults}

one_at_most : (mark : PageMark) → damaged_count mark ≤ 1
one_at_most Valid = omega arith
one_at_most Zeroed = omega arith
one_at_most Damaged = omega arith

-- of any page, whatever is written of it
pub few_told : (text : PageText) (mark : PageMark) (relation block : ℕ) (page : List ℕ)
    → (page_format text).fault_count_of mark relation block page < 2 ^ 16
few_told Items mark relation block page = omega (arith, one_at_most mark)
few_told Tuples mark relation block page = omega (arith, one_at_most mark)
few_told (Faults options) mark relation block page =
    omega (arith, few_faults options block page)
