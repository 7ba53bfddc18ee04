use Rattle.std.proofs.Common.{◌≡◌, ◌==◌, take}
use Rattle.page_check.specs.Verdict.{is_all_zero}
use Rattle.page_check.proofs.verdict.is_zero_page.Given as goal

abbrev pub invariant-loop-byte : goal.invariant-loop-byte
invariant-loop-byte l = (l.all == 0) ≡ is_all_zero (take l.byte-index l.bytes)
