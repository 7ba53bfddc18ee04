use Rattle.std.proofs.Common.{◌≡◌, ◌-◌, ◌++◌, true, length, drop}
use Rattle.std.specs.Fmt.{digits_onto}
use Rattle.page_faults.specs.FaultsText.{hex}
use Rattle.page_faults.proofs.lines.put_hex.Given as goal

abbrev pub invariant-loop-count : goal.invariant-loop-count
invariant-loop-count l = record {
  size : length l.buf ≡ length l.fn.buf;
  written : digits_onto (8 - l.count) 16 true l.rest (drop (l.end - l.count) l.buf)
      ≡ hex l.number ++ drop l.end l.fn.buf;
}
