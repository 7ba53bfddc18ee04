use Rattle.std.proofs.Common.{◌≡◌, [], drop, length, refl, arith}
use Rattle.std.proofs.lemmas.List.{drop_all}
use Rattle.heap_scan.proofs.lines.put_damaged_line.Goals as goal

pub returns-clause-written : goal.returns-clause-written
returns-clause-written c =
    let none : drop (length c.args.buf.now) c.args.buf.now ≡ [] =
    drop_all (length c.args.buf.now) c.args.buf.now (omega arith) in
    rw (
      c.put_place.ensures.written,
      c.put-at-2.ensures.written,
      c.put_number-at.ensures.written,
      c.put_bounds-at.ensures.written,
      c.put-at.ensures.written,
      none,
      c.from.ensures,
      c.header-header.ensures,
    ) refl
