use Rattle.std.proofs.Common.{arith}
use Rattle.std.proofs.lemmas.Fmt.{length-decimal-le}
use Rattle.heap_scan.proofs.backward.put_number_in_little_room.Goals as goal

pub write_digits-requires : goal.write_digits-requires
write_digits-requires c = (
  omega (
    arith,
    length-decimal-le 10 c.from.result (omega arith) (omega (arith, c.from.ensures))
        (omega (arith, c.from.ensures)),
  ),
  c.requires.within,
)
