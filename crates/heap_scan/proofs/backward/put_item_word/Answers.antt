use Rattle.std.proofs.Common.{codes, refl, arith}
use Rattle.heap_scan.proofs.FixedPieces.{drop-put_chunk}
use Rattle.heap_scan.proofs.backward.put_item_word.Goals as goal

pub returns-clause-written : goal.returns-clause-written
returns-clause-written c =
    drop-put_chunk c.args.end 8 5 c.args.buf.now (codes "   item ") refl c.requires.room
    c.requires.within (omega arith)
