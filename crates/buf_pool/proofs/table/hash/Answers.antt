use Rattle.buf_pool.specs.Probes.{tag_hash}
use Rattle.buf_pool.proofs.table.hash.Goals as goal

pub returns-clause-hash : goal.returns-clause-hash
unfolding tag_hash
returns-clause-hash c = rw (← c.from.ensures, ← c.from-2.ensures)
