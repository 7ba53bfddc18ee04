use Rattle.buf_pool.specs.Probes.{home_slot}
use Rattle.buf_pool.proofs.table.home.Goals as goal

pub returns-clause-home : goal.returns-clause-home
unfolding home_slot
returns-clause-home c = rw (← c.hash.ensures.hash)
