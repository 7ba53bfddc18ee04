use Rattle.std.proofs.Common.{length}
use Rattle.read_callbacks.proofs.chain.+verifies_pages.Given as goal

abbrev pub decreases-verifies_pages : goal.decreases-verifies_pages
decreases-verifies_pages l = length l.ids.now
