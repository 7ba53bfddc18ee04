use Rattle.std.proofs.Common.{◌≡◌, ◌≢◌, ◌<◌, ◌≤◌, ℕ, Some, slice_get}
use Rattle.aio_word.specs.declared.State.TheVariants.{HandedOut}
use Rattle.aio_word.specs.declared.Word.{Word}
use Rattle.aio_core.proofs.machine.Machine.has_handed_out.Given as goal

abbrev pub invariant-loop-handle : goal.invariant-loop-handle
invariant-loop-handle l = (i : ℕ) (w : Word) → l.first ≤ i → i < l.handle
    → slice_get l.self.machine.words i ≡ Some w → w.state ≢ HandedOut
