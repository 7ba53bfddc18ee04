use Rattle.std.proofs.Common.{◌≡◌, ℕ, Bool, true, false, subst, arith}
use mathlib.Core.Logic.{dite}
use native.Mathlib.Decide.{ℕ_discrete}
use Rattle.aio_handle.specs.OwnHandles.{own_at, IsFreeHandle}
use Rattle.aio_handle.proofs.own_handles.find_free.Goals as goal

not-both : (b : Bool) → b ≡ true → b ≡ false → ⊥
not-both b e f = cc

pub loop-k-preserved : goal.loop-k-preserved
loop-k-preserved c k ge lt free = dite (ℕ_discrete k c.loop-k.k)
    (λ e. not-both c.is_free.result
    (c.is_free.ensures.1
    (subst (λ (n : ℕ). IsFreeHandle (own_at c.args.own.now n)) e free)) c.if-is_free.false)
    (λ ne. c.loop-k.invariant k ge (omega arith) free)

pub returns-clause-none : goal.returns-clause-none
returns-clause-none c k ge lt = let done = c.loop-k-test.false in
    c.loop-k.invariant k ge (omega arith)
