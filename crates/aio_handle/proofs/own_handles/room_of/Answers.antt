use Rattle.std.proofs.Common.{◌≡◌, ℕ, ◌+◌, ◌<◌, ◌≤◌, List, length, max, subst, sym, arith}
use mathlib.Core.Logic.{dite}
use native.Mathlib.Decide.{ℕ_discrete, dec_le}
use Rattle.aio_handle.specs.declared.own_handles.OwnHandle.{OwnHandle}
use Rattle.aio_handle.specs.OwnHandles.{own_at}
use Rattle.aio_handle.proofs.own_handles.room_of.Goals as goal

record Greatest (own : List OwnHandle) (n greatest : ℕ) : Type 0 where
  each : (k : ℕ) → k < n → (own_at own k).generation ≤ greatest
  one : (k : ℕ) × (k < length own) × ((own_at own k).generation ≡ greatest)

one-more : (own : List OwnHandle) (n greatest new : ℕ) → n < length own
    → new ≡ max greatest (own_at own n).generation → Greatest own n greatest
    → Greatest own (n + 1) new
one-more own n greatest new lt is g = record {
  each = λ k less. dite (ℕ_discrete k n)
      (λ e. subst (λ (z : ℕ). (own_at own z).generation ≤ new) (sym e) (omega arith))
      (λ ne. let b = g.each k (omega arith) in omega arith);
  one = let (k, at, same) = g.one in dite (dec_le (own_at own n).generation greatest)
      (λ le. (k, at, omega arith))
      (λ more. (n, lt, omega arith));
}

pub loop-handle-preserved : goal.loop-handle-preserved
loop-handle-preserved c =
    let g = one-more c.args.own.now c.loop-handle.handle-index c.loop-handle.greatest
    c.max-greatest.result c.loop-handle-test.true c.max-greatest.ensures
    record { each = c.loop-handle.invariant.each; one = c.loop-handle.invariant.one }
    in record { each = g.each; one = g.one }

pub returns : goal.returns
returns c =
    let done = c.loop-handle-test.false in
    let (k, at, same) = c.loop-handle.invariant.one in
    let most = c.requires.bound k at in record {
      none = λ empty. absurd (omega arith);
      for_each = λ i less. let le = c.loop-handle.invariant.each i (omega arith) in omega arith;
      exact = λ _. (k, at, omega arith);
    }
