-- Actors that have no token out, and the one that has offered an I/O.
use Rattle.std.proofs.Common.{◌≡◌, ℕ, refl, sym}
use Rattle.std.proofs.Common.{subst, arith}
use Rattle.aio_word.specs.declared.WaitRef.{WaitRef}
use Rattle.aio_word.specs.declared.Word.{Word}
use Rattle.aio_word.specs.declared.Known.{Known}
use Rattle.aio_handle.specs.CallEvents.{WordLoaded}
use Rattle.aio_handle.specs.TableInvariant.{initial_known}
use Rattle.aio_handle.specs.ContractViews.{TableView, ActorView}
use Rattle.example_handle.specs.ActorPair.{IsIdle, IsInFlightAbout}

-- an actor of a new table has no token out
pub idle-new : (t : TableView) (n : ℕ) (x : ActorView)
    → x ≡ record { table = t.table; known = initial_known t.config n } → IsIdle t x
idle-new t n x e = subst (λ (z : ActorView). IsIdle t z) (sym e)
    ((refl, refl), (refl, λ r. omega arith))

-- a look leaves an I/O offered
pub still-offered : (t : WaitRef) (n h : ℕ) (w : Word) (p q : Known) → WordLoaded h w p q
    → IsInFlightAbout t n p → IsInFlightAbout t n q
still-offered t n h w p q l o = subst (λ (x : Known). IsInFlightAbout t n x) (sym l.is) record {
  in_flight = record { since = o.in_flight.since; until = o.in_flight.until };
  only = record { out = o.only.out; lives = o.only.lives };
  aim = o.aim;
}
