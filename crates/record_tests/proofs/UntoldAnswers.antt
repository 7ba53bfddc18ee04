-- Answers of records in the tests, where nothing is told.
use Rattle.std.proofs.Common.{◌≡◌, ℕ, ◌≤◌, refl, sym, subst, Option, Some, None}
use Rattle.page_check.specs.Told.{Told}
use Rattle.read_callbacks.specs.declared.chain.Raw.{Raw}
use Rattle.read_callbacks.specs.declared.chain.Raw.TheVariants.{Read, Failed}
use Rattle.read_callbacks.specs.Chain.{IsWithin}
use Rattle.aio_callback.specs.ReadIoView.{ReadIoView, IsToldRead, HasAnswer}
use Rattle.record_tests.specs.PendingReads.{IsPendingRead}

says_nothing : (r : ReadIoView) (blocks : ℕ) (answer : Raw) → r.count ≡ blocks
    → IsWithin blocks answer
    → IsToldRead None r answer r.pages
says_nothing r blocks Failed e w = tt
says_nothing r blocks (Read n) e w = (subst (λ (k : ℕ). n ≤ k) (sym e) w, tt)

still : (r : ReadIoView) (answer : Raw) → IsToldRead None r answer r.pages
    → IsToldRead None (record r { raw = Some answer }) answer r.pages
still r Failed h = tt
still r (Read n) h = h

given : (r : ReadIoView) (answer : Raw) → IsToldRead None r answer r.pages
    → HasAnswer None (record r { raw = Some answer })
given r answer h = record { answer = answer; is = refl; told_read = still r answer h }

pub answered_untold : (told : Option Told) (r s : ReadIoView) (blocks : ℕ) (answer : Raw)
    → told ≡ None → IsPendingRead blocks r → IsWithin blocks answer
    → s ≡ record r { raw = Some answer } → HasAnswer told s
answered_untold told r s blocks answer e a w is =
    subst (λ (t : Option Told). HasAnswer t s) (sym e)
    (subst (λ (z : ReadIoView). HasAnswer None z) (sym is)
    (given r answer (says_nothing r blocks answer a.some w)))
