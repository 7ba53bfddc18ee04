-- An outcome is exact, and complete where nothing failed.
use Rattle.std.proofs.Common.{◌≡◌, ◌≢◌, ◌⊎◌, ℕ, ◌<◌, List, refl, sym, ap, arith, inl, inr}
use Rattle.std.specs.Prelude.{Option}
use Rattle.std.proofs.lemmas.Bool.{cases_lt}
use Rattle.aio_disk.specs.Counts.{ShelfCounts}
use Rattle.run_report.specs.Run.{SynchronousRun, RunWrites, EarlierFit, FitsInOrder}
use Rattle.run_report.specs.Causes.{HasCauses, NamesFirstTooLong, IsComplete}
use Rattle.run_report.specs.declared.report.Outcome.{Outcome}
use Rattle.run_report.specs.declared.report.Outcome.TheVariants.{Usage, CannotOpen}
use Rattle.run_report.specs.declared.report.Outcome.TheVariants.{NoLength, Unread, CannotWrite}
use Rattle.run_report.specs.declared.report.Outcome.TheVariants.{NoMemory, TooLong}

-- the first relation that is too long is one alone
first_too_long : (limit : ℕ) (blocks : ℕ → ℕ) (q r : ℕ) → limit < blocks q
    → EarlierFit limit blocks q → limit < blocks r → EarlierFit limit blocks r → q ≡ r
first_too_long limit blocks q r long_q fit_q long_r fit_r = elim (cases_lt q r) [
  | inl below ↦ absurd (let within = fit_r q below in omega arith)
  | inr above ↦ elim (cases_lt r q) [
    | inl under ↦ absurd (let within = fit_q r under in omega arith)
    | inr equal ↦ omega arith
  ]
]

pub exact : (run : SynchronousRun) (o : Outcome) → FitsInOrder run.limit run.lengths run.relations o
    → NamesFirstTooLong run o
exact run NoMemory fits r below long fit usage opens lengths memory = absurd (memory refl)
exact run Usage fits r below long fit usage opens lengths memory = absurd (usage refl)
exact run CannotOpen fits r below long fit usage opens lengths memory = absurd (opens refl)
exact run (NoLength q) fits r below long fit usage opens lengths memory =
    absurd (lengths q refl)
exact run (TooLong q) fits r below long fit usage opens lengths memory =
    ap TooLong (first_too_long run.limit run.lengths q r fits.1 fits.2 long fit)
exact run _ fits r below long fit usage opens lengths memory =
    absurd (let within = fits r below in omega arith)

-- the outcome of a run that named no fault
pub faultless : (run : SynchronousRun) (b a : Option (List ℕ)) (o : Outcome) → o ≢ Usage
    → o ≢ CannotOpen → ((r : ℕ) → o ≢ NoLength r) → ((r k : ℕ) → o ≢ Unread r k) → o ≢ CannotWrite
    → FitsInOrder run.limit run.lengths run.relations o → RunWrites run b a o
    → EarlierFit run.limit run.lengths run.relations → (o ≡ run.outcome) ⊎ (o ≡ NoMemory)
faultless run b a NoMemory usage disk length read write fits writes fit = inr refl
faultless run b a (Unread r k) usage disk length read write fits writes fit =
    absurd (read r k refl)
faultless run b a CannotWrite usage disk length read write fits writes fit = absurd (write refl)
faultless run b a Usage usage disk length read write fits writes fit = absurd (usage refl)
faultless run b a CannotOpen usage disk length read write fits writes fit = absurd (disk refl)
faultless run b a (NoLength r) usage disk length read write fits writes fit =
    absurd (length r refl)
faultless run b a (TooLong r) usage disk length read write fits writes fit =
    absurd (let within = fit r fits.0 in let long = fits.1 in omega arith)
faultless run b a _ usage disk length read write fits writes fit = inl (sym writes.0)

pub complete : (run : SynchronousRun) (before now : ShelfCounts) (wb wn : ℕ)
    (b a : Option (List ℕ)) (o : Outcome) → o ≢ Usage → HasCauses before now wb wn o
    → FitsInOrder run.limit run.lengths run.relations o → RunWrites run b a o
    → IsComplete run before now wb wn o
complete run before now wb wn b a o usage causes fits writes opens lengths reads failed fit =
    faultless run b a o usage (λ is. opens (causes.cannot_open is))
    (λ r is. lengths (causes.no_length r is)) (λ r k is. reads (causes.unread r k is))
    (λ is. failed (causes.cannot_write is)) fits writes fit
