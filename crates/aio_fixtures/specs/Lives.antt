-- The lives of incarnations in an actor's list: begun by Defined, ended by Reclaimed.
use Rattle.std.specs.Prelude.{◌≡◌, ◌≢◌, ◌+◌, ◌≤◌, List, [], ◌∷◌, None}
use Rattle.aio_word.specs.declared.Known.{Known}
use Rattle.aio_word.specs.declared.Kind.TheVariants as kind
use Rattle.aio_word.specs.declared.Mark.{Mark}
use Rattle.aio_word.specs.declared.WaitRef.{WaitRef}
use Rattle.aio_word.specs.Events.{mark_count}
use Rattle.aio_word.specs.Tokens.{IsInFlight, make_mark}

-- no life was begun or ended
abbrev pub KeepsLives : Known → Known → Type 0
KeepsLives p q = (t : WaitRef)
    → (mark_count t kind.Defined q.marks ≡ mark_count t kind.Defined p.marks)
    × (mark_count t kind.Reclaimed q.marks ≡ mark_count t kind.Reclaimed p.marks)

-- the life of u alone was begun, and none was ended
abbrev pub BeginsLife : WaitRef → Known → Known → Type 0
BeginsLife u p q = (t : WaitRef)
    → (mark_count t kind.Defined q.marks ≡ mark_count t kind.Defined p.marks
    + mark_count t kind.Defined
    (make_mark u kind.Defined ∷ [])) × (mark_count t kind.Reclaimed q.marks
    ≡ mark_count t kind.Reclaimed p.marks)

-- the life of u alone was ended, and none was begun
pub record EndsLife (u : WaitRef) (p q : Known) : Type 0 where
  pub out : q.out ≡ p.out
  pub lives : (t : WaitRef)
      → (mark_count t kind.Defined q.marks ≡ mark_count t kind.Defined p.marks)
      × (mark_count t kind.Reclaimed q.marks ≡ mark_count t kind.Reclaimed p.marks
      + mark_count t kind.Reclaimed (make_mark u kind.Reclaimed ∷ []))

abbrev pub defined_marks : List WaitRef → List Mark
defined_marks [] = []
defined_marks (t ∷ ts) = make_mark t kind.Defined ∷ defined_marks ts

-- no handle is handed out, and the lives of these incarnations alone are begun and not ended
pub record HasUnreclaimed (ts : List WaitRef) (p : Known) : Type 0 where
  pub out : p.out ≡ None
  pub lives : (t : WaitRef) → mark_count t kind.Defined p.marks
      ≤ mark_count t kind.Reclaimed p.marks + mark_count t kind.Defined (defined_marks ts)

-- the actor has submitted t, and keeps what it had in flight beside it
pub record IsSubmitted (t : WaitRef) (p q : Known) : Type 0 where
  pub token : IsInFlight q t
  pub others_in_flight : (u : WaitRef) → IsInFlight p u → (u ≢ t) × IsInFlight q u
  pub unreclaimed : (ts : List WaitRef) → HasUnreclaimed ts p → HasUnreclaimed (t ∷ ts) q
