-- The rule on damaged pages allows each mark of a read with the callbacks of a stream.
use Rattle.std.proofs.Common.{◌≡◌, ◌≢◌, ℕ, zero, suc, Bool, true, false, if◌then◌else◌, List, []}
use Rattle.std.proofs.Common.{◌∷◌, length, get_or, refl, sym, subst, Option}
use Rattle.page_check.specs.Told.{Told}
use Rattle.page_check.specs.declared.rules.DamagedPages.{DamagedPages}
use Rattle.page_check.specs.declared.rules.DamagedPages.TheVariants.{Refuse, Zero, Give}
use Rattle.page_check.specs.declared.rules.PageMark.{PageMark}
use Rattle.page_check.specs.declared.rules.PageMark.TheVariants.{Valid, Zeroed, Damaged}
use Rattle.page_check.specs.SynchronousAnswer.{AllowsMark}
use Rattle.aio_result.specs.declared.AioResult.{AioResult}
use Rattle.aio_word.specs.declared.Class.TheVariants.{Unended}
use Rattle.read_callbacks.specs.Chain.{is_bad, is_error, natural_part, Outcome, outcome_of}
use Rattle.read_callbacks.specs.Chain.{all_valid, marked_first, after_marking, after_file, raw_result}
use Rattle.read_callbacks.proofs.BadPagesMarked.{front_marks}
use Rattle.aio_callback.specs.ReadIoView.{ReadIoView, ReadFits, record_mark}
use Rattle.aio_callback.specs.StreamOutcomes.{stream_ids}
use Rattle.aio_callback.proofs.StreamReadEnds.{checked, held_by_stream}

abbrev AllowsAll : DamagedPages → List PageMark → Type 0
AllowsAll damaged marks = (i : ℕ) → AllowsMark damaged (get_or marks i Valid)

valid_allowed : (damaged : DamagedPages) (room : ℕ) → AllowsAll damaged (all_valid room)
valid_allowed damaged zero i = tt
valid_allowed damaged (suc room) zero = tt
valid_allowed damaged (suc room) (suc i) = valid_allowed damaged room i

module _ (damaged : DamagedPages) (mark : PageMark) (allowed : AllowsMark damaged mark) where
  one_allowed : (bad : Bool) → AllowsMark damaged (if bad then mark else Valid)
  one_allowed true = allowed
  one_allowed false = tt

  front_allowed : (sums : Bool) (from n : ℕ) (pages : List (List ℕ))
      → AllowsAll damaged (front_marks mark sums from n pages (all_valid (length pages)))
  front_allowed sums from zero pages i = valid_allowed damaged (length pages) i
  front_allowed sums from (suc n) [] i = tt
  front_allowed sums from (suc n) (p ∷ ps) zero = one_allowed (is_bad sums from p)
  front_allowed sums from (suc n) (p ∷ ps) (suc i) = front_allowed sums (suc from) n ps i

  either_allowed : (b : Bool) (x y : Outcome) → AllowsAll damaged x.marks
      → AllowsAll damaged y.marks → AllowsAll damaged (if b then x else y).marks
  either_allowed true x y l r = l
  either_allowed false x y l r = r

  marking_allowed : (sums : Bool) (from : ℕ) (pages : List (List ℕ)) (p : AioResult)
      → AllowsAll damaged
      (after_marking mark sums from (outcome_of p pages (all_valid (length pages)))).marks
  unfolding after_marking
  marking_allowed sums from pages p =
      let o : Outcome = outcome_of p pages (all_valid (length pages)) in
      either_allowed (is_error p.status) o (marked_first mark sums from (natural_part p.result) o)
      (valid_allowed damaged (length pages))
      (front_allowed sums from (natural_part p.result) pages)

checked_allowed : (r : ReadIoView) (damaged : DamagedPages) (pages : List (List ℕ)) (p : AioResult)
    → AllowsAll damaged (checked r damaged pages p).marks
checked_allowed r Refuse pages p = valid_allowed Refuse (length pages)
checked_allowed r Zero pages p = marking_allowed Zero Zeroed refl r.checksums r.first pages p
checked_allowed r Give pages p = marking_allowed Give Damaged refl r.checksums r.first pages p

pub marks_allowed : (told : Option Told) (relations : ℕ) (r : ReadIoView) (damaged : DamagedPages)
    → ReadFits told relations r → r.label.ended ≢ Unended → r.ids ≡ stream_ids damaged
    → (i : ℕ) → AllowsMark damaged (record_mark r i)
marks_allowed told relations r damaged f ended ids i =
    let c = f.ended ended in
    subst (λ (o : Outcome). AllowsMark damaged (get_or o.marks i Valid))
    (sym (held_by_stream told r damaged c ids))
    (checked_allowed r damaged c.read (after_file r.count (raw_result c.answer)) i)
