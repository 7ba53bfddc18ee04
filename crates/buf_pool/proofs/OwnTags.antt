-- The tags of a part stay its own, where one frame gets another entry.
use Rattle.std.proofs.Common.{◌≡◌, ℕ, ◌<◌, ◌≤◌, Bool, true, false, List, Option, Some, None, length}
use Rattle.std.proofs.Common.{set}
use Rattle.std.proofs.Common.{IfSome, MatchOption, ⊎_elim, ◌∙◌, ap, sym, subst, refl, arith}
use Rattle.std.proofs.lemmas.List.{get_or-set_same, get_or-set_other, length-set, get_or_past}
use Rattle.std.proofs.lemmas.Bool.{cases_eq, cases_lt}
use Rattle.aio_word.specs.declared.WaitRef.{WaitRef}
use Rattle.buf_pool.specs.declared.descriptor.Tag.{Tag}
use Rattle.buf_pool.specs.declared.descriptor.Descriptor.{Descriptor}
use Rattle.buf_pool.specs.declared.descriptor.Descriptor.TheVariants.{Free, InProgress, Valid}
use Rattle.buf_pool.specs.declared.share.Share.{Share}
use Rattle.buf_pool.specs.Frames.{descriptor_at, descriptor_tag, tag_at, with_pins}
use Rattle.buf_pool.specs.Frames.{frames_with_pins}
use Rattle.buf_pool.specs.Answers.{IsNotInProgress, entry_after_io}
use Rattle.buf_pool.specs.Parts.{HasOwnTags}

-- the frames are as many, and their tags are the part's own
pub record KeepsTags (share : Share) (old new : List Descriptor) : Type 0 where
  pub size : length new ≡ length old
  pub own : HasOwnTags share new

-- an entry of the same tag, or none
pub set_keeps : (share : Share) (old : List Descriptor) (f : ℕ) (entry : Descriptor)
    → HasOwnTags share old → ((tag : Tag) → descriptor_tag entry ≡ Some tag → tag_at old f
    ≡ Some tag)
    → KeepsTags share old (set old f entry)
set_keeps share old f entry own tags = record {
  size = length-set old f entry;
  own = λ g tag e.
      ⊎_elim
      (λ (same : g ≡ f).
      ⊎_elim
      (λ (inside : f < length old).
      let there : descriptor_tag entry ≡ Some tag = ap descriptor_tag
      (sym (get_or-set_same old f entry Free inside))
      ∙ ap (λ x. tag_at (set old f entry) x) (sym same) ∙ e in
      own f tag (tags tag there))
      (λ (past : length old ≤ f).
      let size : length (set old f entry) ≡ length old = length-set old f entry in
      let none : descriptor_at (set old f entry) g ≡ Free =
      get_or_past (set old f entry) g Free (omega arith) in
      let clash : None ≡ Some tag = ap descriptor_tag (sym none) ∙ e in
      cc)
      (cases_lt f (length old)))
      (λ (other : g ≡ f → ⊥). own g tag
      (ap descriptor_tag (sym (get_or-set_other old f g entry Free other)) ∙ e))
      (cases_eq g f);
}

pub same_keeps : (share : Share) (old new : List Descriptor) → HasOwnTags share old → new ≡ old
    → KeepsTags share old new
same_keeps share old new own e =
    subst (λ x. KeepsTags share old x) (sym e) (record { size = refl; own = own })

-- pins are no part of a tag
with_pins_tag : (entry : Descriptor) (pins : ℕ) → descriptor_tag (with_pins entry pins)
    ≡ descriptor_tag entry
with_pins_tag Free pins = refl
with_pins_tag (InProgress tag reference) pins = refl
with_pins_tag (Valid tag held) pins = refl

pub pins_keep : (share : Share) (old new : List Descriptor) (f pins : ℕ) → HasOwnTags share old
    → new ≡ frames_with_pins old f pins → KeepsTags share old new
pins_keep share old new f pins own e =
    subst (λ x. KeepsTags share old x) (sym e)
    (set_keeps share old f (with_pins (descriptor_at old f) pins) own
    (λ tag is. sym (with_pins_tag (descriptor_at old f) pins) ∙ is))

-- the end of a read leaves the tag, or drops it
end_tag : (entry : Descriptor) (t : Tag) (reference : WaitRef) (kept : Bool) (tag : Tag)
    → entry ≡ InProgress t reference
    → descriptor_tag (entry_after_io t kept) ≡ Some tag → descriptor_tag entry ≡ Some tag
end_tag entry t reference true tag is e = ap descriptor_tag is ∙ e
end_tag entry t reference false tag is e = absurd (let clash : None ≡ Some tag = e in cc)

pub end_keeps : (share : Share) (old new : List Descriptor) (t : Tag) (reference : WaitRef)
    (kept : Bool) (answer : Option ℕ)
    → HasOwnTags share old → MatchOption answer
    (IsNotInProgress old t reference × (new ≡ old))
    (λ f. (descriptor_at old f ≡ InProgress t reference)
    × (new ≡ set old f (entry_after_io t kept)))
    → KeepsTags share old new
end_keeps share old new t reference kept None own h = same_keeps share old new own h.1
end_keeps share old new t reference kept (Some f) own h =
    subst (λ x. KeepsTags share old x) (sym h.1)
    (set_keeps share old f (entry_after_io t kept) own
    (λ tag e. end_tag (descriptor_at old f) t reference kept tag h.0 e))

-- where there are pins, what is said of them holds
pub said_of_pins : (o : Option ℕ) (pins : ℕ) (P : ℕ → Type 0) → o ≡ Some pins → IfSome o P → P pins
said_of_pins o pins P e h =
    let family : Option ℕ → Type 0 = λ x. IfSome x P in
    subst family e h
