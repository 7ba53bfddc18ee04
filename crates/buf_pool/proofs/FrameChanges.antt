-- What stays where one frame gets another entry.
use Rattle.std.proofs.Common.{◌≡◌, ℕ, ◌<◌, Bool, List, Option, Some, length, set, count_by, ⊎_elim}
use Rattle.std.proofs.Common.{◌∙◌, ap, sym, subst}
use Rattle.std.proofs.lemmas.List.{get_or-set_same, get_or-set_other, length-set}
use Rattle.std.proofs.lemmas.Bool.{cases_eq}
use Rattle.aio_word.specs.declared.WaitRef.{WaitRef}
use Rattle.buf_pool.specs.declared.descriptor.Tag.{Tag}
use Rattle.buf_pool.specs.declared.descriptor.Descriptor.{Descriptor}
use Rattle.buf_pool.specs.declared.descriptor.Descriptor.TheVariants.{Free, InProgress}
use Rattle.buf_pool.specs.Frames.{descriptor_at, descriptor_tag, tag_at, is_free, IsAbsent}
use Rattle.buf_pool.specs.PoolLawful.{PoolLawful}
use Rattle.buf_pool.specs.Probes.{ProbesFind, IsIndexed}
use Rattle.buf_pool.specs.IndexInvariant.{IsTable, IsClock, AreFrames}

-- the new entry's tag stands at no other frame, and its reference is in range
pub record Fits (handles : ℕ) (frames : List Descriptor) (f : ℕ) (entry : Descriptor) : Type 0 where
  pub alone : (g : ℕ) (tag : Tag) → (g ≡ f → ⊥) → tag_at frames g ≡ Some tag → descriptor_tag entry
      ≡ Some
      tag → ⊥
  pub range : (tag : Tag) (reference : WaitRef) → entry ≡ InProgress tag reference
      → reference.handle < handles

-- an entry fits where it has the tag that the frame had
pub same_tag_fits : (handles : ℕ) (frames : List Descriptor) (f : ℕ) (entry : Descriptor)
    → PoolLawful handles
    frames
    → ((tag : Tag) → descriptor_tag entry ≡ Some tag → tag_at frames f ≡ Some tag)
    → ((tag : Tag) (reference : WaitRef) → entry ≡ InProgress tag reference → ⊥) → Fits handles
    frames f entry
same_tag_fits handles frames f entry lawful tags over = record {
  alone = λ g tag other e own. other (lawful.tags g f tag e (tags tag own));
  range = λ tag reference e. absurd (over tag reference e);
}

-- a new entry fits where its tag has none
pub absent_fits : (handles : ℕ) (frames : List Descriptor) (f : ℕ) (tag : Tag) (reference : WaitRef)
    → IsAbsent frames tag → reference.handle < handles → Fits handles frames f
    (InProgress tag reference)
absent_fits handles frames f tag reference absent b = record {
  alone = λ g other_tag other e own. absent g (e ∙ sym own);
  range = λ other_tag r e.
      let same : reference ≡ r = cc in
      let P : WaitRef → Type 0 = λ x. x.handle < handles in
      subst P same b;
}

-- the frames stay lawful
pub lawful_set : (handles : ℕ) (frames : List Descriptor) (f : ℕ) (entry : Descriptor)
    → f < length frames
    → PoolLawful handles frames → Fits handles frames f entry → PoolLawful handles
    (set frames f entry)
lawful_set handles frames f entry b lawful fits =
    let here : descriptor_at (set frames f entry) f ≡ entry =
    get_or-set_same frames f entry Free b in
    record {
      tags = λ g h tag e u.
          ⊎_elim
          (λ (gf : g ≡ f).
          ⊎_elim
          (λ (hf : h ≡ f). gf ∙ sym hf)
          (λ (hf : h ≡ f → ⊥).
          let there : descriptor_at (set frames f entry) h ≡ descriptor_at frames h =
          get_or-set_other frames
          f h entry Free hf in
          let own : descriptor_tag entry ≡ Some tag = ap descriptor_tag (sym here) ∙ ap
          (λ x. tag_at (set frames f entry) x) (sym gf) ∙ e in
          absurd (fits.alone h tag hf (ap descriptor_tag (sym there) ∙ u) own))
          (cases_eq h f))
          (λ (gf : g ≡ f → ⊥).
          let there : descriptor_at (set frames f entry) g ≡ descriptor_at frames g =
          get_or-set_other frames
          f g entry Free gf in
          ⊎_elim
          (λ (hf : h ≡ f).
          let own : descriptor_tag entry ≡ Some tag = ap descriptor_tag (sym here) ∙ ap
          (λ x. tag_at (set frames f entry) x) (sym hf) ∙ u in
          absurd (fits.alone g tag gf (ap descriptor_tag (sym there) ∙ e) own))
          (λ (hf : h ≡ f → ⊥).
          let that : descriptor_at (set frames f entry) h ≡ descriptor_at frames h =
          get_or-set_other frames f
          h entry Free hf in
          lawful.tags g h tag (ap descriptor_tag (sym there) ∙ e)
          (ap descriptor_tag (sym that) ∙ u))
          (cases_eq h f))
          (cases_eq g f);
      references = λ g tag reference e.
          ⊎_elim
          (λ (gf : g ≡ f). fits.range tag reference (sym here ∙ ap
          (λ x. descriptor_at (set frames f entry) x) (sym gf) ∙ e))
          (λ (gf : g ≡ f → ⊥). lawful.references g tag reference
          (sym (get_or-set_other frames f g entry Free gf) ∙ e))
          (cases_eq g f);
    }

-- each other entry is still found
pub others_found : (slots : List (Option ℕ)) (frames : List Descriptor) (f : ℕ) (entry : Descriptor)
    → IsIndexed slots frames
    → (g : ℕ) (tag : Tag) → (g ≡ f → ⊥) → tag_at (set frames f entry) g ≡ Some tag
    → ProbesFind slots
    tag g
others_found slots frames f entry indexed g tag gf e =
    indexed g tag (ap descriptor_tag (sym (get_or-set_other frames f g entry Free gf)) ∙ e)

-- the table stays sound where the new entry is found at the frame
pub table_set : (slots : List (Option ℕ)) (left : ℕ) (frames : List Descriptor) (f : ℕ)
    (entry : Descriptor)
    → f < length frames → IsTable slots left frames
    → ((tag : Tag) → descriptor_tag entry ≡ Some tag → ProbesFind slots tag f) → IsTable slots left
    (set frames f entry)
table_set slots left frames f entry b table found = record {
  size = rw length-set table.size;
  left = table.left;
  indexed = λ g tag e.
      ⊎_elim
      (λ (gf : g ≡ f).
      let own : descriptor_tag entry ≡ Some tag = ap descriptor_tag
      (sym (get_or-set_same frames f entry Free b)) ∙
      ap (λ x. tag_at (set frames f entry) x) (sym gf) ∙ e in
      let by_frame : ℕ → Type 0 = λ x. ProbesFind slots tag x in
      subst by_frame (sym gf) (found tag own))
      (λ (gf : g ≡ f → ⊥). others_found slots frames f entry table.indexed g tag gf e)
      (cases_eq g f);
}

-- the clock does not see what a frame holds
pub clock_set : (used : List Bool) (hand : ℕ) (frames : List Descriptor) (f : ℕ)
    (entry : Descriptor)
    → IsClock used hand frames → IsClock used hand (set frames f entry)
clock_set used hand frames f entry clock = record {
  size = rw length-set clock.size;
  hand = rw
      length-set clock.hand;
}

-- the frames stay sound, with another number of free ones
pub frames_set : (handles : ℕ) (frames : List Descriptor) (count from f : ℕ) (entry : Descriptor)
    (others : ℕ)
    (next : ℕ) → f < length frames → AreFrames handles frames count from
    → Fits handles frames f entry → others ≡ count_by is_free (set frames f entry) → next < length
    frames → AreFrames handles (set frames f entry) others next
frames_set handles frames count from f entry others next b are fits counted start = record {
  lawful = lawful_set handles frames f entry b are.lawful fits;
  least = rw length-set are.least;
  most = rw length-set are.most;
  vacant = counted;
  start = rw length-set start;
}
