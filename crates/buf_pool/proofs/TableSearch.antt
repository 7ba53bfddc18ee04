-- What the search in the table comes to, after a change.
use Rattle.std.proofs.Common.{◌≡◌, ℕ, ◌+◌, ◌*◌, ◌^◌, ◌%◌, ◌<◌, ◌≤◌, List, Option, Some, None}
use Rattle.std.proofs.Common.{length}
use Rattle.std.proofs.Common.{is_none, is_some, false, refl, arith, ◌⊎◌, ⊎_elim, ◌∙◌, sym, subst}
use Rattle.std.proofs.lemmas.Bool.{cases_lt, cases_eq, false≢true}
use Rattle.std.proofs.lemmas.Nat.{mod_below}
use Rattle.std.proofs.Math.Nat.{div-lt_iff_lt-mul, mul-lt-mul_of_pos_right}
use Rattle.buf_pool.specs.declared.descriptor.Tag.{Tag}
use Rattle.buf_pool.specs.declared.descriptor.Descriptor.{Descriptor}
use Rattle.buf_pool.specs.Frames.{tag_at, IsAbsent}
use Rattle.buf_pool.specs.Probes.{slot_at, tag_hash, home_slot, probe, ProbesFind, KeepsFullSlots}
use Rattle.buf_pool.specs.Probes.{IsIndexed}
use Rattle.buf_pool.specs.Probes.{empty_slots}
use Rattle.buf_pool.proofs.CircularSteps.{all_round}
use Rattle.buf_pool.proofs.ElementCounts.{count_none}

-- a slot that the test finds empty
pub is_empty : (s : Option ℕ) → is_some s ≡ false → s ≡ None
is_empty None e = refl
is_empty (Some f) e = absurd (false≢true (sym e))

-- a slot that is not empty holds a frame
pub taken_holds : (s : Option ℕ) → (s ≡ None → ⊥) → (f : ℕ) × (s ≡ Some f)
taken_holds None h = absurd (h refl)
taken_holds (Some f) h = (f, refl)

-- what was found is found where the taken slots stay
pub reaches_kept : (old new : List (Option ℕ)) (tag : Tag) (f : ℕ) → KeepsFullSlots old new
    → ProbesFind
    old tag f → ProbesFind new tag f
reaches_kept old new tag f k r = record {
  steps = r.steps;
  within = omega (arith, k.size, r.within);
  there = rw k.size (k.full_slots _ _ r.there);
  before = λ j b e.
      let held = taken_holds _ (r.before j b) in
      let kept : probe new tag j ≡ Some held.0 = rw k.size (k.full_slots _ _ held.1) in
      cc;
}

-- the slot at which a search begins is one of the table
pub hash_below : (tag : Tag) → tag_hash tag < 2 ^ 32
unfolding tag_hash
hash_below tag =
    (div-lt_iff_lt-mul {k = 2 ^ 32} {x = (tag.relation * 2 ^ 32 + tag.block) * 0x9E37_79B9_7F4A_7C15
    % 2 ^ 64} {y = 2 ^ 32} (omega arith)).1
    (mod_below ((tag.relation * 2 ^ 32 + tag.block) * 0x9E37_79B9_7F4A_7C15) (2 ^ 64) (omega arith))

pub home_below : (tag : Tag) (size : ℕ) → 0 < size → home_slot tag size < size
unfolding home_slot
home_below tag size some =
    let scaled : tag_hash tag * size < 2 ^ 32 * size =
    mul-lt-mul_of_pos_right (hash_below tag) some in
    (div-lt_iff_lt-mul {k = 2 ^ 32} {x = tag_hash tag * size} {y = size} (omega arith)).1
    (omega (arith, scaled))

-- where the search finds no empty slot in a whole round there is none
pub no_empty_slot : (slots : List (Option ℕ)) (tag : Tag) → 0 < length slots →
    ((k : ℕ) → k < length slots → probe slots tag k ≡ None → ⊥) → empty_slots slots ≡ 0
unfolding home_slot
no_empty_slot slots tag some h =
    count_none (λ s. is_none s) None slots
    (all_round (λ at. is_none (slot_at slots at) ≡ false) (length slots)
    (home_slot tag (length slots)) (home_below tag (length slots) some)
    (λ step b. let held = taken_holds _ (h step b) in rw held.1 refl))

-- where the search passed no frame with the tag, and came to an empty slot or round the table, no
-- entry has the tag
pub absent_after : (slots : List (Option ℕ)) (frames : List Descriptor) (tag : Tag) (step : ℕ) →
    IsIndexed slots frames
    → ((k f : ℕ) → k < step → probe slots tag k ≡ Some f → tag_at frames f ≡ Some tag → ⊥)
    → (probe slots tag step ≡ None) ⊎ (length slots ≤ step) → IsAbsent frames tag
absent_after slots frames tag step indexed passed over f e =
    let r : ProbesFind slots tag f = indexed f tag e in
    ⊎_elim
    (λ (earlier : r.steps < step). passed r.steps f earlier r.there e)
    (λ (later : step ≤ r.steps).
    ⊎_elim
    (λ (empty : probe slots tag step ≡ None).
    ⊎_elim
    (λ (here : r.steps ≡ step). let clash : probe slots tag step ≡ Some f = rw (← here) r.there in
    cc)
    (λ (other : r.steps ≡ step → ⊥). r.before step (omega arith) empty)
    (cases_eq r.steps step))
    (λ (round : length slots ≤ step). omega (arith, r.within))
    over)
    (cases_lt r.steps step)

-- a search for the same tag that comes to the same frame
pub reaches_same : (slots : List (Option ℕ)) (t u : Tag) (f g : ℕ) → t ≡ u → f ≡ g
    → ProbesFind slots u
    g → ProbesFind slots t f
reaches_same slots t u f g tags frames r =
    let by_tag : Tag → Type 0 = λ x. ProbesFind slots x g in
    let by_frame : ℕ → Type 0 = λ x. ProbesFind slots t x in
    subst by_frame (sym frames) (subst by_tag (sym tags) r)
