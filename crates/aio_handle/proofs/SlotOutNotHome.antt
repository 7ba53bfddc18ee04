-- A slot that an actor's list says is out is not at home.
use Rattle.std.proofs.Common.{◌≡◌, ℕ, ◌+◌, ◌*◌, ◌<◌, ◌≤◌, ◌⊎◌, ◌==◌, Bool, true, false, List}
use Rattle.std.proofs.Common.{[], ◌∷◌, ◌++◌, sum_by, sym, ◌∙◌}
use Rattle.std.proofs.Common.{subst, inl, inr, ⊎_elim, arith, Option}
use mathlib.Core.Logic.{dite}
use native.Mathlib.Decide.{ℕ_discrete}
use mathlib.Core.Option.{some, none, some-injective, some-ne-none}
use lib.ListN.{get_elem?}
use mathlib.Core.Option as maybe
use Rattle.atomic_table.specs.Table.{State}
use Rattle.aio_word.specs.declared.Config.{Config}
use Rattle.aio_word.specs.declared.State.{State as WordState}
use Rattle.aio_word.specs.declared.State.TheVariants.{Idle, HandedOut, Defined, Staged}
use Rattle.aio_word.specs.declared.State.TheVariants.{Submitted, CompletedIo}
use Rattle.aio_word.specs.declared.State.TheVariants.{CompletedShared, CompletedLocal}
use Rattle.aio_word.specs.declared.Word.{Word}
use Rattle.aio_word.specs.declared.Known.{Known}
use Rattle.aio_word.specs.Words.{state_place, word_place, word_rank}
use Rattle.aio_word.specs.Events.{handle_count, count_at_rank, wait_ref}
use Rattle.aio_word.specs.Stands.{IsIn, one_if, IsLawfulList}
use Rattle.aio_word.specs.StandsByRank.{StandsForHandleByRank}
use Rattle.aio_word.proofs.ReplacedElement.{in-here}
use Rattle.aio_word.proofs.AppendKeepsHandle.{place-small, rank-in-bounds}
use Rattle.aio_word.proofs.OwnMarksBoundWord.{owner-below, claimer-below, own-mark}
use Rattle.aio_handle.specs.declared.record.Label.{Label}
use Rattle.aio_handle.specs.TableInvariant.{SlotInState, TableInvariant}
use Rattle.aio_handle.specs.Seats.{IsOutBetween, SlotIsOut, out_spans}
use Rattle.aio_handle.proofs.StateAtStep.{StepFinds, step-finds, stood-here, ruled-here}
use Rattle.aio_handle.proofs.StateAtStep.{known-matches-word, actor-here}
use Rattle.std.proofs.Common.{length, set}
use Rattle.atomic_table.proofs.Lists.{set_here}
use Rattle.aio_handle.proofs.SeatLists.{index-below}

-- the places at which the slot is out
abbrev IsOut : ℕ → Type 0
IsOut n = (n ≡ 1) ⊎ ((n ≡ 2) ⊎ ((n ≡ 4) ⊎ ((n ≡ 5) ⊎ (n ≡ 7))))

no-zero : IsOut 0 → ⊥
no-zero o = ⊎_elim (λ x. omega arith)
    (λ o. ⊎_elim (λ x. omega arith)
    (λ o. ⊎_elim (λ x. omega arith) (λ o. ⊎_elim (λ x. omega arith) (λ x. omega arith) o) o) o) o

no-three : IsOut 3 → ⊥
no-three o = ⊎_elim (λ x. omega arith)
    (λ o. ⊎_elim (λ x. omega arith)
    (λ o. ⊎_elim (λ x. omega arith) (λ o. ⊎_elim (λ x. omega arith) (λ x. omega arith) o) o) o) o

no-six : IsOut 6 → ⊥
no-six o = ⊎_elim (λ x. omega arith)
    (λ o. ⊎_elim (λ x. omega arith)
    (λ o. ⊎_elim (λ x. omega arith) (λ o. ⊎_elim (λ x. omega arith) (λ x. omega arith) o) o) o) o

module _ {R : Type 0} (label : R → Label) (aim_in : R → List ℕ) (Fits : R → Type 0) where
  out-at : (h : ℕ) (w : Word) (aim : List ℕ) (home : maybe.Option (Option R)) (s : WordState)
      (b : Bool) → IsOut (state_place s b) → SlotInState label aim_in Fits h w aim home s b
      → home ≡ none
  out-at h w aim home Idle b o t = absurd (no-zero o)
  out-at h w aim home HandedOut b o t = t
  out-at h w aim home Defined b o t = t
  out-at h w aim home Staged b o t = t
  out-at h w aim home Submitted true o t = t
  out-at h w aim home Submitted false o t = absurd (no-three o)
  out-at h w aim home CompletedIo b o t = t
  out-at h w aim home CompletedShared b o t = absurd (no-six o)
  out-at h w aim home CompletedLocal b o t = t

module _ {R : Type 0} {label : R → Label} {aim_in : R → List ℕ} {Fits : R → Type 0} {c : Config}
    {s : State (Option R) (List Known)} {r : TableInvariant label aim_in Fits c s} {id h : ℕ}
    {p : Known} (f : StepFinds label aim_in Fits c s r id h p) where
  abbrev w : Word
  w = f.w

  abbrev front : List Known
  front = f.lying.front

  abbrev back : List Known
  back = f.lying.back

  words_match_lists : StandsForHandleByRank c (front ++ p ∷ back) h w
  words_match_lists = stood-here f

  lists : (q : Known) → IsIn q (front ++ p ∷ back) → IsLawfulList c q
  lists q i = r.words_match_lists.each_list q (subst (λ (z : List Known). IsIn q z) (sym f.lying.now) i)

  distinct_numbers : sum_by (λ (q : Known). one_if (q.number == p.number)) (front ++ p ∷ back) ≤ 1
  distinct_numbers = subst
      (λ (z : List Known). sum_by
      (λ (y : Known). one_if (y.number == p.number)) z ≤ 1) f.lying.now
      (r.words_match_lists.distinct_numbers p.number)

  small : word_place w < 8
  small = place-small w.state w.claimed

  is-out : IsOut (word_place w) → f.home ≡ none
  is-out o = let t = ruled-here f in
      out-at label aim_in Fits h w t.aim f.home w.state w.claimed o t.slot

  owner-rank : (g a b : ℕ) → a < 8 → b < 8 → a < b → (a < 3) ⊎ (5 < a) → (b < 3) ⊎ (5 < b)
      → IsOutBetween p (wait_ref h g) a b → (8 * g + a < word_rank w) × (word_rank w ≤ 8 * g + b)
  owner-rank g a b sa sb ab ka kb t =
      let st = rank-in-bounds c (front ++ p ∷ back) h w words_match_lists p (in-here front back p)
      (8 * g + a) t.since in let lo = st.0 in
      let own = own-mark c p h g a (lists p (in-here front back p)) sa ka t.since in (
        st.1,
        owner-below c front back p h w words_match_lists lists distinct_numbers own g b sb kb
            (omega arith) t.until,
      )

  claimer-rank : (g : ℕ) → IsOutBetween p (wait_ref h g) 3 5 → (8 * g + 3 < word_rank w)
      × (word_rank w ≤ 8 * g + 5)
  claimer-rank g t = (
    (rank-in-bounds c (front ++ p ∷ back) h w words_match_lists p (in-here front back p)
        (8 * g + 3) t.since).1,
    claimer-below c front back p h w words_match_lists g t.since t.until,
  )

  one-or-two : (g : ℕ) → 8 * g < word_rank w → word_rank w ≤ 8 * g + 2 → IsOut (word_place w)
  one-or-two g lo hi = let sm = small in
      dite (ℕ_discrete (word_place w) 1) inl (λ n. inr (inl (omega arith)))

  four-or-five : (g : ℕ) → 8 * g + 3 < word_rank w → word_rank w ≤ 8 * g + 5
      → IsOut (word_place w)
  four-or-five g lo hi = let sm = small in
      dite (ℕ_discrete (word_place w) 4) (λ e. inr (inr (inl e)))
      (λ n. inr (inr (inr (inl (omega arith)))))

  spanned : (g : ℕ) (span : ℕ × ℕ) → IsIn span out_spans
      → IsOutBetween p (wait_ref h g) span.0 span.1
      → IsOut (word_place w)
  spanned g span sp t = ⊎_elim
      (λ e. let u = subst (λ (z : ℕ × ℕ). IsOutBetween p (wait_ref h g) z.0 z.1) (sym e) t in
      let k =
      owner-rank g 0 2 (omega arith) (omega arith) (omega arith) (inl (omega arith))
      (inl (omega arith)) u in one-or-two g (let x = k.0 in omega arith) k.1)
      (λ sp. ⊎_elim
      (λ e. let u = subst (λ (z : ℕ × ℕ). IsOutBetween p (wait_ref h g) z.0 z.1) (sym e) t in
      let k =
      owner-rank g 1 2 (omega arith) (omega arith) (omega arith) (inl (omega arith))
      (inl (omega arith)) u in one-or-two g (let x = k.0 in omega arith) k.1)
      (λ sp. ⊎_elim
      (λ e. let u = subst (λ (z : ℕ × ℕ). IsOutBetween p (wait_ref h g) z.0 z.1) (sym e) t in
      let k =
      claimer-rank g u in four-or-five g k.0 k.1)
      (λ sp. ⊎_elim
      (λ e. let u = subst (λ (z : ℕ × ℕ). IsOutBetween p (wait_ref h g) z.0 z.1) (sym e) t in
      let le =
      (words_match_lists.claimed p (in-here front back p) g).0 in
      let io : 0 < count_at_rank h (8 * g + 4) p.marks = u.since in
      let cl : 0 < count_at_rank h (8 * g + 3) p.marks = omega arith in
      let k = claimer-rank g record { since = cl; until = u.until } in four-or-five g k.0 k.1)
      (λ sp. ⊎_elim
      (λ e. let u = subst (λ (z : ℕ × ℕ). IsOutBetween p (wait_ref h g) z.0 z.1) (sym e) t in
      let k =
      owner-rank g 6 7 (omega arith) (omega arith) (omega arith) (inr (omega arith))
      (inr (omega arith)) u in
      let lo = k.0 in let hi = k.1 in let sm = small in inr (inr (inr (inr (omega arith)))))
      (λ x. absurd x) sp) sp) sp) sp) sp

  pub out-not-home : SlotIsOut p h → f.home ≡ none
  out-not-home (g, away) = ⊎_elim
      (λ o. let t = ruled-here f in let a =
      actor-here f in
      let st : w.state ≡ HandedOut =
      (((known-matches-word f).out
      ((a.out (wait_ref h g) o).1) g).1
      o).0 in
      subst (λ (z : WordState). SlotInState label aim_in Fits h w t.aim f.home z w.claimed) st
      t.slot)
      (λ (span, sp, t). is-out (spanned g span sp t)) away

-- a slot that is at home is out with nobody
pub slot-at-home-not-out : {R : Type 0} (label : R → Label) (aim_in : R → List ℕ) (Fits : R
    → Type 0)
    (c : Config) (s : State (Option R) (List Known)) (r : TableInvariant label aim_in Fits c s)
    (id h : ℕ)
    (q : Known) (x : Option R)
    → get_elem? s.views id ≡ some (q ∷ []) → h < handle_count c
    → get_elem? s.homes h ≡ some (some x)
    → SlotIsOut q h → ⊥
slot-at-home-not-out label aim_in Fits c s r id h q x at range home away =
    let f = step-finds r id h q at range in
    let none' : f.home ≡ none = out-not-home f away in
    let is : some x ≡ f.home = some-injective (some x) f.home (sym home ∙ f.home_is) in
    some-ne-none x (is ∙ none')

module _ {R : Type 0} (label : R → Label) (aim_in : R → List ℕ) (Fits : R → Type 0)
    (c : Config) where
  pub slot-out-with-nobody : (s : State (Option R) (List Known)) (id h n : ℕ) (p q : Known)
      (x : Option R)
      → get_elem? s.views id ≡ some (p ∷ []) → h < handle_count c → h < length s.homes
      → TableInvariant label aim_in Fits c
      record {
        words = set s.words h n;
        homes = set s.homes h (some x);
        views =
            set s.views id (q ∷ []);
      } → SlotIsOut q h → ⊥
  slot-out-with-nobody s id h n p q x at range inside keep =
      slot-at-home-not-out label aim_in Fits c
      record {
        words = set s.words h n;
        homes = set s.homes h (some x);
        views =
            set s.views id (q ∷ []);
      } keep id h q x
      (set_here s.views id (q ∷ []) (index-below s.views id (p ∷ []) at)) range
      (set_here s.homes h (some x) inside)
