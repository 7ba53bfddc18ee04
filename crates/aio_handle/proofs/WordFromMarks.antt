-- What an actor's list tells of the word of a handle.
use Rattle.std.proofs.Common.{◌≡◌, ℕ, ◌+◌, ◌*◌, ◌<◌, ◌≤◌, ◌⊎◌, Bool, true, false, List, ◌∷◌}
use Rattle.std.proofs.Common.{◌++◌, refl, sym, ◌∙◌, subst, inl}
use Rattle.std.proofs.Common.{inr, ⊎_elim, arith, Option, Some, None}
use Rattle.atomic_table.specs.Table.{State}
use Rattle.aio_word.specs.declared.Config.{Config}
use Rattle.aio_word.specs.declared.Class.{Class}
use Rattle.aio_word.specs.declared.Class.TheVariants.{Unended}
use Rattle.aio_word.specs.declared.State.{State as WordState}
use Rattle.aio_word.specs.declared.State.TheVariants.{Idle, HandedOut, Defined, Staged}
use Rattle.aio_word.specs.declared.State.TheVariants.{Submitted, CompletedIo}
use Rattle.aio_word.specs.declared.State.TheVariants.{CompletedShared, CompletedLocal}
use Rattle.aio_word.specs.declared.Kind.TheVariants as kind
use Rattle.aio_word.specs.declared.Word.{Word}
use Rattle.aio_word.specs.declared.Known.{Known}
use Rattle.aio_word.specs.declared.WaitRef.{WaitRef}
use Rattle.aio_word.specs.Words.{ClaimFits, ClassFits, state_place, word_place, word_rank}
use Rattle.aio_word.specs.Events.{owner, count_at_rank, wait_ref, lives_ended}
use Rattle.aio_word.specs.Stands.{IsIn, seen_rank}
use Rattle.aio_word.specs.Tokens.{IsDefined, IsStaged, IsInFlight, IsLocal, IsClaimed, IsExecuted}
use Rattle.aio_word.proofs.ReplacedElement.{in-here}
use Rattle.aio_word.proofs.AppendKeepsHandle.{mark_by_parts, place-small, rank-in-bounds}
use Rattle.aio_word.proofs.AppendKeepsHandle.{counted-in}
use Rattle.aio_word.proofs.OwnMarksBoundWord.{owner-at, owner-below, claimer-at, claimer-below}
use Rattle.aio_word.proofs.OwnMarksBoundWord.{own-mark}
use Rattle.aio_word.proofs.StateByPlace.{state_at_place, state-at, claim-at}
use Rattle.aio_handle.specs.declared.record.Label.{Label}
use Rattle.aio_handle.specs.TableInvariant.{TableInvariant}
use Rattle.aio_handle.specs.LifeWords.{idle_word, handed_out_word, defined_word, staged_word}
use Rattle.aio_handle.specs.LifeWords.{claimed_word, executed_word, completed_word, taken_word}
use Rattle.aio_handle.proofs.StateAtStep.{word-is, StepFinds, stood-here, known-matches-word}
use Rattle.aio_handle.proofs.StateAtStep.{actor-here, lists-here, numbered-here}

pub idle-or-out : (s : WordState) (b : Bool) → state_place s b ≡ 0 → (s ≡ Idle) ⊎ (s ≡ HandedOut)
idle-or-out Idle b e = inl refl
idle-or-out HandedOut b e = inr refl
idle-or-out Defined b e = absurd (omega arith)
idle-or-out Staged b e = absurd (omega arith)
idle-or-out Submitted true e = absurd (omega arith)
idle-or-out Submitted false e = absurd (omega arith)
idle-or-out CompletedIo b e = absurd (omega arith)
idle-or-out CompletedShared b e = absurd (omega arith)
idle-or-out CompletedLocal b e = absurd (omega arith)

pub some-same : (a b : WaitRef) → Some a ≡ Some b → a ≡ b
some-same a b e = cc

pub none-some : {A : Type 0} (a : A) → None ≡ Some a → ⊥
none-some a e = cc

module _ {R : Type 0} {label : R → Label} {aim_in : R → List ℕ} {Fits : R → Type 0} {c : Config}
    {s : State (Option R) (List Known)} {r : TableInvariant label aim_in Fits c s} {id h : ℕ}
    {p : Known} (f : StepFinds label aim_in Fits c s r id h p) (g : ℕ) where
  abbrev w : Word
  w = f.w

  abbrev front : List Known
  front = f.lying.front

  abbrev back : List Known
  back = f.lying.back

  here : IsIn p (front ++ p ∷ back)
  here = in-here front back p

  small : word_place w < 8
  small = place-small w.state w.claimed

  pub owns : (i : ℕ) → i < 8 → (i < 3) ⊎ (5 < i) → 0 < count_at_rank h (8 * g + i) p.marks
      → p.number ≡ owner c h
  owns i si ki since = own-mark c p h g i
      (lists-here f p here) si ki since

  -- the word by its state
  exact : (st : WordState) (b : Bool) (class : Class) → w.state ≡ st
      → (ClaimFits st w.claimed → w.claimed ≡ b) → (ClassFits st w.class → w.class ≡ class)
      → w.generation ≡ g → w ≡ record { state = st; claimed = b; class = class; generation = g }
  exact st b class es eb ec eg =
      let l = (stood-here f).lawful in
      word-is w st b class g es (eb (subst (λ (z : WordState). ClaimFits z w.claimed) es l.claim))
      (ec (subst (λ (z : WordState). ClassFits z w.class) es l.class)) eg

  owner-rank : (i : ℕ) → i < 7 → (i < 2) ⊎ (4 < i) → (i < 3) ⊎ (5 < i)
      → 0 < count_at_rank h (8 * g + i) p.marks → count_at_rank h (8 * g + (i + 1)) p.marks ≡ 0
      → word_rank w ≡ 8 * g + (i + 1)
  owner-rank i si ki oi since until = owner-at c front back p h w
      (stood-here f) (lists-here f)
      (numbered-here f)
      (owns i (omega arith) oi since) g i si ki since until

  generation-at : (n : ℕ) → n < 8 → word_rank w ≡ 8 * g + n → w.generation ≡ g
  generation-at n sn e = let sm = small in omega arith

  place-at : (n : ℕ) → n < 8 → word_rank w ≡ 8 * g + n → word_place w ≡ n
  place-at n sn e = let sm = small in omega arith

  by-rank : (n : ℕ) → 0 < n → n < 8 → word_rank w ≡ 8 * g + n → w.state ≡ state_at_place n
  by-rank n more sn e = state-at n w.state w.claimed more (place-at n sn e)

  pub is-handed_out_word : p.out ≡ Some (wait_ref h g) → w ≡ handed_out_word g
  is-handed_out_word out = let own =
      ((actor-here f).out (wait_ref h g) out).1 in
      let t = ((known-matches-word f).out own g).1 out in
      exact HandedOut false Unended t.0 (λ z. z) (λ z. z) t.1

  -- by the owner's marks the handle is Idle where its generation is not defined and not handed out
  pub is-idle_word : p.number ≡ owner c h → p.out ≡ None → g ≡ c.start + lives_ended h p.marks
      → count_at_rank h (8 * g + 0) p.marks ≡ 0 → w ≡ idle_word g
  is-idle_word own out gen until =
      let k = known-matches-word f in
      let own_generation = k.own_generation own in
      let hs = stood-here f in
      let below : word_rank w ≤ 8 * g + 0 = owner-below c front back p h w hs
      (lists-here f)
      (numbered-here f) own g 0 (omega arith) (inl (omega arith))
      (let b = hs.begun in omega arith) until in
      let same : w.generation ≡ g = omega arith in
      let zero' : word_place w ≡ 0 = omega arith in
      exact Idle false Unended
      (⊎_elim (λ e. e) (λ o. absurd (none-some (wait_ref h g) (sym out
      ∙ (k.out own g).0 (o, same))))
      (idle-or-out w.state w.claimed zero')) (λ z. z) (λ z. z) same

  pub is-defined_word : IsDefined p (wait_ref h g) → w ≡ defined_word g
  is-defined_word t =
      let z : count_at_rank h (8 * g + 1) p.marks ≡ 0 = let u = t.until in omega arith in
      let e : word_rank w ≡ 8 * g + 1 = owner-rank 0 (omega arith) (inl (omega arith))
      (inl (omega arith)) t.since z in
      exact Defined false Unended (by-rank 1 (omega arith) (omega arith) e)
      (λ z. z) (λ z. z) (generation-at 1 (omega arith) e)

  pub is-staged_word : IsStaged p (wait_ref h g) → w ≡ staged_word g
  is-staged_word t =
      let z : count_at_rank h (8 * g + 2) p.marks ≡ 0 = let u = t.until in omega arith in
      let e : word_rank w ≡ 8 * g + 2 = owner-rank 1 (omega arith) (inl (omega arith))
      (inl (omega arith)) t.since z in
      exact Staged false Unended (by-rank 2 (omega arith) (omega arith) e) (λ z. z)
      (λ z. z) (generation-at 2 (omega arith) e)

  pub is-completed_word : IsInFlight p (wait_ref h g) → 8 * g + 6 ≤ seen_rank p h
      → w ≡ completed_word w.class g
  is-completed_word t saw =
      let z : count_at_rank h (8 * g + 6) p.marks ≡ 0 = let u = t.until in omega arith in
      let hs = stood-here f in
      let lo = hs.seen p here in
      let st = (rank-in-bounds c (front ++ p ∷ back) h w hs p here (8 * g + 2) t.since).0 in
      let hi : word_rank w ≤ 8 * g + 6 = owner-below c front back p h w hs
      (lists-here f)
      (numbered-here f)
      (owns 2 (omega arith) (inl (omega arith)) t.since) g 6 (omega arith) (inr (omega arith))
      (omega arith) z in
      let e : word_rank w ≡ 8 * g + 6 = omega arith in
      exact CompletedShared false w.class
      (by-rank 6 (omega arith) (omega arith) e) (λ z. z) (λ z. refl)
      (generation-at 6 (omega arith) e)

  pub is-taken_word : IsLocal p (wait_ref h g) → w ≡ taken_word w.class g
  is-taken_word t =
      let e : word_rank w ≡ 8 * g + 7 = owner-rank 6 (omega arith) (inr (omega arith))
      (inr (omega arith)) t.since t.until in
      exact CompletedLocal false w.class (by-rank 7 (omega arith) (omega arith) e)
      (λ z. z) (λ z. refl) (generation-at 7 (omega arith) e)

  pub is-claimed_word : IsClaimed p (wait_ref h g) → w ≡ claimed_word g
  is-claimed_word t =
      let z : count_at_rank h (8 * g + 4) p.marks ≡ 0 = let u = t.until in omega arith in
      let e : word_rank w ≡ 8 * g + 4 = claimer-at c front back p h w
      (stood-here f) g t.since z in
      exact Submitted true Unended (by-rank 4 (omega arith) (omega arith) e)
      (λ _. claim-at w.state w.claimed (place-at 4 (omega arith) e)) (λ z. z) (generation-at 4 (omega arith) e)

  -- the claimer has the Claimed mark too
  pub has-claimed : (class : Class) → IsExecuted class p (wait_ref h g)
      → 0 < count_at_rank h (8 * g + 3) p.marks
  has-claimed class t = let io : 0 < count_at_rank h (8 * g + 4) p.marks = counted-in
      (mark_by_parts h g (kind.Io class)) p.marks t.since in let le =
      ((stood-here f).claimed p here g).0 in omega arith

  pub is-executed_word : (class : Class) → IsExecuted class p (wait_ref h g)
      → w ≡ executed_word class g
  is-executed_word class t =
      let hs = stood-here f in
      let io : 0 < count_at_rank h (8 * g + 4) p.marks = counted-in
      (mark_by_parts h g (kind.Io class)) p.marks t.since in
      let lo = (rank-in-bounds c (front ++ p ∷ back) h w hs p here (8 * g + 4) io).1 in
      let hi : word_rank w ≤ 8 * g + 5 = claimer-below c front back p h w hs g
      (has-claimed class t) t.until in
      let e : word_rank w ≡ 8 * g + 5 = omega arith in
      let gen = generation-at 5 (omega arith) e in
      exact CompletedIo true class (by-rank 5 (omega arith) (omega arith) e) (λ z. z)
      (λ z. sym (hs.class_of_io p here (mark_by_parts h g (kind.Io class)) class t.since refl
      (sym gen) refl)) gen
