-- The machine's step keeps what its lists say of its words.
use Rattle.std.proofs.Common.{◌≡◌, ◌≢◌, ℕ, ◌+◌, Bool, true, List, ◌∷◌, ◌++◌, length}
use Rattle.std.proofs.Common.{set, refl, sym, ap, ◌∙◌, subst, arith, Some, length-set}
use Rattle.std.proofs.lemmas.Option.{slice_get_within}
use mathlib.Core.Option.{some}
use lib.ListN.{get_elem?}
use Rattle.aio_word.specs.declared.Config.{Config}
use Rattle.aio_word.specs.declared.State.TheVariants.{HandedOut}
use Rattle.aio_word.specs.declared.Step.{Step}
use Rattle.aio_word.specs.declared.Step.TheVariants as step
use Rattle.aio_word.specs.declared.Event.{Event}
use Rattle.aio_word.specs.declared.Mark.{Mark}
use Rattle.aio_word.specs.declared.Word.{Word}
use Rattle.aio_word.specs.declared.Known.{Known}
use Rattle.aio_word.specs.Events.{Machine, some_if, has_handed_out_from, owner}
use Rattle.aio_word.specs.Events.{word_after, kind_of_step, is_allowed}
use Rattle.aio_word.specs.Events.{with_mark, may_hand_out, machine_after}
use Rattle.aio_word.specs.Stands.{known_with_marks, machine_parts, Stands}
use Rattle.aio_word.specs.Stands.{IsLawfulMachine}
use Rattle.aio_word.specs.StandsByRank.{StandsByRank}
use Rattle.aio_word.proofs.AllowedStep.{allowed-step}
use Rattle.aio_word.proofs.RowConditions.{some_if-true, not-true}
use Rattle.aio_word.proofs.StepKeepsHandles.{all-handles-kept}
use Rattle.aio_word.proofs.RanksAgree.{stands-from-ranks, stands-by-rank}
use Rattle.aio_word.proofs.EventEffect.{get-at, EventEffect, same-nat, event-effect}
use Rattle.aio_word.proofs.NoneHandedOut.{none-out}
use Rattle.aio_word.proofs.ActorPosition.{actor-position}

-- the state of the word that comes is not that of a handle handed out
not-out : (b : Bool) (w w' : Word) → some_if b w ≡ Some w' → w.state ≢ HandedOut
    → w'.state ≢ HandedOut
not-out b w w' e n x = let t = some_if-true b w w' e in n (ap (λ (z : Word). z.state) t.1 ∙ x)

-- where the step hands its handle out, its owner had none
alone : (c : Config) (actor h g : ℕ) (marks : List Mark) (words : List Word) (w w' : Word) (e : Step)
    → is_allowed c actor marks h g e ≡ true → may_hand_out c actor words e ≡ true
    → word_after w e ≡ Some w' → w'.state ≡ HandedOut → (i : ℕ) (v : Word)
    → get_elem? words i ≡ some v → v.state ≡ HandedOut → owner c i ≡ owner c h → i ≡ h
alone c actor h g marks words w w' step.HandOut may free row x i v at out same = absurd
    (none-out c actor 0 words (not-true (has_handed_out_from c actor 0 words) free) i v at
    (ap (owner c) (let z : 0 + i ≡ i = omega arith in z)
    ∙ (same ∙ sym (same-nat actor (owner c h) may))) out)
alone c actor h g marks words w w' _ may free row x i v at out same =
    absurd (not-out _ _ w' row (λ y. cc) x)

module _ (c : Config) (m : Machine) (e : Event) (m' : Machine) (s : IsLawfulMachine c m)
    (t : EventEffect c m e m') where
  abbrev h : ℕ
  h = e.handle

  abbrev after : List Mark
  after = with_mark t.marks h e.generation (kind_of_step t.w.class e.step)

  -- the lists stand for the words after the event
  stands-after : Stands c m'.words (machine_parts c 0 m'.lists)
  stands-after =
      let p : Known = known_with_marks c e.actor t.marks in
      let q : Known = known_with_marks c e.actor after in
      let pl = actor-position c 0 m.lists e.actor t.marks t.list in
      let zero-plus : 0 + e.actor ≡ e.actor = omega arith in
      let now : machine_parts c 0 m.lists ≡ pl.front ++ p ∷ pl.back = pl.now
      ∙ ap (λ (i : ℕ). pl.front ++ known_with_marks c i t.marks ∷ pl.back) zero-plus in
      let then : machine_parts c 0 (set m.lists e.actor after) ≡ pl.front ++ q ∷ pl.back =
      pl.then after ∙ ap (λ (i : ℕ). pl.front ++ known_with_marks c i after ∷ pl.back) zero-plus in
      let before : StandsByRank c m.words (pl.front ++ p ∷ pl.back) =
      subst (λ (z : List Known). StandsByRank c m.words z) now
      (stands-by-rank c m.words (machine_parts c 0 m.lists) s.words_match_lists) in
      let at : get_elem? m.words h ≡ some t.w = get-at m.words h t.w t.word in
      let keep = allowed-step c pl.front pl.back h 0 p q t.w t.w' e.step
      (before.each_handle h t.w at) record {
        row = t.row;
        allowed = subst (λ (z : ℕ). is_allowed c e.actor t.marks h z e.step ≡ true)
            (sym t.generation) t.may;
        range = let x = s.words_match_lists.one_per_handle in let y = slice_get_within m.words h t.w t.word in omega arith;
        number = refl;
        marks = ap (λ (z : ℕ). with_mark t.marks h z (kind_of_step t.w.class e.step))
            (sym t.generation);
        seen = refl;
        known = omega arith;
      } in
      let done : StandsByRank c (set m.words h t.w') (pl.front ++ q ∷ pl.back) =
      all-handles-kept c m.words pl.front pl.back h p q t.w t.w' before at keep.1 keep.0
      (alone c e.actor h e.generation t.marks m.words t.w t.w' e.step t.may t.free t.row) in
      subst (λ (z : Machine). Stands c z.words (machine_parts c 0 z.lists)) (sym t.is)
      (subst (λ (z : List Known). Stands c (set m.words h t.w') z) (sym then)
      (stands-from-ranks c (set m.words h t.w') (pl.front ++ q ∷ pl.back) done))

-- every allowed event keeps it
pub step-keeps-machine : (c : Config) (m : Machine) (e : Event) (m' : Machine) → IsLawfulMachine c m
    → machine_after c m e ≡ Some m' → IsLawfulMachine c m'
step-keeps-machine c m e m' s h = let t = event-effect c m e m' h in record {
  words_match_lists = stands-after c m e m' s t;
  all = ap (λ (z : Machine). length z.lists) t.is
      ∙ (length-set m.lists e.actor (after c m e m' s t) ∙ s.all);
}
