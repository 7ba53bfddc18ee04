-- An allowed step keeps what the lists say of its handle, and of all others.
use Rattle.std.proofs.Common.{◌≡◌, ℕ, ◌+◌, ◌*◌, ◌<◌, ◌≤◌, nat_lt, true, List, [], ◌∷◌, ◌++◌}
use Rattle.std.proofs.Common.{get_or, set, refl, sym, ap, ◌∙◌, subst, arith, Option, Some, None}
use Rattle.std.proofs.lemmas.List.{get_or-set_other}
use Rattle.std.proofs.lemmas.Bool.Decides.{nat_tests}
use Rattle.aio_word.specs.declared.Class.{Class}
use Rattle.aio_word.specs.declared.Config.{Config}
use Rattle.aio_word.specs.declared.Kind.{Kind}
use Rattle.aio_word.specs.declared.Known.{Known}
use Rattle.aio_word.specs.declared.Mark.{Mark}
use Rattle.aio_word.specs.declared.Step.{Step}
use Rattle.aio_word.specs.declared.Step.TheVariants as step
use Rattle.aio_word.specs.declared.Word.{Word}
use Rattle.aio_word.specs.Words.{word_rank}
use Rattle.aio_word.specs.Events.{handle_count, owner, kind_place, count_at_rank, word_after}
use Rattle.std.specs.List.{AllPairs}
use Rattle.aio_word.specs.Events.{mark_rank, kind_of_step, is_allowed, with_mark}
use Rattle.aio_word.specs.Stands.{IsIn, IsOwnerKind, seen_rank}
use Rattle.aio_word.specs.StandsByRank.{StandsForHandleByRank}
use Rattle.aio_word.proofs.AppendKeepsHandle.{mark_by_parts, mark-below-word, append-keeps-handle}
use Rattle.aio_word.proofs.EventEffect.{same-nat}
use Rattle.aio_word.proofs.EventRows.{LawfulAndIdleAtLast, row-with-mark, row-without-mark}
use Rattle.aio_word.proofs.ListWithMark.{with_mark-adds}
use Rattle.aio_word.proofs.ReplacedElement.{in-here}
use Rattle.aio_word.proofs.StepKeepsHandles.{KeepsOtherHandles, handle-kept}

pub positive : (n : ℕ) → nat_lt 0 n ≡ true → 0 < n
positive n e = grind (arith, nat_tests)

-- the actor of the mark: the owner, or else the claimer
abbrev ActorFits : Config → ℕ → List Mark → ℕ → ℕ → Option Kind → Type 0
ActorFits c actor marks h g None = Unit {0}
ActorFits c actor marks h g (Some k) = (IsOwnerKind k → actor ≡ owner c h)
    × (3 < kind_place k → kind_place k < 6 → 0 < count_at_rank h (8 * g + 3) marks)

actor-fits : (c : Config) (actor : ℕ) (marks : List Mark) (h g : ℕ) (class : Class) (e : Step)
    → is_allowed c actor marks h g e ≡ true
    → ActorFits c actor marks h g (kind_of_step class e)
actor-fits c actor marks h g class step.HandOut may = tt
actor-fits c actor marks h g class step.Release may = tt
actor-fits c actor marks h g class step.Claim may = ((λ x. absurd x), (λ lo hi. absurd (omega arith)))
actor-fits c actor marks h g class (step.Io ended) may =
    ((λ x. absurd x), (λ lo hi. positive (count_at_rank h (8 * g + 3) marks) may))
actor-fits c actor marks h g class step.Shared may =
    ((λ x. absurd x), (λ lo hi. positive (count_at_rank h (8 * g + 3) marks) may))
actor-fits c actor marks h g class _ may =
    ((λ _. same-nat actor (owner c h) may), (λ lo hi. absurd (omega arith)))

-- the list of p, which becomes p', has the mark of the step, if it leaves one
pub record StepOfActor (c : Config) (h n : ℕ) (p p' : Known) (w w' : Word) (e : Step) : Type 0 where
  pub row : word_after w e ≡ Some w'
  pub allowed : is_allowed c p.number p.marks h w.generation e ≡ true
  pub range : h < handle_count c
  pub number : p'.number ≡ p.number
  pub marks : p'.marks ≡ with_mark p.marks h w.generation (kind_of_step w.class e)
  pub seen : p'.seen ≡ set p.seen h n
  pub known : seen_rank p' h ≤ word_rank w'

module _ (c : Config) (a b : List Known) (h n : ℕ) (p p' : Known) (w w' : Word) (e : Step)
    (s : StandsForHandleByRank c (a ++ p ∷ b) h w) (d : StepOfActor c h n p p' w w' e) where
  begun : LawfulAndIdleAtLast w
  begun = record { lawful = s.lawful; last = s.last }

  by-mark : (o : Option Kind) → kind_of_step w.class e ≡ o
      → ActorFits c p.number p.marks h w.generation o
      → StandsForHandleByRank c (a ++ p' ∷ b) h w' × KeepsOtherHandles c h p p'
  by-mark None is fits =
      let row = row-without-mark w w' e begun d.row is in
      let marks : p'.marks ≡ p.marks = d.marks ∙ ap (with_mark p.marks h w.generation) is in (
        handle-kept c a b h p p' w w' s record {
          same_times = λ i. ap (count_at_rank h i) marks;
          members = λ m j _. subst (λ (z : List Mark). IsIn m z) marks j;
          row = row;
          seen = d.known;
        },
        record {
          number = d.number;
          elsewhere = λ i ne. ap (λ (z : List ℕ). get_or z i 0) d.seen
              ∙ get_or-set_other p.seen h i n 0 ne;
          times_elsewhere = λ i ne t. ap (count_at_rank i t) marks;
          members_elsewhere = λ m j ne. subst (λ (z : List Mark). IsIn m z) marks j;
          list = λ l. record {
            in_range = λ m j. l.in_range m (subst (λ (z : List Mark). IsIn m z) marks j);
            in_owner_list = λ m j o. d.number
                ∙ l.in_owner_list m (subst (λ (z : List Mark). IsIn m z) marks j) o;
            ordered = subst (λ (z : List Mark). AllPairs (λ m n. m.handle ≡ n.handle
                → mark_rank m < mark_rank n) z) (sym marks) l.ordered;
          };
        },
      )
  by-mark (Some k) is fits =
      let row = row-with-mark w w' e k begun d.row is in
      let marks : p'.marks ≡ p.marks ++ mark_by_parts h w.generation k ∷ [] = d.marks
      ∙ ap (with_mark p.marks h w.generation) is in
      let place = row.place in (
        append-keeps-handle c a b h p p' w w' k s record {
          marks = marks;
          row = row;
          claims = λ lo hi. fits.1 (omega arith) (omega arith);
          seen = d.known;
        },
        with_mark-adds c h w.generation n k p p' d.number marks d.seen d.range fits.0
            (λ m j eh. let lt = mark-below-word c (a ++ p ∷ b) h w s p (in-here a b p) m j eh in
            omega arith),
      )

  -- what the lists say of the handle afterwards, and that the step changes no other
  pub allowed-step : StandsForHandleByRank c (a ++ p' ∷ b) h w' × KeepsOtherHandles c h p p'
  allowed-step = by-mark (kind_of_step w.class e) refl
      (actor-fits c p.number p.marks h w.generation w.class e d.allowed)
