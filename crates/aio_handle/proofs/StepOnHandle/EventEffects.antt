-- What an event on one handle does to the lists, whichever it is.
use Rattle.std.proofs.Common.{◌≡◌, ◌≢◌, ℕ, ◌+◌, ◌*◌, ◌<◌, ◌≤◌, ◌&&◌, max, Bool, true, false, List}
use Rattle.std.proofs.Common.{◌∷◌, ◌++◌, ◌==◌, le_refl, refl, sym, subst}
use Rattle.std.proofs.Common.{arith, Option, Some, None}
use Rattle.std.proofs.lemmas.Bool.Decides.{nat_tests}
use Rattle.atomic_table.specs.Table.{State}
use Rattle.aio_word.specs.declared.Config.{Config}
use Rattle.aio_word.specs.declared.Step.{Step as Event}
use Rattle.aio_word.specs.declared.Kind.{Kind}
use Rattle.aio_word.specs.declared.Mark.{Mark}
use Rattle.aio_word.specs.declared.Word.{Word}
use Rattle.aio_word.specs.declared.Known.{Known}
use Rattle.aio_word.specs.Words.{word_place, word_rank}
use Rattle.aio_word.specs.Events.{handle_count, kind_place, count_at_rank, lives_ended}
use Rattle.aio_word.specs.Events.{kind_of_step, with_mark, word_after, is_allowed}
use Rattle.aio_word.specs.Stands.{one_if, seen_rank}
use Rattle.aio_word.specs.StandsByRank.{StandsForHandleByRank}
use Rattle.aio_word.proofs.AllowedStep.{allowed-step}
use Rattle.aio_word.proofs.AppendKeepsHandle.{mark_by_parts, count_at_rank-push}
use Rattle.aio_word.proofs.EventRows.{WordChange, row-change, rank-grows}
use Rattle.aio_word.proofs.StepKeepsHandles.{KeepsOtherHandles}
use Rattle.aio_handle.specs.declared.record.Label.{Label}
use Rattle.aio_handle.specs.TableInvariant.{TableInvariant}
use Rattle.aio_handle.specs.KnownChanges.{known_after}
use Rattle.aio_handle.proofs.StateAtStep.{StepFinds, stood-here}
use Rattle.aio_handle.proofs.LivesCounted.{lives_ended-push, other-life}
use Rattle.aio_handle.proofs.StepOnHandle.InvariantAfterStep.{seen-max}

-- what an event does to the lists
pub record ListEffect (c : Config) (h : ℕ) (a b : List Known) (p p1 : Known)
    (w w' : Word) : Type 0 where
  pub words_match_lists : StandsForHandleByRank c (a ++ p1 ∷ b) h w'
  pub notes : KeepsOtherHandles c h p p1
  pub lives_else : (i : ℕ) → i ≢ h → lives_ended i p1.marks ≡ lives_ended i p.marks
  pub grows : word_rank w ≤ word_rank w'
  pub by_one : word_rank w' ≤ word_rank w + 1
  pub now : seen_rank p1 h ≡ word_rank w'
  pub claims_was : word_place w ≢ 3 → 0 < count_at_rank h (8 * w.generation + 3) p1.marks
      → 0 < count_at_rank h (8 * w.generation + 3) p.marks

rank-no : (b : Bool) (r n : ℕ) → r ≢ n → one_if (b && (r == n)) ≡ 0
rank-no true r n ne = grind (arith, nat_tests)
rank-no false r n ne = refl

lives-else : (i h g : ℕ) (o : Option Kind) (ms : List Mark) → i ≢ h
    → lives_ended i (with_mark ms h g o) ≡ lives_ended i ms
lives-else i h g None ms ne = refl
lives-else i h g (Some k) ms ne =
    let l = lives_ended-push i h g k ms in let no = other-life i h k ne in omega arith

claims-before : (h : ℕ) (w w' : Word) (o : Option Kind) (ms : List Mark) → WordChange w w' o
    → word_place w ≢ 3
    → 0 < count_at_rank h (8 * w.generation + 3) (with_mark ms h w.generation o)
    → 0 < count_at_rank h (8 * w.generation + 3) ms
claims-before h w w' None ms d ne more = more
claims-before h w w' (Some k) ms d ne more =
    let push = count_at_rank-push h (8 * w.generation + 3) ms (mark_by_parts h w.generation k) in
    let no = rank-no (h == h) (8 * w.generation + kind_place k) (8 * w.generation + 3)
    (λ x. ne (let z = d.place in omega arith)) in omega arith

module _ {R : Type 0} {label : R → Label} {aim_in : R → List ℕ} {Fits : R → Type 0} {c : Config}
    {s : State (Option R) (List Known)} {r : TableInvariant label aim_in Fits c s} {id h : ℕ}
    {p : Known} (f : StepFinds label aim_in Fits c s r id h p) (range : h < handle_count c)
    (e : Event) (w' : Word) (a : List ℕ) (row : word_after f.w e ≡ Some w')
    (allowed : is_allowed c p.number p.marks h f.w.generation e ≡ true) where
  abbrev w : Word
  w = f.w

  abbrev p1 : Known
  p1 = known_after e h w w' a p

  abbrev o : Option Kind
  o = kind_of_step w.class e

  before : StandsForHandleByRank c (f.lying.front ++ p ∷ f.lying.back) h w
  before = stood-here f

  change : WordChange w w' o
  change = row-change w w' e record { lawful = before.lawful; last = before.last } row

  now : seen_rank p1 h ≡ word_rank w'
  now = seen-max f range w' (rank-grows w w' o change).0

  pub list-effect : ListEffect c h f.lying.front f.lying.back p p1 w w'
  list-effect =
      let lists = allowed-step c f.lying.front f.lying.back h (max (seen_rank p h) (word_rank w')) p
      p1 w w' e before record {
        row = row;
        allowed = allowed;
        range = range;
        number = refl;
        marks = refl;
        seen = refl;
        known = subst (λ (z : ℕ). z ≤ word_rank w') (sym now) (le_refl (word_rank w'));
      } in record {
        words_match_lists = lists.0;
        notes = lists.1;
        lives_else = λ i ne. lives-else i h w.generation o p.marks ne;
        grows = (rank-grows w w' o change).0;
        by_one = (rank-grows w w' o change).1;
        now = now;
        claims_was = claims-before h w w' o p.marks change;
      }
