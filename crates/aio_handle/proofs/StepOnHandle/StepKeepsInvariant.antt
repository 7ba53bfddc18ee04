-- A step on one handle keeps the rule of the table.
use Rattle.std.proofs.Common.{◌≡◌, ◌≢◌, ℕ, ◌+◌, ◌*◌, ◌<◌, max, true, List, [], ◌∷◌, ◌++◌}
use Rattle.std.proofs.Common.{set, ◌==◌, refl, sym, ap, ◌∙◌, subst, inl, ⊎_elim, arith, length-set}
use Rattle.std.proofs.Common.{Option}
use Rattle.std.proofs.lemmas.Bool.Decides.{nat_tests}
use mathlib.Core.Option.{some}
use mathlib.Core.Option as maybe
use Rattle.atomic_table.specs.Table.{State}
use Rattle.aio_word.specs.declared.Config.{Config}
use Rattle.aio_word.specs.declared.Step.{Step as Event}
use Rattle.aio_word.specs.declared.Step.TheVariants as event
use Rattle.aio_word.specs.declared.WaitRef.{WaitRef}
use Rattle.aio_word.specs.declared.Word.{Word}
use Rattle.aio_word.specs.declared.Known.{Known}
use Rattle.aio_word.specs.Words.{packed_word, word_place, word_rank}
use Rattle.aio_word.specs.Events.{handle_count, owner, count_at_rank, wait_ref, is_allowed}
use Rattle.aio_word.specs.Stands.{IsIn, seen_rank}
use Rattle.aio_word.specs.StandsByRank.{StandsForHandleByRank}
use Rattle.aio_word.proofs.ReplacedElement.{in-append, in-left, in-right, in-here}
use Rattle.aio_word.proofs.AppendKeepsHandle.{place-small, rank-in-bounds}
use Rattle.aio_word.proofs.ListWithMark.{in-others, others-in}
use Rattle.aio_handle.specs.declared.record.Label.{Label}
use Rattle.aio_handle.specs.TableInvariant.{KnownMatchesWord, SlotMatchesWord, HandleInvariant}
use Rattle.aio_handle.specs.TableInvariant.{IsLawfulActor, TableInvariant}
use Rattle.aio_handle.specs.KnownChanges.{known_after}
use Rattle.aio_handle.specs.CallEvents.{EventMade, IsByOwner, generation_of}
use Rattle.aio_handle.proofs.StateAtStep.{StepFinds, stood-here, ruled-here, actor-here, others}
use Rattle.aio_handle.proofs.StateAtStep.{before-here}
use Rattle.aio_handle.proofs.StepOnHandle.EventEffects.{ListEffect, list-effect}
use Rattle.aio_handle.proofs.StepOnHandle.NoteEffects.{StepOfAnyActor, NoteEffect}
use Rattle.aio_handle.proofs.SeatLists.{index-below}
use Rattle.atomic_table.proofs.Lists.{set_here, set_else}
use Rattle.aio_handle.proofs.StepOnHandle.InvariantAfterStep.{invariant-after}
use Rattle.aio_handle.proofs.StepOnHandle.MomentsAroundStep.{Passes, along, alone, reached-now, passes}

same-nat : (a b : ℕ) → (a == b) ≡ true → a ≡ b
same-nat a b h = grind (arith, nat_tests)

in-same : (h g g' : ℕ) (a a' : List ℕ) (aims : List (WaitRef × List ℕ)) → g' ≡ g → a' ≡ a
    → IsIn (wait_ref h g, a) aims → IsIn (wait_ref h g', a') aims
in-same h g g' a a' aims eg ea i = subst (λ (z : WaitRef × List ℕ). IsIn z aims)
    (λ k. (wait_ref h (sym eg k), sym ea k)) i

module _ {R : Type 0} {label : R → Label} {aim_in : R → List ℕ} {Fits : R → Type 0} {c : Config}
    {s : State (Option R) (List Known)} {r : TableInvariant label aim_in Fits c s} {id h : ℕ}
    {p : Known} (f : StepFinds label aim_in Fits c s r id h p) (range : h < handle_count c) where
  abbrev front : List Known
  front = f.lying.front

  abbrev w : Word
  w = f.w

  small : word_place w < 8
  small = place-small w.state w.claimed

  abbrev back : List Known
  back = f.lying.back

  abbrev ruled : HandleInvariant label aim_in Fits c (front ++ p ∷ back) h w f.home
  ruled = ruled-here f

  actor : IsLawfulActor c p
  actor = actor-here f

  before : StandsForHandleByRank c (front ++ p ∷ back) h w
  before = stood-here f

  module _ (e : Event) (w' : Word) (a : List ℕ) where
    abbrev p1 : Known
    p1 = known_after e h w w' a p

    small' : word_place w' < 8
    small' = place-small w'.state w'.claimed

    module _ (aim' : List ℕ) (d : NoteEffect c h r.ws w w' e ruled.aim aim' p p1) where
      g : ListEffect c h front back p p1 w w'
      g = list-effect f range e w' a d.row d.allowed

      in-old : (aims : List (WaitRef × List ℕ))
          → ((x : WaitRef × List ℕ) → IsIn x aims → x.0.handle ≡ h
          → (8 * x.0.generation + 2 < word_rank w)
          × (x.0.generation ≡ w.generation → x.1 ≡ ruled.aim))
          → (x : WaitRef × List ℕ) → IsIn x aims → x.0.handle ≡ h
          → (8 * x.0.generation + 2 < word_rank w')
          × (x.0.generation ≡ w'.generation → x.1 ≡ aim')
      in-old aims was x i eh =
          let t = was x i eh in let lt = t.0 in let up = g.grows in let sm = small in let sm' =
          small' in (
            omega arith,
            (λ same. t.1 (omega arith) ∙ sym (d.same_aim (omega arith) (omega arith))),
          )

      known-other : (q : Known) → IsIn q (front ++ back) → KnownMatchesWord c h w' aim' q
      known-other q i =
          let j = others-in front back p q i in
          let k = ruled.known q j in record {
            out = λ o n. ⊎_elim
                (λ own. absurd (others f q i (o ∙ sym own)))
                (λ (x : StepOfAnyActor w w').
                ((λ y. absurd (x.now y.0)), (λ y. absurd (x.was ((k.out o n).1 y).0)))) d.who;
            own_generation = λ o. ⊎_elim
                (λ own. absurd (others f q i (o ∙ sym own)))
                (λ (x : StepOfAnyActor w w'). x.generation ∙ k.own_generation o) d.who;
            aims = in-old q.aims k.aims;
            submitted = λ o _. ⊎_elim
                (λ own. absurd (others f q i (o ∙ sym own)))
                (λ (x : StepOfAnyActor w w'). in-same h w.generation w'.generation ruled.aim aim'
                q.aims
                x.generation (d.same_aim x.place x.generation) (k.submitted o x.place)) d.who;
            held = λ lt more.
                let st = (rank-in-bounds c (front ++ p ∷ back) h w before q j
                (8 * w'.generation + 3) more).1 in
                let up = g.grows in let sm = small in let sm' = small' in
                let same : w'.generation ≡ w.generation = omega arith in
                in-same h w.generation w'.generation ruled.aim aim' q.aims same
                (d.same_aim (omega arith) same)
                (k.held (omega arith)
                (subst (λ (z : ℕ). 0 < count_at_rank h (8 * z + 3) q.marks) same more));
          }

      known-own : KnownMatchesWord c h w' aim' p1
      known-own =
          let k = ruled.known p (in-here front back p) in record {
            out = d.out;
            own_generation = d.own_generation;
            aims = ⊎_elim
                (λ (e', _, _). subst
                (λ (z : List (WaitRef × List ℕ)). (x : WaitRef × List ℕ) → IsIn x z
                → x.0.handle ≡ h → (8 * x.0.generation + 2 < word_rank w')
                × (x.0.generation ≡ w'.generation → x.1 ≡ aim')) (sym e')
                (in-old p.aims k.aims))
                (λ (e', same, lt). subst
                (λ (z : List (WaitRef × List ℕ)). (x : WaitRef × List ℕ) → IsIn x z
                → x.0.handle ≡ h → (8 * x.0.generation + 2 < word_rank w')
                × (x.0.generation ≡ w'.generation → x.1 ≡ aim')) (sym e')
                (λ x i eh. ⊎_elim (λ old. in-old p.aims k.aims x old eh) (λ new. ⊎_elim
                (λ y. (
                  subst (λ (z : WaitRef × List ℕ). 8 * z.0.generation + 2 < word_rank w') y lt,
                  (λ _. sym (ap (λ (z : WaitRef × List ℕ). z.1) y)),
                ))
                (λ y. absurd y) new) (in-append x p.aims ((wait_ref h w.generation, aim') ∷ []) i)))
                d.aims;
            submitted = λ o lt. ⊎_elim
                (λ (e', n2, n3).
                let up = g.grows in let one = g.by_one in let sm = small in let sm' = small' in
                let same : w'.generation ≡ w.generation = omega arith in
                subst (λ (z : List (WaitRef × List ℕ)). IsIn (wait_ref h w'.generation, aim') z)
                (sym e')
                (in-same h w.generation w'.generation ruled.aim aim' p.aims same
                (d.same_aim (omega arith) same) (k.submitted o (omega arith))))
                (λ (e', same, _). subst
                (λ (z : List (WaitRef × List ℕ)). IsIn (wait_ref h w'.generation, aim') z) (sym e')
                (in-same h w.generation w'.generation aim' aim'
                (p.aims ++ (wait_ref h w.generation, aim') ∷ []) same refl
                (in-right (wait_ref h w.generation, aim') p.aims
                ((wait_ref h w.generation, aim') ∷ [])
                (inl refl))))
                d.aims;
            held = λ lt more. ⊎_elim
                (λ (e', n2, n3).
                let st = (rank-in-bounds c (front ++ p1 ∷ back) h w' g.words_match_lists p1
                (in-here front back p1)
                (8 * w'.generation + 3) more).1 in
                let up = g.grows in let one = g.by_one in let sm = small in let sm' = small' in
                let same : w'.generation ≡ w.generation = omega arith in
                let was = g.claims_was n3
                (subst (λ (z : ℕ). 0 < count_at_rank h (8 * z + 3) p1.marks) same more) in
                subst (λ (z : List (WaitRef × List ℕ)). IsIn (wait_ref h w'.generation, aim') z)
                (sym e')
                (in-same h w.generation w'.generation ruled.aim aim' p.aims same
                (d.same_aim (omega arith) same) (k.held (omega arith) was)))
                (λ (e', same, _). subst
                (λ (z : List (WaitRef × List ℕ)). IsIn (wait_ref h w'.generation, aim') z) (sym e')
                (in-same h w.generation w'.generation aim' aim'
                (p.aims ++ (wait_ref h w.generation, aim') ∷ []) same refl
                (in-right (wait_ref h w.generation, aim') p.aims
                ((wait_ref h w.generation, aim') ∷ [])
                (inl refl))))
                d.aims;
          }

      elsewhere : (i : ℕ) (v : Word) (aim : List ℕ) → i ≢ h → KnownMatchesWord c i v aim p
          → KnownMatchesWord c i v aim p1
      elsewhere i v aim ne k =
          let more : (x : WaitRef × List ℕ) → IsIn x p.aims → IsIn x p1.aims =
          λ x j. ⊎_elim
          (λ (e', _, _). subst (λ (z : List (WaitRef × List ℕ)). IsIn x z) (sym e') j)
          (λ (e', _, _). subst (λ (z : List (WaitRef × List ℕ)). IsIn x z) (sym e')
          (in-left x p.aims ((wait_ref h w.generation, aim') ∷ []) j)) d.aims in record {
            out = λ o n. let t = d.out_else (wait_ref i n) ne in let k' = k.out o n in
                ((λ x. t.0 (k'.0 x)), (λ x. k'.1 (t.1 x)));
            own_generation = λ o. k.own_generation o ∙ ap (λ (z : ℕ). c.start + z) (sym (g.lives_else i ne));
            aims = λ x j eh. k.aims x
                (⊎_elim (λ (e', _, _). subst (λ (z : List (WaitRef × List ℕ)). IsIn x z) e' j)
                (λ (e', _, _). ⊎_elim (λ old. old)
                (λ new. ⊎_elim
                (λ y. absurd (ne (sym eh ∙ sym (ap (λ (z : WaitRef × List ℕ). z.0.handle) y))))
                (λ y. absurd y) new)
                (in-append x p.aims ((wait_ref h w.generation, aim') ∷ [])
                (subst (λ (z : List (WaitRef × List ℕ)). IsIn x z) e' j))) d.aims) eh;
            submitted = λ o lt. more (wait_ref i v.generation, aim) (k.submitted o lt);
            held = λ lt mark'. more (wait_ref i v.generation, aim)
                (k.held lt (subst (λ (z : ℕ). 0 < z)
                (g.notes.times_elsewhere i ne (8 * v.generation + 3)) mark'));
          }

      pub known-all : (q : Known) → IsIn q (front ++ p1 ∷ back) → KnownMatchesWord c h w' aim' q
      known-all q i = ⊎_elim
          (λ x. subst (λ (z : Known). KnownMatchesWord c h w' aim' z) x known-own)
          (λ o. known-other q o) (in-others front back p1 q i)

      actor-now : IsLawfulActor c p1
      actor-now = record {
        config = actor.config;
        number = actor.number;
        seen =
            length-set p.seen h (max (seen_rank p h) (word_rank w')) ∙ actor.seen;
        out = d.is_out;
      }

      pub invariant-kept : (home' : maybe.Option (Option R))
          → SlotMatchesWord label aim_in Fits h w' aim' home'
          → TableInvariant label aim_in Fits c
          record {
            words = set s.words h (packed_word w');
            homes = set s.homes h home';
            views = set s.views id (p1 ∷ []);
          }
      invariant-kept home' slot =
          let next = along f e w' a d.row d.allowed d.free in
          invariant-after f range (set s.homes h home') home' (length-set s.homes h home')
          (λ i ne. set_else s.homes h i home' ne)
          (set_here s.homes h home' (index-below s.homes h f.home f.home_is)) w' p1 g.notes g.words_match_lists
          (alone f e w' a d.row d.allowed d.free)
          record { aim = aim'; slot = slot; known = known-all } elsewhere actor-now next.0
          (reached-now f e w' a d.row d.allowed d.free) next.2

      own-by-event : (x : Event) → is_allowed c p.number p.marks h w.generation x ≡ true
          → IsByOwner x
          → p.number ≡ owner c h
      own-by-event event.HandOut y o = same-nat p.number (owner c h) y
      own-by-event event.Release y o = same-nat p.number (owner c h) y
      own-by-event event.Define y o = same-nat p.number (owner c h) y
      own-by-event event.Stage y o = same-nat p.number (owner c h) y
      own-by-event event.Submit y o = same-nat p.number (owner c h) y
      own-by-event event.Claim y o = absurd o
      own-by-event (event.Io class) y o = absurd o
      own-by-event event.Shared y o = absurd o
      own-by-event event.Local y o = same-nat p.number (owner c h) y
      own-by-event event.Reclaim y o = same-nat p.number (owner c h) y

      pub event-made : EventMade e h w w' a p p1
      event-made = let x : Passes p.config h w w' e p p1 = subst
          (λ (z : Config). Passes z h w w' e p p1) (sym actor.config)
          (passes f e w' a d.row d.allowed d.free g) in record {
            moment = x.moment;
            then = x.then;
            is_step = x.is_step;
            row = d.row;
            is = refl;
            before = before-here f;
            now = g.now;
            by_owner = λ o. subst (λ (z : Config). p.number ≡ owner z h) (sym actor.config)
                (own-by-event e d.allowed o);
            own_generation = subst (λ (z : Config). p.number ≡ owner z h → w.generation ≡ generation_of z p h)
                (sym actor.config) (λ o. (ruled.known p (in-here front back p)).own_generation o);
          }
