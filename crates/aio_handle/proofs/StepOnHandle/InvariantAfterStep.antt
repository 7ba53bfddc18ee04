-- The rule of the table after a step on one handle, put together from what then holds of the handle
-- and of the actor. A look keeps it.
use Rattle.std.proofs.Common.{◌≡◌, ◌≢◌, ℕ, suc, ◌+◌, ◌<◌, ◌≤◌, max, List, [], ◌∷◌, ◌++◌, length}
use Rattle.std.proofs.Common.{get_or, set, sum_by, ◌==◌, le_refl, refl, sym, ap, ◌∙◌, subst, ⊎_elim}
use Rattle.std.proofs.Common.{arith, length-set, Option, Some, slice_get}
use Rattle.std.proofs.lemmas.List.{get_or-set_same, get_or-set_other}
use mathlib.Core.Option.{some, some-injective}
use mathlib.Core.Option as maybe
use lib.ListN.{get_elem?}
use lib.Seq.{map-set}
use Rattle.atomic_table.specs.Table.{State}
use Rattle.atomic_table.proofs.Lists.{at_set, set_again}
use Rattle.aio_word.specs.declared.Config.{Config}
use Rattle.aio_word.specs.declared.State.TheVariants.{HandedOut}
use Rattle.aio_word.specs.declared.Word.{Word}
use Rattle.aio_word.specs.declared.Known.{Known}
use Rattle.aio_word.specs.Words.{packed_word, word_rank}
use Rattle.aio_word.specs.Events.{Machine, IsReachable, handle_count, owner}
use Rattle.aio_word.specs.Stands.{IsIn, one_if, seen_rank, MachineHasParts}
use Rattle.aio_word.specs.StandsByRank.{StandsForHandleByRank, StandsByRank}
use Rattle.aio_word.proofs.ReplacedElement.{in-replaced, in-here, sum-replaced}
use Rattle.aio_word.proofs.StepKeepsHandles.{KeepsOtherHandles, handle-kept, all-handles-kept}
use Rattle.aio_handle.specs.declared.record.Label.{Label}
use Rattle.aio_handle.specs.TableInvariant.{lists_joined, KnownMatchesWord, HandleInvariant}
use Rattle.aio_handle.specs.TableInvariant.{IsLawfulActor, TableInvariant}
use Rattle.aio_handle.specs.KnownChanges.{known_after_look}
use Rattle.aio_handle.specs.CallEvents.{WordLoaded}
use Rattle.aio_handle.proofs.StateAtStep.{StepFinds, stood-here, ruled-here, actor-here}
use Rattle.aio_handle.proofs.StateAtStep.{before-here}
use Rattle.aio_handle.proofs.StateAtStep.{moment-here}

pub same-length : (a b : List Known) (p p' : Known) → length (a ++ p' ∷ b) ≡ length (a ++ p ∷ b)
same-length [] b p p' = refl
same-length (x ∷ a) b p p' = ap suc (same-length a b p p')

module _ {R : Type 0} {label : R → Label} {aim_in : R → List ℕ} {Fits : R → Type 0} {c : Config}
    {s : State (Option R) (List Known)} {r : TableInvariant label aim_in Fits c s} {id h : ℕ}
    {p : Known} (f : StepFinds label aim_in Fits c s r id h p) (range : h < handle_count c) where
  abbrev w : Word
  w = f.w

  abbrev front : List Known
  front = f.lying.front

  abbrev back : List Known
  back = f.lying.back

  before : StandsForHandleByRank c (front ++ p ∷ back) h w
  before = stood-here f

  abbrev ruled : HandleInvariant label aim_in Fits c (front ++ p ∷ back) h w f.home
  ruled = ruled-here f

  actor : IsLawfulActor c p
  actor = actor-here f

  -- with the greatest pair seen
  pub seen-max : (v : Word) → word_rank w ≤ word_rank v
      → get_or (set p.seen h (max (seen_rank p h) (word_rank v))) h 0 ≡ word_rank v
  seen-max v le = let e = get_or-set_same p.seen h (max (seen_rank p h) (word_rank v)) 0
      (let l = actor.seen in let x = range in omega arith) in let b : seen_rank p h ≤ word_rank w =
      before.seen p (in-here front back p) in omega arith

  -- the rule afterwards, from what holds of the handle and of the actor
  pub invariant-after : (homes' : List (maybe.Option (Option R))) (home' : maybe.Option (Option R))
      → length homes' ≡ length s.homes
      → ((i : ℕ) → i ≢ h → get_elem? homes' i ≡ get_elem? s.homes i)
      → get_elem? homes' h ≡ some home'
      → (w' : Word) (p' : Known) → KeepsOtherHandles c h p p'
      → StandsForHandleByRank c (front ++ p' ∷ back) h w'
      → (w'.state ≡ HandedOut → (i : ℕ) (v : Word) → get_elem? r.ws i ≡ some v → v.state ≡ HandedOut
      → owner c i ≡ owner c h → i ≡ h)
      → HandleInvariant label aim_in Fits c (front ++ p' ∷ back) h w' home'
      → ((i : ℕ) (v : Word) (aim : List ℕ) → i ≢ h → KnownMatchesWord c i v aim p
      → KnownMatchesWord c i v aim p') → IsLawfulActor c p'
      → (m' : Machine) → IsReachable c m' → MachineHasParts c m' (set r.ws h w')
      (front ++ p' ∷ back)
      → TableInvariant label aim_in Fits c
      record {
        words = set s.words h (packed_word w');
        homes = homes';
        views =
            set s.views id (p' ∷ []);
      }
  invariant-after homes' home' one_per_handle others' mine w' p' n here alone ruled' elsewhere actor' m'
      reached'
      is' =
      let now = f.lying.now in
      let then : lists_joined (set s.views id (p' ∷ [])) ≡ front ++ p' ∷ back = f.lying.then
      (p' ∷ []) in
      record {
        ws = set r.ws h w';
        packed_words = ap (λ (z : List ℕ). set z h (packed_word w')) r.packed_words
            ∙ sym (map-set packed_word r.ws h w');
        homes = one_per_handle ∙ r.homes;
        words_match_lists = subst (λ (z : List Known). StandsByRank c (set r.ws h w') z) (sym then)
            (all-handles-kept c r.ws front back h p p' w w'
            (subst (λ (z : List Known). StandsByRank c r.ws z) now r.words_match_lists) f.word n here alone);
        handle = λ i v home ei eh. subst
            (λ (z : List Known). HandleInvariant label aim_in Fits c z i v home) (sym then) (⊎_elim
            (λ (same, ev). subst
            (λ (z : ℕ). HandleInvariant label aim_in Fits c (front ++ p' ∷ back) z v home)
            (sym same)
            (subst (λ (z : Word). HandleInvariant label aim_in Fits c (front ++ p' ∷ back) h z home)
            ev
            (subst (λ (z : maybe.Option (Option R)). HandleInvariant label aim_in Fits c
            (front ++ p' ∷ back) h w' z)
            (some-injective home' home
            (sym mine ∙ (ap (get_elem? homes') (sym same) ∙ eh))) ruled')))
            (λ (ne, old). let t = r.handle i v home old (sym (others' i ne) ∙ eh) in record {
              aim = t.aim;
              slot = t.slot;
              known = λ q j. ⊎_elim
                  (λ e. subst (λ (z : Known). KnownMatchesWord c i v t.aim z) e
                  (elsewhere i v t.aim ne
                  (t.known p (subst (λ (z : List Known). IsIn p z) (sym now)
                  (in-here front back p)))))
                  (λ was. t.known q (subst (λ (z : List Known). IsIn q z) (sym now) was))
                  (in-replaced front back p p' q j);
            })
            (at_set r.ws h i w' v ei));
        actor = λ q j. ⊎_elim (λ e. subst (λ (z : Known). IsLawfulActor c z) e actor')
            (λ was. r.actor q (subst (λ (z : List Known). IsIn q z) (sym now) was))
            (in-replaced front back p p' q (subst (λ (z : List Known). IsIn q z) then j));
        all = ap length then ∙ (same-length front back p p' ∙ (sym (ap length now) ∙ r.all));
        present = λ k lt.
            let F : Known → ℕ = λ q. one_if (q.number == k) in
            let swap : sum_by F (front ++ p' ∷ back) + F p ≡ sum_by F (front ++ p ∷ back) + F p' =
            sum-replaced F front back p p' in
            let same : F p' ≡ F p = ap (λ (z : ℕ). one_if (z == k)) n.number in
            let was : 0 < sum_by F (front ++ p ∷ back) = subst
            (λ (z : List Known). 0 < sum_by F z) now (r.present k lt) in
            let new : 0 < sum_by F (front ++ p' ∷ back) = omega arith in
            subst (λ (z : List Known). 0 < sum_by F z) (sym then) new;
        machine = m';
        reached = reached';
        is = subst (λ (z : List Known). MachineHasParts c m' (set r.ws h w') z) (sym then) is';
      }

  -- a look keeps the rule too
  abbrev seen-it : Known
  seen-it = known_after_look h w p

  look-notes : KeepsOtherHandles c h p seen-it
  look-notes = record {
    number = refl;
    elsewhere = λ i ne. get_or-set_other p.seen h i (max (seen_rank p h) (word_rank w)) 0 ne;
    times_elsewhere = λ i ne t. refl;
    members_elsewhere = λ m j ne. j;
    list = λ l. record { in_range = l.in_range; in_owner_list = l.in_owner_list; ordered = l.ordered };
  }

  same-known : (i : ℕ) (v : Word) (aim : List ℕ) → KnownMatchesWord c i v aim p
      → KnownMatchesWord c i v aim seen-it
  same-known i v aim k =
      record { out = k.out; own_generation = k.own_generation; aims = k.aims; submitted = k.submitted; held = k.held }

  pub look-keeps : TableInvariant label aim_in Fits c
      record {
        words = set s.words h (packed_word w);
        homes = s.homes;
        views =
            set s.views id (seen-it ∷ []);
      }
  look-keeps = invariant-after s.homes f.home refl (λ i ne. refl) f.home_is w seen-it look-notes
      (handle-kept c front back h p seen-it w w before record {
        same_times = λ n. refl;
        members = λ m j x. j;
        row = record {
          rank = refl;
          generation = refl;
          class = refl;
          lawful = before.lawful;
          last = before.last;
        };
        seen = subst (λ (z : ℕ). z ≤ word_rank w) (sym (seen-max w (le_refl (word_rank w))))
            (le_refl (word_rank w));
      })
      (λ x i v e ho same. r.words_match_lists.one_out i h v w e f.word ho x same)
      record {
        aim = ruled.aim;
        slot = ruled.slot;
        known =
            λ q i. ⊎_elim
            (λ e. subst (λ (z : Known). KnownMatchesWord c h w ruled.aim z) e
            (same-known h w ruled.aim (ruled.known p (in-here front back p))))
            (λ was. ruled.known q was) (in-replaced front back p seen-it q i);
      }
      (λ i v aim ne k. same-known i v aim k)
      record {
        config = actor.config;
        number = actor.number;
        seen =
            length-set p.seen h (max (seen_rank p h) (word_rank w)) ∙ actor.seen;
        out = actor.out;
      }
      r.machine r.reached
      (let m : MachineHasParts c r.machine r.ws (front ++ p ∷ back) = subst
      (λ (z : List Known). MachineHasParts c r.machine r.ws z) f.lying.now r.is in record {
        words = m.words ∙ sym (set_again r.ws h w f.word);
        lists = λ q i. ⊎_elim
            (λ e. subst (λ (z : Known). slice_get r.machine.lists z.number ≡ Some z.marks) e
            (m.lists p (in-here front back p))) (λ was. m.lists q was)
            (in-replaced front back p seen-it q i);
        all = m.all;
      })

  pub word-loaded : WordLoaded h w p seen-it
  word-loaded = record {
    moment = moment-here f;
    lawful = before.lawful;
    is =
        refl;
    before = before-here f;
    now =
        seen-max w (le_refl (word_rank w));
  }
