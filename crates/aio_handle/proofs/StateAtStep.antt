-- What a step finds: the word of its handle, what lies in the slot, and what the rule says of both.
use Rattle.std.proofs.Common.{◌≡◌, ◌≢◌, ℕ, ◌<◌, ◌≤◌, ◌==◌, Bool, true, List, [], ◌∷◌}
use Rattle.std.proofs.Common.{◌++◌, map, get_or, sum_by, refl, sym, ap, ◌∙◌, subst, arith, Option}
use Rattle.std.proofs.lemmas.Bool.Decides.{nat_tests}
use mathlib.Core.Option.{some}
use mathlib.Core.Option as maybe
use lib.ListN.{get_elem?}
use Rattle.atomic_table.specs.Table.{State}
use Rattle.atomic_table.proofs.Lists.{at_map}
use Rattle.aio_word.specs.declared.Config.{Config}
use Rattle.aio_word.specs.declared.Class.{Class}
use Rattle.aio_word.specs.declared.State.{State as WordState}
use Rattle.aio_word.specs.declared.Word.{Word}
use Rattle.aio_word.specs.declared.Known.{Known}
use Rattle.aio_word.specs.Words.{packed_word, word_rank}
use Rattle.aio_word.specs.Events.{handle_count, make_word}
use Rattle.aio_word.specs.Stands.{IsIn, one_if, seen_rank, IsLawfulList, AtMoment, Stands}
use Rattle.aio_word.specs.StandsByRank.{StandsForHandleByRank}
use Rattle.aio_word.proofs.ReplacedElement.{in-here}
use Rattle.aio_word.proofs.ListWithMark.{other-number}
use Rattle.aio_word.proofs.StepIsMachineStep.{at-get}
use Rattle.aio_word.proofs.RanksAgree.{stands-from-ranks}
use Rattle.aio_handle.specs.declared.record.Label.{Label}
use Rattle.aio_handle.specs.TableInvariant.{lists_joined, KnownMatchesWord, HandleInvariant}
use Rattle.aio_handle.specs.TableInvariant.{IsLawfulActor, TableInvariant}
use Rattle.aio_handle.proofs.SeatLists.{ListIsAt, list-is-at, get_or-at, entry-at}

pub same-number : (a b : ℕ) → a ≡ b → (a == b) ≡ true
same-number a b e = grind (arith, nat_tests)

pub word-is : (w : Word) (s : WordState) (b : Bool) (c : Class) (g : ℕ) → w.state ≡ s
    → w.claimed ≡ b → w.class ≡ c → w.generation ≡ g → w ≡ make_word s b c g
word-is w s b c g es eb ec eg = λ k. make_word (es k) (eb k) (ec k) (eg k)

pub record StepFinds {R : Type 0} (label : R → Label) (aim_in : R → List ℕ) (Fits : R → Type 0)
    (c : Config) (s : State (Option R) (List Known)) (r : TableInvariant label aim_in Fits c s)
    (id h : ℕ)
    (p : Known) : Type 0 where
  pub lying : ListIsAt s.views id (p ∷ [])
  pub w : Word
  pub word : get_elem? r.ws h ≡ some w
  pub home : maybe.Option (Option R)
  pub home_is : get_elem? s.homes h ≡ some home
  pub found : get_or s.words h 0 ≡ packed_word w

module _ {R : Type 0} {label : R → Label} {aim_in : R → List ℕ} {Fits : R → Type 0} {c : Config}
    {s : State (Option R) (List Known)} where
  pub step-finds : (r : TableInvariant label aim_in Fits c s) (id h : ℕ) (p : Known) → get_elem? s.views id ≡ some (p ∷ []) → h < handle_count c
      → StepFinds label aim_in Fits c s r id h p
  step-finds r id h p at range =
      let (w, word) = entry-at r.ws h (let x = r.words_match_lists.one_per_handle in omega arith) in
      let (home, is) = entry-at s.homes h (let x = r.homes in omega arith) in record {
        lying = list-is-at s.views id (p ∷ []) at;
        w = w;
        word = word;
        home = home;
        home_is = is;
        found = ap (λ (z : List ℕ). get_or z h 0) r.packed_words ∙ get_or-at (map packed_word r.ws) h
            (packed_word w) 0 (at_map packed_word r.ws h w word);
      }

  module _ {r : TableInvariant label aim_in Fits c s} {id h : ℕ} {p : Known}
      (f : StepFinds label aim_in Fits c s r id h p) where
    abbrev w : Word
    w = f.w

    abbrev front : List Known
    front = f.lying.front

    abbrev back : List Known
    back = f.lying.back

    -- the same, where it is known which word it is
    abbrev pub refined : (v : Word) → f.w ≡ v → StepFinds label aim_in Fits c s r id h p
    refined v e =
        record {
          lying = f.lying;
          w = v;
          word = f.word ∙ ap some e;
          home = f.home;
          home_is =
              f.home_is;
          found = f.found ∙ ap packed_word e;
        }

    pub here-in : IsIn p (lists_joined s.views)
    here-in = subst (λ (z : List Known). IsIn p z) (sym f.lying.now) (in-here front back p)

    pub stood-here : StandsForHandleByRank c (front ++ p ∷ back) h w
    stood-here = subst (λ (z : List Known). StandsForHandleByRank c z h w) f.lying.now
        (r.words_match_lists.each_handle h w f.word)

    pub ruled-here : HandleInvariant label aim_in Fits c (front ++ p ∷ back) h w f.home
    ruled-here = subst
        (λ (z : List Known). HandleInvariant label aim_in Fits c z h w f.home) f.lying.now
        (r.handle h w f.home f.word f.home_is)

    pub known-matches-word : KnownMatchesWord c h w ruled-here.aim p
    known-matches-word = ruled-here.known p (in-here front back p)

    pub actor-here : IsLawfulActor c p
    actor-here = r.actor p here-in

    pub lists-here : (q : Known) → IsIn q (front ++ p ∷ back) → IsLawfulList c q
    lists-here q i = r.words_match_lists.each_list q (subst (λ (z : List Known). IsIn q z) (sym f.lying.now) i)

    pub numbered-here : sum_by (λ (y : Known). one_if (y.number == p.number))
        (front ++ p ∷ back) ≤ 1
    numbered-here = subst
        (λ (z : List Known). sum_by
        (λ (y : Known). one_if (y.number == p.number)) z ≤ 1) f.lying.now
        (r.words_match_lists.distinct_numbers p.number)

    pub others : (q : Known) → IsIn q (front ++ back) → q.number ≢ p.number
    others q i = other-number front back p q numbered-here i

    pub before-here : seen_rank p h ≤ word_rank w
    before-here = stood-here.seen p (in-here front back p)

    -- the moment of this state
    abbrev pub moment-now : AtMoment c p h w
    moment-now = record {
      machine = r.machine;
      parts = lists_joined s.views;
      reached = r.reached;
      is = record { words = refl; lists = r.is.lists; all = r.is.all };
      words_match_lists = subst (λ (z : List Word). Stands c z (lists_joined s.views)) (sym r.is.words)
          (stands-from-ranks c r.ws (lists_joined s.views) r.words_match_lists);
      here = here-in;
      all = r.all;
      word = at-get r.machine.words h w (ap (λ (z : List Word). get_elem? z h) r.is.words ∙ f.word);
    }

    pub moment-here : AtMoment p.config p h w
    moment-here = subst (λ (z : Config). AtMoment z p h w) (sym actor-here.config) moment-now
