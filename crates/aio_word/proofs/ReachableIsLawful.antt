-- The first machine's lists stand for its words, and so do those of each machine that comes from
-- it.
use Rattle.std.proofs.Common.{◌≡◌, ℕ, zero, suc, ◌+◌, ◌*◌, ◌^◌, ◌<◌, ◌≤◌, ◌==◌, Bool, List, [], ◌∷◌}
use Rattle.std.proofs.Common.{sum_by, replicate, refl, sym, ap, ◌∙◌, subst, ⊎_elim, arith, nat_lt}
use Rattle.std.proofs.Common.{le_refl}
use Rattle.std.proofs.lemmas.Bool.Decides.{nat_tests}
use Rattle.std.proofs.lemmas.List.Sums.{sum_by-cons}
use mathlib.Core.Logic.{dite}
use mathlib.Core.Option.{some, some-injective, some-ne-none}
use native.Mathlib.Decide.{ℕ_discrete}
use lib.ListN.{get_elem?, length-replicate}
use Rattle.aio_word.specs.declared.Config.{Config}
use Rattle.aio_word.specs.declared.State.TheVariants.{Idle, HandedOut, Defined, Staged, Submitted}
use Rattle.aio_word.specs.declared.State.TheVariants.{CompletedIo, CompletedShared, CompletedLocal}
use Rattle.aio_word.specs.declared.Kind.TheVariants as kind
use Rattle.aio_word.specs.declared.Word.{Word}
use Rattle.aio_word.specs.declared.Known.{Known}
use Rattle.aio_word.specs.declared.State.{State}
use Rattle.aio_word.specs.Words.{IsDone, IsEnded, state_place, word_place}
use Rattle.aio_word.specs.Events.{Machine, IsReachable, start, next, first_machine, first_word}
use Rattle.aio_word.specs.Events.{handle_count}
use Rattle.aio_word.specs.Events.{actor_count, count_at_rank, wait_ref}
use Rattle.aio_word.specs.Stands.{IsIn, one_if, total_at_rank, mark_total, seen_rank}
use Rattle.aio_word.specs.Stands.{known_with_marks, machine_parts}
use Rattle.aio_word.specs.Stands.{StandsForHandle, IsLawfulList, IsLawfulMachine, AtMoment}
use Rattle.aio_word.specs.StandsByRank.{is_due, StandsForHandleByRank}
use Rattle.aio_word.proofs.RanksAgree.{stands-from-ranks}
use Rattle.aio_word.proofs.StepKeepsMachine.{step-keeps-machine}
use Rattle.aio_word.proofs.EventEffect.{get-at}
use Rattle.aio_word.proofs.MarksDue.{one-if-le, one-if-no}

pub at-replicate : {A : Type 0} (n i : ℕ) (x y : A) → get_elem? (replicate n x) i ≡ some y → x ≡ y
at-replicate zero i x y e = absurd (some-ne-none y (sym e))
at-replicate (suc n) zero x y e = some-injective x y e
at-replicate (suc n) (suc i) x y e = at-replicate n i x y e

abbrev parts_from : Config → ℕ → ℕ → List Known
parts_from c a k = machine_parts c a (replicate k [])

-- an actor at the start
record IsNew (c : Config) (a : ℕ) (q : Known) : Type 0 where
  number : ℕ
  low : a ≤ number
  is : known_with_marks c number [] ≡ q

new-in : (c : Config) (a k : ℕ) (q : Known) → IsIn q (parts_from c a k) → IsNew c a q
new-in c a zero q i = absurd i
new-in c a (suc k) q i =
    ⊎_elim (λ e. record { number = a; low = le_refl a; is = e }) (λ t. let r =
    new-in c (a + 1) k q t in let lo = r.low in
    record { number = r.number; low = omega arith; is = r.is }) i

none-new : (c : Config) (h n a k : ℕ) → total_at_rank h n (parts_from c a k) ≡ 0
none-new c h n a zero = refl
none-new c h n a (suc k) =
    let f : Known → ℕ = λ p. count_at_rank h n p.marks in
    let rest : sum_by f (parts_from c (a + 1) k) ≡ 0 = none-new c h n (a + 1) k in
    let here : f (known_with_marks c a []) ≡ 0 = refl in
    let cons : sum_by f (known_with_marks c a [] ∷ parts_from c (a + 1) k)
    ≡ f (known_with_marks c a []) + sum_by f
    (parts_from c (a + 1) k) = sum_by-cons f (known_with_marks c a []) (parts_from c (a + 1) k) in
    let goal : sum_by f (known_with_marks c a [] ∷ parts_from c (a + 1) k) ≡ 0 = omega arith in goal

number-above : (c : Config) (n a k : ℕ) → n < a
    → sum_by (λ (p : Known). one_if (p.number == n)) (parts_from c a k) ≡ 0
number-above c n a zero lt = refl
number-above c n a (suc k) lt =
    let f : Known → ℕ = λ p. one_if (p.number == n) in
    let here : f (known_with_marks c a []) ≡ 0 = one-if-no a n (λ e. omega arith) in
    let rest : sum_by f (parts_from c (a + 1) k) ≡ 0 = number-above c n (a + 1) k (omega arith) in
    let all = sum_by-cons f (known_with_marks c a []) (parts_from c (a + 1) k) in omega arith

distinct_numbers : (c : Config) (n a k : ℕ)
    → sum_by (λ (p : Known). one_if (p.number == n)) (parts_from c a k) ≤ 1
distinct_numbers c n a zero = omega arith
distinct_numbers c n a (suc k) =
    let f : Known → ℕ = λ p. one_if (p.number == n) in
    let all : sum_by f (known_with_marks c a [] ∷ parts_from c (a + 1) k)
    ≡ f (known_with_marks c a []) + sum_by f
    (parts_from c (a + 1) k) = sum_by-cons f (known_with_marks c a []) (parts_from c (a + 1) k) in
    let le : f (known_with_marks c a []) ≤ 1 = one-if-le (a == n) in
    dite (ℕ_discrete a n)
    (λ e. let none' : sum_by f (parts_from c (a + 1) k) ≡ 0 =
    number-above c n (a + 1) k (omega arith) in
    omega arith)
    (λ ne. let no : f (known_with_marks c a []) ≡ 0 = one-if-no a n ne in
    let rest : sum_by f (parts_from c (a + 1) k) ≤ 1 = distinct_numbers c n (a + 1) k in omega arith)

none-due : (s n : ℕ) → one_if (is_due s (8 * s + 0) n) ≡ 0
none-due s n = grind (arith, nat_tests)

pub first-is-lawful : (c : Config) → c.start < 2 ^ 58 → IsLawfulMachine c (first_machine c)
first-is-lawful c small =
    let all : List Known = parts_from c 0 (actor_count c) in
    let one : (h : ℕ) → StandsForHandleByRank c all h (first_word c) = λ h. record {
      lawful = record { bound = small; claim = refl; class = refl };
      begun = le_refl c.start;
      last = λ _. refl;
      counted = λ n. none-new c h n 0 (actor_count c) ∙ sym (none-due c.start n);
      claimed = λ p i g. let r = new-in c 0 (actor_count c) p i in
          subst (λ (z : Known). (count_at_rank h (8 * g + 4) z.marks
          ≤ count_at_rank h (8 * g + 3) z.marks)
          × (count_at_rank h (8 * g + 5) z.marks ≤ count_at_rank h (8 * g + 3) z.marks)) r.is
          (le_refl 0, le_refl 0);
      class_of_io = λ p i m class j _ _ _. let r = new-in c 0 (actor_count c) p i in
          absurd (subst (λ (z : Known). IsIn m z.marks) (sym r.is) j);
      class_of_local = λ p q i i' m n one other j _ _ _ _ _ _. let r = new-in c 0 (actor_count c) p i in
          absurd (subst (λ (z : Known). IsIn m z.marks) (sym r.is) j);
      seen = λ p i. let r = new-in c 0 (actor_count c) p i in
          subst (λ (z : Known). seen_rank z h ≤ 8 * c.start + 0) r.is (omega arith);
    } in record {
      words_match_lists = stands-from-ranks c (replicate (handle_count c) (first_word c)) all record {
        one_per_handle = length-replicate (handle_count c) (first_word c);
        distinct_numbers = λ n. distinct_numbers c n 0 (actor_count c);
        each_handle = λ h w e. subst (λ (z : Word). StandsForHandleByRank c all h z)
            (at-replicate (handle_count c) h (first_word c) w e) (one h);
        each_list = λ p i. let r = new-in c 0 (actor_count c) p i in
            subst (λ (z : Known). IsLawfulList c z) r.is record {
              in_range = λ m j. absurd j;
              in_owner_list =
                  λ m j. absurd j;
              ordered = λ i j d lt below. absurd (omega arith);
            };
        one_out = λ h i v w ev ew ov ow _. absurd (let e : first_word c ≡ v =
            at-replicate (handle_count c) h (first_word c) v ev in
            let o : (first_word c).state ≡ HandedOut = ap (λ (z : Word). z.state) e ∙ ov in cc);
      };
      all = length-replicate (actor_count c) [];
    }

pub reachable-is-lawful : (c : Config) → c.start < 2 ^ 58 → (m : Machine) → IsReachable c m
    → IsLawfulMachine c m
reachable-is-lawful c small _ start = first-is-lawful c small
reachable-is-lawful c small _ (next m e m' r h) = step-keeps-machine c m e m'
    (reachable-is-lawful c small m r) h

ended-place : (s : State) (b : Bool) → IsEnded s → 5 < state_place s b
ended-place Idle b e = absurd e
ended-place HandedOut b e = absurd e
ended-place Defined b e = absurd e
ended-place Staged b e = absurd e
ended-place Submitted b e = absurd e
ended-place CompletedIo b e = absurd e
ended-place CompletedShared b e = omega arith
ended-place CompletedLocal b e = omega arith

less : (a b : ℕ) → a < b → one_if (nat_lt a b) ≡ 1
less a b h = grind (arith, nat_tests)

-- where the word of a handle says that an incarnation is done, its Shared mark stands once
pub done-shared : (c : Config) (parts : List Known) (h : ℕ) (w : Word) (g : ℕ)
    → StandsForHandle c parts h w → c.start ≤ g → IsDone w g
    → mark_total (wait_ref h g) kind.Shared parts ≡ 1
done-shared c parts h w g s lo done = ⊎_elim
    (λ lt. s.past_marks g lo lt kind.Shared)
    (λ (same, ended). subst (λ (z : ℕ). mark_total (wait_ref h z) kind.Shared parts ≡ 1) same
    (s.now kind.Shared ∙ less 5 (word_place w) (ended-place w.state w.claimed ended)))
    done

-- the same at a moment
pub shared-mark-total : (c : Config) (p : Known) (h : ℕ) (w : Word) (g : ℕ) (t : AtMoment c p h w)
    → c.start ≤ g → IsDone w g → mark_total (wait_ref h g) kind.Shared t.parts ≡ 1
shared-mark-total c p h w g t lo done =
    done-shared c t.parts h w g
    (t.words_match_lists.each_handle h w (get-at t.machine.words h w t.word)) lo done
