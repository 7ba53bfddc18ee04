-- A new table meets the rule: each handle is Idle at the first generation, and nobody knows more.
use Rattle.std.proofs.Common.{◌≡◌, ℕ, zero, suc, ◌+◌, ◌*◌, ◌^◌, ◌<◌, ◌≤◌, ◌==◌, false, List, []}
use Rattle.std.proofs.Common.{◌∷◌, ◌++◌, map, length, get_or, replicate, sum_by, le_refl, refl, sym}
use Rattle.std.proofs.Common.{ap, ◌∙◌, subst, arith, length-append, append-nil, Option, Some, None}
use Rattle.std.proofs.Common.{slice_get}
use Rattle.std.proofs.lemmas.Bool.Decides.{nat_tests}
use mathlib.Core.Logic.{dite}
use native.Mathlib.Decide.{ℕ_discrete}
use mathlib.Core.Option.{some, some-injective, some-ne-none}
use mathlib.Core.Option as maybe
use lib.ListN.{get_elem?, length-replicate}
use Rattle.atomic_table.specs.Table.{opening}
use Rattle.aio_word.specs.declared.Config.{Config}
use Rattle.aio_word.specs.declared.Class.TheVariants.{Unended}
use Rattle.aio_word.specs.declared.State.TheVariants.{Idle, HandedOut}
use Rattle.aio_word.specs.declared.Word.{Word}
use Rattle.aio_word.specs.declared.Known.{Known}
use Rattle.aio_word.specs.Words.{packed_word}
use Rattle.aio_word.specs.Events.{start, first_machine, handle_count, actor_count, count_at_rank}
use Rattle.aio_word.specs.Events.{make_word, wait_ref, lives_ended}
use Rattle.aio_word.specs.Stands.{IsIn, one_if, seen_rank, IsLawfulList, MachineHasParts}
use Rattle.aio_word.specs.StandsByRank.{is_due, StandsForHandleByRank, StandsByRank}
use Rattle.aio_handle.specs.declared.record.Label.{Label}
use Rattle.aio_handle.specs.ContractViews.{TableView, ActorView, AreNewActors, IsConfig}
use Rattle.std.proofs.Math.Nat.{mul-lt-mul_of_pos_left}
use Rattle.aio_handle.specs.TableInvariant.{initial_known, initial_known_from, initial_lists}
use Rattle.aio_handle.specs.TableInvariant.{KnownMatchesWord, HandleInvariant, IsLawfulActor}
use Rattle.aio_handle.specs.TableInvariant.{TableInvariant}
use Rattle.aio_handle.proofs.InitialLists.{initial-in, none-new, initial-numbers, present-new}
use Rattle.aio_handle.proofs.InitialLists.{length-new}
use Rattle.aio_handle.proofs.InitialLists.{list-new}
use Rattle.aio_handle.proofs.WordFromMarks.{none-some}

abbrev first : Config → Word
first c = make_word Idle false Unended c.start

at-replicate : {A : Type 0} (n i : ℕ) (x y : A) → get_elem? (replicate n x) i ≡ some y → x ≡ y
at-replicate zero i x y e = absurd (some-ne-none y (sym e))
at-replicate (suc n) zero x y e = some-injective x y e
at-replicate (suc n) (suc i) x y e = at-replicate n i x y e

get-replicate : (n i x : ℕ) → get_or (replicate n x) i 0 ≤ x
get-replicate zero i x = omega arith
get-replicate (suc n) zero x = le_refl x
get-replicate (suc n) (suc i) x = get-replicate n i x

at-inside : {A : Type 0} (n i : ℕ) (x : A) → i < n → slice_get (replicate n x) i ≡ Some x
at-inside zero i x h = absurd (omega arith)
at-inside (suc n) zero x h = refl
at-inside (suc n) (suc i) x h = at-inside n i x (omega arith)

map-replicate : {A B : Type 0} (f : A → B) (n : ℕ) (x : A)
    → map f (replicate n x) ≡ replicate n (f x)
map-replicate f zero x = refl
map-replicate f (suc n) x = ap (λ (z : List _). f x ∷ z) (map-replicate f n x)

not-due : (s n : ℕ) → one_if (is_due s (8 * s + 0) n) ≡ 0
not-due s n = grind (arith, nat_tests)

module _ {R : Type 0} (label : R → Label) (aim_in : R → List ℕ) (Fits : R → Type 0) (c : Config)
    (small : c.start < 2 ^ 58) where
  abbrev all : List Known
  all = initial_known_from c 0 (actor_count c)

  handle-new : (h : ℕ) (w : Word) → first c ≡ w → StandsForHandleByRank c all h w
  handle-new h w e = subst (λ (z : Word). StandsForHandleByRank c all h z) e record {
    lawful = record { bound = small; claim = refl; class = refl };
    begun = le_refl c.start;
    last = λ _. refl;
    counted = λ n. none-new c h n 0 (actor_count c) ∙ sym (not-due c.start n);
    claimed = λ p i g. let r = initial-in c 0 (actor_count c) p i in
        subst (λ (z : Known). (count_at_rank h (8 * g + 4) z.marks
        ≤ count_at_rank h (8 * g + 3) z.marks)
        × (count_at_rank h (8 * g + 5) z.marks ≤ count_at_rank h (8 * g + 3) z.marks)) r.is
        (le_refl 0, le_refl 0);
    class_of_io = λ p i m class j _ _ _. let r = initial-in c 0 (actor_count c) p i in
        absurd (subst (λ (z : Known). IsIn m z.marks) (sym r.is) j);
    class_of_local = λ p q i i' m n one other j _ _ _ _ _ _. let r = initial-in c 0 (actor_count c) p i in
        absurd (subst (λ (z : Known). IsIn m z.marks) (sym r.is) j);
    seen = λ p i. let r = initial-in c 0 (actor_count c) p i in
        subst (λ (z : Known). seen_rank z h ≤ 8 * c.start + 0) r.is
        (let x = get-replicate (handle_count c) h (8 * c.start) in omega arith);
  }

  pub new-ruled : TableInvariant label aim_in Fits c
      (opening (replicate (handle_count c) (64 * c.start)) (replicate (handle_count c) None)
      (initial_lists c))
  new-ruled = record {
    ws = replicate (handle_count c) (first c);
    packed_words = sym (map-replicate packed_word (handle_count c) (first c) ∙ ap
        (λ (z : ℕ). replicate (handle_count c) z)
        (let e : packed_word (first c) ≡ 64 * c.start = omega arith in e));
    homes = ap length (map-replicate some (handle_count c) None) ∙ length-replicate (handle_count c)
        (some None);
    words_match_lists = subst (λ (z : List Known). StandsByRank c (replicate (handle_count c) (first c)) z)
        (sym (append-nil all)) record {
          one_per_handle = length-replicate (handle_count c) (first c);
          distinct_numbers = λ n. initial-numbers c n 0 (actor_count c);
          each_handle = λ h w e. handle-new h w (at-replicate (handle_count c) h (first c) w e);
          each_list = λ p i. let r = initial-in c 0 (actor_count c) p i in
              subst (λ (z : Known). IsLawfulList c z) r.is (list-new c r.number);
          one_out = λ h i v w ev ew ov ow _. absurd
              (let e : first c ≡ v = at-replicate (handle_count c) h (first c) v ev in
              let o : (first c).state ≡ HandedOut = ap (λ (z : Word). z.state) e ∙ ov in cc);
        };
    handle = λ h w home ew eh. subst
        (λ (z : List Known). HandleInvariant label aim_in Fits c z h w home) (sym (append-nil all))
        (subst (λ (z : Word). HandleInvariant label aim_in Fits c all h z home)
        (at-replicate (handle_count c) h (first c) w ew) record {
          aim = [];
          slot = sym (at-replicate (handle_count c) h (some None) home
              (subst (λ (z : List (maybe.Option (Option R))). get_elem? z h ≡ some home)
              (map-replicate some (handle_count c) None) eh));
          known = λ p i. let r = initial-in c 0 (actor_count c) p i in
              subst (λ (z : Known). KnownMatchesWord c h (first c) [] z) r.is record {
                out = λ _ g. (
                  (λ x. absurd (let y : Idle ≡ HandedOut = x.0 in cc)),
                  (λ x. absurd (none-some (wait_ref h g) x)),
                );
                own_generation = λ _. let z : lives_ended h [] ≡ 0 = refl in omega arith;
                aims = λ x j. absurd j;
                submitted = λ _ three. absurd (omega arith);
                held = λ _ more. absurd
                    (let z : count_at_rank h (8 * c.start + 3) [] ≡ 0 = refl in omega arith);
              };
        });
    actor = λ p i. let r = initial-in c 0 (actor_count c) p
        (subst (λ (z : List Known). IsIn p z) (append-nil all) i) in
        subst (λ (z : Known). IsLawfulActor c z) r.is
        record {
          config = refl;
          number = let x = r.high in omega arith;
          seen =
              length-replicate (handle_count c) (8 * c.start);
          out = λ t e. absurd (none-some t e);
        };
    all = ap length (append-nil all) ∙ length-new c 0 (actor_count c);
    present = λ n lt. subst
        (λ (z : List Known). 0 < sum_by (λ (p : Known). one_if (p.number == n)) z)
        (sym (append-nil all)) (present-new c n 0 (actor_count c) (omega arith) (omega arith));
    machine = first_machine c;
    reached = start;
    is = subst (λ (z : List Known). MachineHasParts c (first_machine c)
        (replicate (handle_count c) (first c)) z) (sym (append-nil all)) record {
          words = refl;
          lists = λ p i. let t = initial-in c 0 (actor_count c) p i in
              subst (λ (z : Known). slice_get (replicate (actor_count c) []) z.number
              ≡ Some z.marks)
              t.is
              (at-inside (actor_count c) t.number [] (let x = t.high in omega arith));
          all = length-replicate (actor_count c) [];
        };
  }

pub push-old : {A : Type 0} (xs : List A) (x d : A) (i : ℕ) → i < length xs
    → get_or (xs ++ x ∷ []) i d ≡ get_or xs i d
push-old [] x d i h = absurd (omega arith)
push-old (y ∷ xs) x d zero h = refl
push-old (y ∷ xs) x d (suc i) h = push-old xs x d i (omega arith)

pub push-last : {A : Type 0} (xs : List A) (x d : A) → get_or (xs ++ x ∷ []) (length xs) d ≡ x
push-last [] x d = refl
push-last (y ∷ xs) x d = push-last xs x d

pub new-push : (t : TableView) (n : ℕ) (xs : List ActorView) (x : ActorView) → length xs ≡ n
    → AreNewActors t 0 xs → x ≡ record { table = t.table; known = initial_known t.config n }
    → AreNewActors t 0 (xs ++ x ∷ [])
new-push t n xs x len old is i d lt = dite (ℕ_discrete i (length xs))
    (λ e. subst (λ (j : ℕ). get_or (xs ++ x ∷ []) j d ≡
    record { table = t.table; known = initial_known t.config (0 + j) }) (sym e)
    (push-last xs x d ∙
    (is ∙ ap (λ (j : ℕ).
    record { table = t.table; known = initial_known t.config j })
    (let g : n ≡ 0 + length xs = omega arith in g))))
    (λ ne. let below : i < length xs = omega (arith, length-append xs (x ∷ [])) in
    push-old xs x d i below ∙ old i d below)

-- a table has a handle
pub some-handles : (c : Config) → IsConfig c → 0 < handle_count c
some-handles c k =
    let b : 0 < c.backends = let x = k.backends.0 in omega arith in
    let p : 0 < c.per_backend = let x = k.per_backend.0 in omega arith in
    let less : c.backends * 0 < c.backends * c.per_backend = mul-lt-mul_of_pos_left p b in
    omega arith
