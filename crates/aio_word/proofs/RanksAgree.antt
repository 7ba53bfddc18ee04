-- The plain form of what the lists say of the words, and the form by ranks, say the same.
use Rattle.std.proofs.Common.{◌≡◌, ℕ, zero, suc, ◌+◌, ◌*◌, ◌/◌, ◌%◌, ◌<◌, ◌≤◌, ◌⊎◌, ◌==◌, cond}
use Rattle.std.proofs.Common.{List, refl, sym, ◌∙◌, subst, inl, inr, ⊎_elim, arith, nat_lt}
use Rattle.std.proofs.lemmas.Bool.Decides.{nat_tests}
use mathlib.Core.Logic.{dite}
use native.Mathlib.Decide.{ℕ_discrete, dec_le}
use Rattle.aio_word.specs.declared.Config.{Config}
use Rattle.aio_word.specs.declared.Kind.{Kind}
use Rattle.aio_word.specs.declared.Kind.TheVariants as kind
use Rattle.aio_word.specs.declared.Mark.{Mark}
use Rattle.aio_word.specs.declared.Word.{Word}
use Rattle.aio_word.specs.declared.Known.{Known}
use Rattle.aio_word.specs.Words.{IsNotAbove, word_place, word_rank}
use Rattle.aio_word.specs.Events.{kind_place, any_io, any_local, make_mark, wait_ref}
use Rattle.aio_word.specs.Stands.{IsIn, one_if, total_at_rank, seen_rank, StandsForHandle, Stands}
use Rattle.aio_word.specs.StandsByRank.{is_due, StandsForHandleByRank, StandsByRank}
use Rattle.aio_word.proofs.AppendKeepsHandle.{place-small}
use Rattle.aio_word.proofs.OwnMarksBoundWord.{kind_place-small}

abbrev pub kind_of_place : ℕ → Kind
kind_of_place n = cond (n == 0) kind.Defined
    (cond (n == 1) kind.Staged
    (cond (n == 2) kind.Submitted
    (cond (n == 3) kind.Claimed
    (cond (n == 4) any_io (cond (n == 5) kind.Shared (cond (n == 6) any_local kind.Reclaimed))))))

kind_place-at : (n : ℕ) → n < 8 → kind_place (kind_of_place n) ≡ n
kind_place-at zero h = refl
kind_place-at (suc zero) h = refl
kind_place-at (suc (suc zero)) h = refl
kind_place-at (suc (suc (suc zero))) h = refl
kind_place-at (suc (suc (suc (suc zero)))) h = refl
kind_place-at (suc (suc (suc (suc (suc zero))))) h = refl
kind_place-at (suc (suc (suc (suc (suc (suc zero)))))) h = refl
kind_place-at (suc (suc (suc (suc (suc (suc (suc zero))))))) h = refl
kind_place-at (suc (suc (suc (suc (suc (suc (suc (suc n)))))))) h = absurd (omega arith)

due-over : (s g G p o : ℕ) → s ≤ g → g < G → o < 8 → one_if (is_due s (8 * G + p) (8 * g + o)) ≡ 1
due-over s g G p o a b d = grind (arith, nat_tests)

due-now : (s G p o : ℕ) → s ≤ G → one_if (is_due s (8 * G + p) (8 * G + o)) ≡ one_if (nat_lt o p)
due-now s G p o a = dite (dec_le p o) (λ x. grind (arith, nat_tests))
    (λ x. grind (arith, nat_tests))

due-none : (s g G p o : ℕ) → (g < s) ⊎ (G < g) → o < 8 → p < 8
    → one_if (is_due s (8 * G + p) (8 * g + o)) ≡ 0
due-none s g G p o h a b = ⊎_elim (λ x. grind (arith, nat_tests)) (λ x. grind (arith, nat_tests)) h

-- the rank orders the pairs of generation and place, the generation first
pair-of : (n G p : ℕ) → p < 8 → n ≤ 8 * G + p → IsNotAbove (n / 8) (n % 8) G p
pair-of n G p small le =
    dite (dec_le G (n / 8)) (λ above. inr (omega arith, omega arith)) (λ below. inl (omega arith))

rank-of : (n G p : ℕ) → IsNotAbove (n / 8) (n % 8) G p → n ≤ 8 * G + p
rank-of n G p h = ⊎_elim (λ lt. omega arith) (λ (same, le). omega arith) h

-- a mark, by its parts
that-mark : (m : Mark) (h g : ℕ) (k : Kind) → m.handle ≡ h → m.generation ≡ g → m.kind ≡ k
    → m ≡ make_mark (wait_ref h g) k
that-mark m h g k eh eg ek = λ i. make_mark (wait_ref (eh i) (eg i)) (ek i)

pub handle-from-ranks : (c : Config) (parts : List Known) (h : ℕ) (w : Word)
    → StandsForHandleByRank c parts h w
    → StandsForHandle c parts h w
handle-from-ranks c parts h w s = record {
  lawful = s.lawful;
  begun = s.begun;
  last = s.last;
  past_marks = λ g lo hi k. s.counted (8 * g + kind_place k)
      ∙ due-over c.start g w.generation (word_place w) (kind_place k) lo hi (kind_place-small k);
  now = λ k. s.counted (8 * w.generation + kind_place k)
      ∙ due-now c.start w.generation (word_place w) (kind_place k) s.begun;
  none = λ g o k. s.counted (8 * g + kind_place k)
      ∙ due-none c.start g w.generation (word_place w) (kind_place k) o (kind_place-small k)
      (place-small w.state w.claimed);
  claimed = s.claimed;
  class_of_io = λ p i class j. s.class_of_io p i
      (make_mark (wait_ref h w.generation) (kind.Io class)) class j refl refl refl;
  class_of_local = λ p q i j g ended taken m n. s.class_of_local p q i j (make_mark (wait_ref h g) (kind.Io ended))
      (make_mark (wait_ref h g) (kind.Local taken)) ended taken m n refl refl refl refl refl;
  seen = λ p i. pair-of (seen_rank p h) w.generation (word_place w) (place-small w.state w.claimed)
      (s.seen p i);
}

-- the count at one rank
handle-counted-by-rank : (c : Config) (parts : List Known) (h : ℕ) (w : Word)
    → StandsForHandle c parts h w
    → (g i : ℕ) → i < 8 → total_at_rank h (8 * g + i) parts ≡ one_if
    (is_due c.start (word_rank w) (8 * g + i))
handle-counted-by-rank c parts h w s g i lt =
    let k : Kind = kind_of_place i in
    let e : kind_place k ≡ i = kind_place-at i lt in
    let goal : total_at_rank h (8 * g + kind_place k) parts ≡ one_if
    (is_due c.start (word_rank w) (8 * g + kind_place k)) = dite (dec_le c.start g)
    (λ lo. dite (dec_le w.generation g)
    (λ hi. dite (ℕ_discrete w.generation g)
    (λ same. subst (λ (z : ℕ). total_at_rank h (8 * z + kind_place k) parts ≡ one_if
    (is_due c.start (word_rank w) (8 * z + kind_place k))) same (s.now k
    ∙ sym (due-now c.start w.generation (word_place w) (kind_place k) s.begun)))
    (λ ne. s.none g (inr (omega arith)) k
    ∙ sym (due-none c.start g w.generation (word_place w) (kind_place k) (inr (omega arith))
    (kind_place-small k) (place-small w.state w.claimed))))
    (λ n. s.past_marks g lo (omega arith) k
    ∙ sym (due-over c.start g w.generation (word_place w) (kind_place k) lo (omega arith)
    (kind_place-small k))))
    (λ n. s.none g (inl (omega arith)) k
    ∙ sym (due-none c.start g w.generation (word_place w) (kind_place k) (inl (omega arith))
    (kind_place-small k) (place-small w.state w.claimed))) in
    subst (λ (z : ℕ). total_at_rank h (8 * g + z) parts ≡ one_if
    (is_due c.start (word_rank w) (8 * g + z))) e
    goal

pub handle-by-rank : (c : Config) (parts : List Known) (h : ℕ) (w : Word)
    → StandsForHandle c parts h w
    → StandsForHandleByRank c parts h w
handle-by-rank c parts h w s = record {
  lawful = s.lawful;
  begun = s.begun;
  last = s.last;
  counted = λ n. let e : 8 * (n / 8) + n % 8 ≡ n = omega arith in
      subst (λ (z : ℕ). total_at_rank h z parts ≡ one_if (is_due c.start (word_rank w) z)) e
      (handle-counted-by-rank c parts h w s (n / 8) (n % 8) (omega arith));
  claimed = s.claimed;
  class_of_io = λ p i m class j eh eg ek. s.class_of_io p i class
      (subst (λ (z : Mark). IsIn z p.marks)
      (that-mark m h w.generation (kind.Io class) eh eg ek) j);
  class_of_local = λ p q i i' m n one other j j' eh eh' eg ek ek'. s.class_of_local p q i i' m.generation one other
      (subst (λ (z : Mark). IsIn z p.marks) (that-mark m h m.generation (kind.Io one) eh refl ek) j)
      (subst (λ (z : Mark). IsIn z q.marks)
      (that-mark n h m.generation (kind.Local other) eh' (sym eg) ek') j');
  seen = λ p i. rank-of (seen_rank p h) w.generation (word_place w) (s.seen p i);
}

pub stands-from-ranks : (c : Config) (ws : List Word) (parts : List Known) → StandsByRank c ws parts
    → Stands c ws parts
stands-from-ranks c ws parts r = record {
  one_per_handle = r.one_per_handle;
  distinct_numbers = r.distinct_numbers;
  each_handle =
      λ h w e. handle-from-ranks c parts h w (r.each_handle h w e);
  each_list = r.each_list;
  one_out =
      r.one_out;
}

pub stands-by-rank : (c : Config) (ws : List Word) (parts : List Known) → Stands c ws parts
    → StandsByRank c ws parts
stands-by-rank c ws parts r =
    record {
      one_per_handle = r.one_per_handle;
      distinct_numbers = r.distinct_numbers;
      each_handle =
          λ h w e. handle-by-rank c parts h w (r.each_handle h w e);
      each_list = r.each_list;
      one_out =
          r.one_out;
    }
