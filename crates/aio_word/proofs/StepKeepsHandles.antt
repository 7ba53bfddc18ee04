-- A step keeps what the lists say of all handles, from what it does to its own.
use Rattle.std.proofs.Common.{◌≡◌, ◌≢◌, ℕ, ◌+◌, ◌*◌, ◌≤◌, ◌==◌, List, ◌∷◌, ◌++◌, set, sum_by, refl}
use Rattle.std.proofs.Common.{sym, ap, ◌∙◌, subst, ⊎_elim, arith, length-set}
use mathlib.Core.Option.{some}
use lib.ListN.{get_elem?}
use Rattle.aio_word.specs.declared.Config.{Config}
use Rattle.aio_word.specs.declared.Mark.{Mark}
use Rattle.aio_word.specs.declared.State.TheVariants.{HandedOut}
use Rattle.aio_word.specs.declared.Word.{Word}
use Rattle.aio_word.specs.declared.Known.{Known}
use Rattle.aio_word.specs.Words.{word_rank}
use Rattle.aio_word.specs.Events.{owner, count_at_rank}
use Rattle.aio_word.specs.Stands.{IsIn, one_if, seen_rank, IsLawfulList}
use Rattle.aio_word.specs.StandsByRank.{is_due, StandsForHandleByRank, StandsByRank}
use Rattle.aio_word.proofs.EventRows.{AddsNoMark}
use Rattle.aio_word.proofs.ReplacedElement.{at-set, in-replaced, in-here, sum-replaced}

-- no mark of the handle is new, and its word keeps its rank, generation and class
pub record KeepsRank (h : ℕ) (p p' : Known) (w w' : Word) : Type 0 where
  pub same_times : (n : ℕ) → count_at_rank h n p'.marks ≡ count_at_rank h n p.marks
  pub members : (m : Mark) → IsIn m p'.marks → m.handle ≡ h → IsIn m p.marks
  pub row : AddsNoMark w w'
  pub seen : seen_rank p' h ≤ word_rank w'

module _ (c : Config) (a b : List Known) (h : ℕ) (p p' : Known) (w w' : Word)
    (s : StandsForHandleByRank c (a ++ p ∷ b) h w) (d : KeepsRank h p p' w w') where
  abbrev before : List Known
  before = a ++ p ∷ b

  was-in : (q : Known) → IsIn q (a ++ p' ∷ b) → (m : Mark) → IsIn m q.marks → m.handle ≡ h
      → (o : Known) × IsIn o before × IsIn m o.marks
  was-in q i m j eh = ⊎_elim
      (λ e. (p, in-here a b p, d.members m (subst (λ (z : Known). IsIn m z.marks) (sym e) j) eh))
      (λ old. (q, old, j)) (in-replaced a b p p' q i)

  pub handle-kept : StandsForHandleByRank c (a ++ p' ∷ b) h w'
  handle-kept = record {
    lawful = d.row.lawful;
    begun = subst (λ (z : ℕ). c.start ≤ z) (sym d.row.generation) s.begun;
    last = d.row.last;
    counted = λ n.
        let f : Known → ℕ = λ q. count_at_rank h n q.marks in
        let swap : sum_by f (a ++ p' ∷ b) + f p ≡ sum_by f before + f p' =
        sum-replaced f a b p p' in
        let same : f p' ≡ f p = d.same_times n in
        let was : sum_by f before ≡ one_if (is_due c.start (word_rank w) n) = s.counted n in
        let now : sum_by f (a ++ p' ∷ b) ≡ one_if (is_due c.start (word_rank w) n) = omega arith in
        now ∙ ap (λ (z : ℕ). one_if (is_due c.start z n)) (sym d.row.rank);
    claimed = λ q i g. ⊎_elim
        (λ e. subst (λ (z : Known). (count_at_rank h (8 * g + 4) z.marks
        ≤ count_at_rank h (8 * g + 3) z.marks)
        × (count_at_rank h (8 * g + 5) z.marks ≤ count_at_rank h (8 * g + 3) z.marks)) e
        (let t3 = d.same_times (8 * g + 3) in let t4 = d.same_times (8 * g + 4) in
        let t5 = d.same_times (8 * g + 5) in let was = s.claimed p (in-here a b p) g in
        let w0 = was.0 in let w1 = was.1 in (omega arith, omega arith)))
        (λ old. s.claimed q old g) (in-replaced a b p p' q i);
    class_of_io = λ q i m class j eh eg ek. let (o, io, jo) = was-in q i m j eh in
        s.class_of_io o io m class jo eh (eg ∙ d.row.generation) ek ∙ sym d.row.class;
    class_of_local = λ q t i i' m n one other j j' eh eh' eg ek ek'. let (o, io, jo) = was-in q i m j eh in
        let (o', io', jo') = was-in t i' n j' eh' in
        s.class_of_local o o' io io' m n one other jo jo' eh eh' eg ek ek';
    seen = λ q i. ⊎_elim (λ e. subst (λ (z : Known). seen_rank z h ≤ word_rank w') e d.seen)
        (λ old. subst (λ (z : ℕ). seen_rank q h ≤ z) (sym d.row.rank) (s.seen q old))
        (in-replaced a b p p' q i);
  }

-- the actor keeps its number, and what it saw of other handles; its list has at most one mark more,
-- of this handle
pub record KeepsOtherHandles (c : Config) (h : ℕ) (p p' : Known) : Type 0 where
  pub number : p'.number ≡ p.number
  pub elsewhere : (i : ℕ) → i ≢ h → seen_rank p' i ≡ seen_rank p i
  pub times_elsewhere : (i : ℕ) → i ≢ h → (n : ℕ) → count_at_rank i n p'.marks
      ≡ count_at_rank i n p.marks
  pub members_elsewhere : (m : Mark) → IsIn m p'.marks → m.handle ≢ h → IsIn m p.marks
  pub list : IsLawfulList c p → IsLawfulList c p'

module _ (c : Config) (words : List Word) (a b : List Known) (h : ℕ) (p p' : Known) (w w' : Word)
    (s : StandsByRank c words (a ++ p ∷ b)) (at : get_elem? words h ≡ some w) where
  pub all-handles-kept : KeepsOtherHandles c h p p' → StandsForHandleByRank c (a ++ p' ∷ b) h w'
      → (w'.state ≡ HandedOut → (i : ℕ) (v : Word) → get_elem? words i ≡ some v
      → v.state ≡ HandedOut → owner c i ≡ owner c h → i ≡ h)
      → StandsByRank c (set words h w') (a ++ p' ∷ b)
  all-handles-kept n here alone = record {
    one_per_handle = length-set words h w' ∙ s.one_per_handle;
    distinct_numbers = λ k.
        let f : Known → ℕ = λ q. one_if (q.number == k) in
        let swap : sum_by f (a ++ p' ∷ b) + f p ≡ sum_by f (a ++ p ∷ b) + f p' =
        sum-replaced f a b p p' in
        let same : f p' ≡ f p = ap (λ (z : ℕ). one_if (z == k)) n.number in
        let was : sum_by f (a ++ p ∷ b) ≤ 1 = s.distinct_numbers k in
        let now : sum_by f (a ++ p' ∷ b) ≤ 1 = omega arith in now;
    each_handle = λ i v e. ⊎_elim
        (λ (ei, ev). subst (λ (z : ℕ). StandsForHandleByRank c (a ++ p' ∷ b) z v) (sym ei)
        (subst (λ (z : Word). StandsForHandleByRank c (a ++ p' ∷ b) h z) ev here))
        (λ (ne, old). let t = s.each_handle i v old in handle-kept c a b i p p' v v t record {
          same_times = n.times_elsewhere i ne;
          members = λ m j eh. n.members_elsewhere m j (λ x. ne (sym eh ∙ x));
          row = record {
            rank = refl;
            generation = refl;
            class = refl;
            lawful = t.lawful;
            last = t.last;
          };
          seen = subst (λ (z : ℕ). z ≤ word_rank v) (sym (n.elsewhere i ne))
              (t.seen p (in-here a b p));
        })
        (at-set words h i w' v e);
    each_list = λ q i. ⊎_elim
        (λ e. subst (λ (z : Known). IsLawfulList c z) e (n.list (s.each_list p (in-here a b p))))
        (λ old. s.each_list q old) (in-replaced a b p p' q i);
    one_out = λ i j u v eu ev ou ov same. ⊎_elim
        (λ (ei, wu). ⊎_elim (λ (ej, wv). ei ∙ sym ej) (λ (nj, oldv). ei
        ∙ sym (alone (ap (λ (z : Word). z.state) wu ∙ ou) j v oldv ov (sym same
        ∙ ap (owner c) ei))) (at-set words h j w' v ev))
        (λ (ni, oldu). ⊎_elim (λ (ej, wv). alone (ap (λ (z : Word). z.state) wv
        ∙ ov) i u oldu ou (same ∙ ap (owner c) ej)
        ∙ sym ej) (λ (nj, oldv). s.one_out i j u v oldu oldv ou ov same)
        (at-set words h j w' v ev))
        (at-set words h i w' u eu);
  }
