-- An actor's list with one mark more.
use Rattle.std.proofs.Common.{◌≡◌, ◌≢◌, ℕ, zero, suc, ◌+◌, ◌*◌, ◌<◌, ◌≤◌, ◌⊎◌, ◌&&◌, ◌==◌, List, []}
use Rattle.std.proofs.Common.{◌∷◌, ◌++◌, length, get_or, set, sum_by, refl, sym, ap, ◌∙◌, subst}
use Rattle.std.proofs.Common.{inl, inr, ⊎_elim, arith}
use Rattle.std.proofs.lemmas.List.{get_or-set_other}
use Rattle.std.proofs.lemmas.List.Sums.{sum_by-cons, sum_by-append}
use Rattle.std.proofs.lemmas.List.Quantifiers.{all_pairs_push}
use Rattle.std.proofs.lemmas.Bool.Decides.{nat_tests}
use Rattle.std.specs.List.{AllPairs}
use Rattle.aio_word.specs.declared.Config.{Config}
use Rattle.aio_word.specs.declared.Kind.{Kind}
use Rattle.aio_word.specs.declared.Mark.{Mark}
use Rattle.aio_word.specs.declared.Known.{Known}
use Rattle.aio_word.specs.Events.{handle_count, owner, kind_place, mark_rank, count_at_rank}
use Rattle.aio_word.specs.Stands.{IsIn, IsOwnerKind, one_if, IsLawfulList}
use Rattle.aio_word.proofs.ReplacedElement.{in-append, in-left, in-right, sum-in}
use Rattle.aio_word.proofs.AppendKeepsHandle.{mark_by_parts, count_at_rank-push}
use Rattle.aio_word.proofs.StepKeepsHandles.{KeepsOtherHandles}
use Rattle.aio_word.proofs.MarksDue.{number-itself}

pub get_or-in : {A : Type 0} (xs : List A) (k : ℕ) (d : A) → k < length xs → IsIn (get_or xs k d) xs
get_or-in [] k d h = absurd (omega arith)
get_or-in (x ∷ xs) zero d h = inl refl
get_or-in (x ∷ xs) (suc k) d h = inr (get_or-in xs k d (omega arith))

pub no-mark : (i h n r : ℕ) → i ≢ h → one_if ((h == i) && (r == n)) ≡ 0
no-mark i h n r ne = grind (arith, nat_tests)

-- the other members of a list
pub in-others : (a b : List Known) (p' q : Known) → IsIn q (a ++ p' ∷ b)
    → (p' ≡ q) ⊎ IsIn q (a ++ b)
in-others a b p' q h =
    ⊎_elim (λ l. inr (in-left q a b l)) (λ r. ⊎_elim inl (λ t. inr (in-right q a b t)) r)
    (in-append q a (p' ∷ b) h)

pub others-in : (a b : List Known) (p q : Known) → IsIn q (a ++ b) → IsIn q (a ++ p ∷ b)
others-in a b p q h =
    ⊎_elim (λ l. in-left q a (p ∷ b) l) (λ r. in-right q a (p ∷ b) (inr r)) (in-append q a b h)

-- no other list has the actor's number
pub other-number : (a b : List Known) (p q : Known)
    → sum_by (λ (z : Known). one_if (z.number == p.number)) (a ++ p ∷ b) ≤ 1 → IsIn q (a ++ b)
    → q.number ≢ p.number
other-number a b p q one i e =
    let f : Known → ℕ = λ z. one_if (z.number == p.number) in
    let fq : f q ≡ 1 = ap (λ (n : ℕ). one_if (n == p.number)) e ∙ number-itself p.number in
    let fp : f p ≡ 1 = number-itself p.number in
    let low : f q ≤ sum_by f (a ++ b) = sum-in f (a ++ b) q i in
    let all : sum_by f (a ++ p ∷ b) ≤ 1 = one in
    omega (arith, sum_by-append f a (p ∷ b), sum_by-append f a b, sum_by-cons f p b)

pub with_mark-list : (c : Config) (h g : ℕ) (k : Kind) (p p' : Known) → p'.number ≡ p.number
    → p'.marks ≡ p.marks ++ mark_by_parts h g k ∷ [] → h < handle_count c
    → (IsOwnerKind k → p.number ≡ owner c h)
    → ((m : Mark) → IsIn m p.marks → m.handle ≡ h → mark_rank m < 8 * g + kind_place k)
    → IsLawfulList c p → IsLawfulList c p'
with_mark-list c h g k p p' number marks range own under l = record {
  in_range = λ m j. ⊎_elim (λ old. l.in_range m old)
      (λ new. ⊎_elim (λ e. subst (λ (z : Mark). z.handle < handle_count c) e range)
      (λ x. absurd x) new)
      (in-append m p.marks (mark_by_parts h g k ∷ []) (subst
      (λ (z : List Mark). IsIn m z) marks j));
  in_owner_list = λ m j o. number
      ∙ ⊎_elim (λ old. l.in_owner_list m old o)
      (λ new. ⊎_elim (λ e. subst (λ (z : Mark). IsOwnerKind z.kind
      → p.number ≡ owner c z.handle) e own o) (λ x. absurd x) new)
      (in-append m p.marks (mark_by_parts h g k ∷ []) (subst
      (λ (z : List Mark). IsIn m z) marks j));
  ordered = subst (λ (z : List Mark). AllPairs (λ m n. m.handle ≡ n.handle
      → mark_rank m < mark_rank n) z) (sym marks)
      (all_pairs_push (λ m n. m.handle ≡ n.handle
      → mark_rank m < mark_rank n) p.marks (mark_by_parts h g k) l.ordered
      (λ i d lt e. under (get_or p.marks i d) (get_or-in p.marks i d lt) e));
}

pub with_mark-adds : (c : Config) (h g n : ℕ) (k : Kind) (p p' : Known) → p'.number ≡ p.number
    → p'.marks ≡ p.marks ++ mark_by_parts h g k ∷ [] → p'.seen ≡ set p.seen h n → h < handle_count c
    → (IsOwnerKind k → p.number ≡ owner c h)
    → ((m : Mark) → IsIn m p.marks → m.handle ≡ h → mark_rank m < 8 * g + kind_place k)
    → KeepsOtherHandles c h p p'
with_mark-adds c h g n k p p' number marks seen range own under = record {
  number = number;
  elsewhere = λ i ne. ap (λ (z : List ℕ). get_or z i 0) seen ∙ get_or-set_other p.seen h i n 0 ne;
  times_elsewhere = λ i ne t. ap (count_at_rank i t) marks
      ∙ (count_at_rank-push i t p.marks (mark_by_parts h g k)
      ∙ (let no = no-mark i h t (8 * g + kind_place k) ne in omega arith));
  members_elsewhere = λ m j ne. ⊎_elim (λ old. old)
      (λ new. ⊎_elim (λ e. absurd (ne (sym (ap (λ (z : Mark). z.handle) e)))) (λ x. absurd x) new)
      (in-append m p.marks (mark_by_parts h g k ∷ []) (subst
      (λ (z : List Mark). IsIn m z) marks j));
  list = with_mark-list c h g k p p' number marks range own under;
}
