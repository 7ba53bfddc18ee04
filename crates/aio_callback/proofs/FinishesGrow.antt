-- A list that grows call by call.
use Rattle.std.proofs.Common.{◌≡◌, ℕ, ◌+◌, List, [], ◌∷◌, ◌++◌, map, sym, ap, ◌∙◌, subst}
use Rattle.std.proofs.Common.{Option, Some, None, arith}
use Rattle.std.specs.List.{range_with_len}
use Rattle.std.proofs.lemmas.List.{append_assoc}
use Rattle.std.proofs.lemmas.List.FromFn.{map-range_with_len_more}
use Rattle.std.proofs.Common.{nat_lt, not, ◌&&◌, if◌then◌else◌}
use Rattle.read_callbacks.specs.Chain.{good_count, is_marked}
use Rattle.aio_callback.specs.ReadIoView.{ReadIoView, record_page, record_mark}
use Rattle.read_callbacks.specs.Finishes.{Finish, FinishesGrew}
use Rattle.aio_callback.specs.Finishes.{record_reference, one_finish}
use Rattle.aio_callback.specs.Finishes.{all_finishes}

grew_more : (a b c : Option (List Finish)) (xs ys : List Finish) → FinishesGrew a b xs
    → FinishesGrew b c ys
    → FinishesGrew a c (xs ++ ys)
grew_more None b c xs ys e f = subst (λ z. FinishesGrew z c ys) e f
grew_more (Some before) b c xs ys e f =
    subst (λ z. FinishesGrew z c ys) e f ∙ ap Some (append_assoc before xs ys)

one_more : (a b c : Option (List Finish)) (r : ReadIoView) (n : ℕ)
    → FinishesGrew a b (map (one_finish r) (range_with_len 0 n))
    → FinishesGrew b c (one_finish r n ∷ [])
    → FinishesGrew a c (map (one_finish r) (range_with_len 0 (n + 1)))
one_more a b c r n h k =
    subst (λ (xs : List Finish). FinishesGrew a c xs)
    (sym (map-range_with_len_more (one_finish r) 0 n n (omega arith))) (grew_more a b c _ _ h k)

-- a call that tells of the block at this place, with its page where that is good and not marked
abbrev told_at : ReadIoView → ℕ → Option (List ℕ) → Finish
told_at r i page = record {
  relation = r.relation;
  block = r.first + i;
  checksums = r.checksums;
  reference = record_reference r;
  page = page;
}

pub one_told : (a b c : Option (List Finish)) (r s : ReadIoView) (good i : ℕ)
    (page : Option (List ℕ)) → r ≡ s → good ≡ good_count s.ids s.result
    → page ≡ (if nat_lt i good && not (is_marked (record_mark s i)) then Some (record_page s i)
    else None)
    → FinishesGrew a b (map (one_finish s) (range_with_len 0 i))
    → FinishesGrew b c (told_at r i page ∷ [])
    → FinishesGrew a c (map (one_finish s) (range_with_len 0 (i + 1)))
one_told a b c r s good i page same few is h k =
    let here : page ≡ (one_finish s i).page =
    is ∙ ap (λ (n : ℕ). if nat_lt i n && not (is_marked (record_mark s i)) then Some
    (record_page s i) else None) few in
    one_more a b c s i h
    (subst (λ (o : Option (List ℕ)). FinishesGrew b c (told_at s i o ∷ [])) here
    (subst (λ (z : ReadIoView). FinishesGrew b c (told_at z i page ∷ [])) same k))

pub grew_by_all : (a b : Option (List Finish)) (r : ReadIoView) (n : ℕ) → n ≡ r.count
    → FinishesGrew a b (map (one_finish r) (range_with_len 0 n)) → FinishesGrew a b (all_finishes r)
unfolding all_finishes
grew_by_all a b r n e h =
    subst (λ (m : ℕ). FinishesGrew a b (map (one_finish r) (range_with_len 0 m))) e h
