-- Sums over disks: those that are taken back one after the other, and those behind the backends'.
use Rattle.std.proofs.Common.{◌≡◌, ℕ, ◌+◌, ◌<◌, List, take, drop, sum_by}
use Rattle.std.proofs.Common.{ap, ◌∙◌, subst, arith, inl, inr}
use Rattle.std.proofs.lemmas.Bool.{cases_lt}
use Rattle.std.proofs.lemmas.List.{take-append-drop}
use Rattle.std.proofs.lemmas.List.Sums.{sum_by-append}
use Rattle.aio_disk.specs.Counts.{RisesIfPositive, count_plus}

pub rises_more : (sum one sum' before middle now : ℕ) → sum' ≡ sum + one → RisesIfPositive sum before middle
    → RisesIfPositive one middle now → RisesIfPositive sum' before now
rises_more sum one sum' before middle now is first second =
    let early = first.later in
    let late = second.later in record {
      later = omega arith;
      risen = λ some. elim (cases_lt 0 sum) [
        | inl more ↦ (let rose = first.risen more in omega arith)
        | inr none ↦ (let one_more : 0 < one = omega arith in
            let rose = second.risen one_more in omega arith)
      ];
      unchanged = λ none.
          (let a = first.unchanged (omega arith) in let b = second.unchanged (omega arith) in b
          ∙ a);
    }

pub raised_more : (sum one sum' before middle now : ℕ) → sum' ≡ sum + one
    → middle ≡ count_plus sum before → now ≡ count_plus one middle → now ≡ count_plus sum' before
raised_more sum one sum' before middle now is first second = omega (arith, first, second)

-- where all have counted nothing, those behind the first n have not
pub none_behind : {D : Type 0} (f : D → ℕ) (n : ℕ) (ds : List D) → sum_by f ds ≡ 0
    → sum_by f (drop n ds) ≡ 0
none_behind f n ds none =
    omega (
      arith,
      sum_by-append f (take n ds) (drop n ds),
      ap (sum_by f) (take-append-drop n ds),
    )

-- of disks that were not read before, those behind the backends' have the reads of the workers
pub workers_read : {D : Type 0} (reads : D → ℕ) (opened ds : List D) (n k by_runners by_workers : ℕ)
    → n ≡ k → sum_by reads opened ≡ 0 → by_workers ≡ by_runners
    → by_runners + sum_by reads (drop n opened) ≡ sum_by reads (drop n ds)
    → by_workers ≡ sum_by reads (drop k ds)
workers_read reads opened ds n k by_runners by_workers same none is read =
    subst (λ (j : ℕ). by_workers ≡ sum_by reads (drop j ds)) same
    (omega (arith, none_behind reads n opened none))
