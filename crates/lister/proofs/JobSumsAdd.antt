-- Sums that are added up over jobs.
use Rattle.std.proofs.Common.{◌≡◌, ◌≢◌, ℕ, ◌+◌, List, [], ◌++◌, refl, sym, ap, ◌∙◌, subst, arith}
use Rattle.std.specs.Prelude.{Option, Some, None}
use Rattle.page_check.specs.Told.{Told}
use Rattle.heap_scan.specs.Sums.{sums_joined, no_sums}
use Rattle.heap_scan.specs.declared.sums.PageSums.{PageSums}
use Rattle.scan_jobs.specs.declared.job.Ending.{Ending as JobEnding}
use Rattle.scan_jobs.specs.declared.job.Ending.TheVariants as ending
use Rattle.lister.specs.ListerState.{outcome_of_ending}
use Rattle.run_report.specs.Output.{ListFormat}
use Rattle.request_list.specs.RequestList.{Part}
use Rattle.run_report.specs.Sums.{saturated_count, saturated_sums, IsSummedOutput}
use Rattle.run_report.specs.Sums.{SumsGrew}
use Rattle.run_report.specs.declared.report.Outcome.{Outcome}
use Rattle.run_report.specs.declared.report.Outcome.TheVariants.{Done}
use Rattle.run_report.proofs.OutputsAppend.{lists_append, lists_more, lists_none}

abbrev sums_with : ℕ → ℕ → ℕ → ℕ → PageSums
sums_with a b c d = record { pages = a; zero = b; items = c; faults = d }

pub same_sums : (x y : PageSums) → x.pages ≡ y.pages → x.zero ≡ y.zero → x.items ≡ y.items
    → x.faults ≡ y.faults → x ≡ y
same_sums x y pages zeros items faults =
    ap (λ (n : ℕ). sums_with n x.zero x.items x.faults) pages
    ∙ ap (λ (n : ℕ). sums_with y.pages n x.items x.faults) zeros
    ∙ ap (λ (n : ℕ). sums_with y.pages y.zero n x.faults) items
    ∙ ap (λ (n : ℕ). sums_with y.pages y.zero y.items n) faults

pub zero_sums : (s : PageSums)
    → (s.pages ≡ 0) × ((s.zero ≡ 0) × ((s.items ≡ 0) × (s.faults ≡ 0))) → s ≡ no_sums
zero_sums s is = same_sums s no_sums is.0 is.1.0 is.1.1.0 is.1.1.1

-- what a job gave that ended a run in no fault
pub ended_done : (r : ℕ) (end : JobEnding) → outcome_of_ending r end ≡ Done → end ≡ ending.Pages
ended_done r ending.Pages is = refl
ended_done r (ending.Invalid b) is = absurd (cc)
ended_done r (ending.Unread b) is = absurd (cc)
ended_done r (ending.PastEnd b) is = absurd (cc)
ended_done r ending.NoMemory is = absurd (cc)

-- nothing was added
grew_none : (s : PageSums) → SumsGrew s s no_sums
grew_none s total is =
    is ∙ ap saturated_sums (same_sums _ _ (omega arith) (omega arith) (omega arith) (omega arith))

-- some sums and then others
grew_then : (s t u a b : PageSums) → SumsGrew s t a → SumsGrew t u b
    → SumsGrew s u (sums_joined a b)
grew_then s t u a b first second total is =
    second (sums_joined total a) (first total is)
    ∙ ap saturated_sums (same_sums _ _ (omega arith) (omega arith) (omega arith) (omega arith))

saturated_more : (a b t : ℕ) → a ≡ saturated_count t → saturated_count (a + b)
    ≡ saturated_count (t + b)
saturated_more a b t is = omega (arith, is)

-- those of one job
pub grew_by : (s t a : PageSums) → t ≡ saturated_sums (sums_joined s a) → SumsGrew s t a
grew_by s t a added total is =
    added ∙ same_sums _ _
    (saturated_more s.pages a.pages total.pages (ap (λ (x : PageSums). x.pages) is))
    (saturated_more s.zero a.zero total.zero (ap (λ (x : PageSums). x.zero) is))
    (saturated_more s.items a.items total.items (ap (λ (x : PageSums). x.items) is))
    (saturated_more s.faults a.faults total.faults (ap (λ (x : PageSums). x.faults) is))

module _ (m : ListFormat) (told : Option Told) where
  pub summed_none : (b : Option (List ℕ)) (s : PageSums) → IsSummedOutput m told [] b b Done s s []
  unfolding lists_none
  summed_none b s = record { lists = lists_none m told b; sums_grew = grew_none s }

  pub summed_append : (xs ys : List Part) (b between a : Option (List ℕ)) (o : Outcome)
      (s t u : PageSums) (v w : List ℕ) → IsSummedOutput m told xs b between Done s t v
      → IsSummedOutput m told ys between a o t u w
      → IsSummedOutput m told (xs ++ ys) b a o s u (v ++ w)
  unfolding lists_append
  summed_append xs ys b between a o s t u v w front back = record {
    lists = lists_append m told xs ys b between a o v w front.lists back.lists;
    sums_grew = grew_then s t u front.lists.sums back.lists.sums front.sums_grew back.sums_grew;
  }

  pub summed_more : (xs ys : List Part) (b a : Option (List ℕ)) (o : Outcome) (s t : PageSums)
      (w : List ℕ) → o ≢ Done → IsSummedOutput m told xs b a o s t w
      → IsSummedOutput m told (xs ++ ys) b a o s t w
  unfolding lists_more
  summed_more xs ys b a o s t w stops front = record {
    lists = lists_more m told xs ys b a o w stops front.lists;
    sums_grew = front.sums_grew;
  }

  pub summed_same : (xs ys : List Part) (b a : Option (List ℕ)) (o : Outcome) (s t : PageSums)
      (w : List ℕ) → xs ≡ ys → IsSummedOutput m told xs b a o s t w
      → IsSummedOutput m told ys b a o s t w
  summed_same xs ys b a o s t w same listed =
      let P : List Part → Type 0 = λ l. IsSummedOutput m told l b a o s t w in subst P same listed

-- where nothing was added up before, the sums are those of the pages
pub summed_alone : (sums added : PageSums) → SumsGrew no_sums sums added
    → sums ≡ saturated_sums added
summed_alone sums added grew =
    grew no_sums refl
    ∙ ap saturated_sums (same_sums _ added (omega arith) (omega arith) (omega arith) (omega arith))
