-- The pages that a consumer has taken so far, and what comes of the next answer.
use Rattle.std.proofs.Common.{◌≡◌, ◌≢◌, ℕ, ◌+◌, ◌<◌, ◌≤◌, List, [], ◌∷◌, ◌++◌, length}
use Rattle.std.proofs.Common.{refl, sym, ap, ◌∙◌, subst, arith, length-append}
use Rattle.std.specs.Prelude.{Option, Some, None, ⊤}
use Rattle.std.specs.List.{All}
use Rattle.std.proofs.lemmas.List.Elements.{All-push, All-nil}
use Rattle.page_check.specs.Told.{Told}
use Rattle.page_check.specs.declared.rules.PageRules.{PageRules}
use Rattle.page_check.specs.declared.rules.DamagedPages.{DamagedPages}
use Rattle.page_check.specs.declared.rules.DamagedPages.TheVariants as damaged_pages
use Rattle.page_check.specs.declared.rules.PageMark.{PageMark}
use Rattle.page_check.specs.declared.rules.PageMark.TheVariants.{Valid, Zeroed, Damaged}
use Rattle.page_check.specs.SynchronousAnswer.{reading_of, Ending as SaidEnding, End, Invalid}
use Rattle.page_check.specs.SynchronousAnswer.{PastEnd, Unread, AllowsMark}
use Rattle.page_check.specs.IsAnswer.{Next as Said, Page, Stop, IsAnswer, IsNext, IfGiven}
use Rattle.page_check.proofs.AnswersInOrder.{answered_none, answered_next}
use Rattle.stream_answer.specs.StreamAnswers.{pages_given}
use Rattle.scan_jobs.specs.Jobs.{answered_ending, job_ending}
use Rattle.scan_jobs.specs.ConsumedPages.{PagesPredicate, PagesConsumed, StillHolds}
use Rattle.scan_jobs.specs.ConsumedPages.{AnswerConsumed}
use Rattle.scan_jobs.specs.declared.job.Ending.{Ending}
use Rattle.stream_answer.proofs.AnswerPages.{page_within, page_anyway, pages_anyway}
use Rattle.scan_jobs.proofs.UnitEntries.{E, G}

abbrev pub AreUnzeroed : DamagedPages → List G → Type 0
AreUnzeroed damaged pages = damaged ≢ damaged_pages.Zero → All (λ g. g.mark ≢ Zeroed) pages

-- this many pages, which are the first answers, were taken
pub record SoFar (holds : PagesPredicate) (rules : PageRules) (told : Option Told) (entries : List E)
    (given : ℕ) : Type 0 where
  pub pages : List G
  pub count : length pages ≡ given
  pub held : holds pages
  pub none_zeroed : AreUnzeroed rules.damaged pages
  pub answers : IsAnswer (reading_of rules told) (λ _. ⊤) entries
      (record { pages = pages; endings = [] })

pub nothing_yet : (holds : PagesPredicate) (rules : PageRules) (told : Option Told) (entries : List E)
    (given : ℕ) → given ≡ 0 → holds [] → SoFar holds rules told entries given
nothing_yet holds rules told entries given none held = record {
  pages = [];
  count = sym none;
  held = held;
  none_zeroed = λ off. All-nil (λ g. g.mark ≢ Zeroed);
  answers = answered_none (reading_of rules told) (λ _. ⊤) entries;
}

-- there is room for the next page
pub next_room : (holds : PagesPredicate) (rules : PageRules) (told : Option Told) (may : E → Type 0)
    (entries : List E) (given most : ℕ) (next : Said (Unit {0})) → length entries ≤ most
    → SoFar holds rules told entries given → IsNext (reading_of rules told) may entries given next
    → IfGiven next (λ _. (pages : List G) × holds pages × (length pages < most))
next_room holds rules told may entries given most (Stop end) few so_far is = tt
next_room holds rules told may entries given most (Page g) few so_far is =
    let within = page_within (reading_of rules told) may entries given g is in (
      so_far.pages,
      so_far.held,
      omega (arith, so_far.count),
    )

not_zeroed : (damaged : DamagedPages) (mark : PageMark) → AllowsMark damaged mark
    → damaged ≢ damaged_pages.Zero → mark ≢ Zeroed
not_zeroed damaged Valid allowed off = λ is. absurd (cc)
not_zeroed damaged Zeroed allowed off = absurd (off allowed)
not_zeroed damaged Damaged allowed off = λ is. absurd (cc)

end_said : (end : SaidEnding) → answered_ending (job_ending end) ≡ Some end
end_said End = refl
end_said (Invalid b) = refl
end_said (PastEnd b) = refl
end_said (Unread b) = refl

module _ (was now : PagesPredicate) (rules : PageRules) (told : Option Told) (may : E → Type 0)
    (entries : List E) (given : ℕ) (next : Said (Unit {0})) (result : Option Ending) where
  taken_on : (said : Said (Unit {0})) → SoFar was rules told entries given
      → IsNext (reading_of rules told) may entries given said
      → IfGiven said (λ g. AllowsMark rules.damaged g.mark)
      → AnswerConsumed was now said None → SoFar now rules told entries (given + pages_given said)
  taken_on (Stop end) so_far is allowed takes = absurd (cc)
  taken_on (Page g) so_far is allowed takes =
      let found = reading_of rules told in
      let P : ℕ → Type 0 = λ n. IsNext found may entries n (Page g) in
      let here = page_anyway found may entries (length so_far.pages) g
      (subst P (sym so_far.count) is) in record {
        pages = so_far.pages ++ g ∷ [];
        count = omega (arith, length-append so_far.pages (g ∷ []), so_far.count);
        held = takes so_far.pages so_far.held;
        none_zeroed = λ off. All-push (λ x. x.mark ≢ Zeroed) so_far.pages g
            (so_far.none_zeroed off) (not_zeroed rules.damaged g.mark allowed off);
        answers =
            answered_next found (λ _. ⊤) entries so_far.pages (Page g) so_far.answers here;
      }

  within_on : (said : Said (Unit {0})) → IsNext (reading_of rules told) may entries given said
      → AnswerConsumed was now said None → (pages_given said ≡ 1) × (given < length entries)
  within_on (Stop end) is takes = absurd (cc)
  within_on (Page g) is takes = (refl, page_within (reading_of rules told) may entries given g is)

  -- the answer was taken, and there are more
  pub taken_more : (given' : ℕ) → SoFar was rules told entries given
      → IsNext (reading_of rules told) may entries given next
      → IfGiven next (λ g. AllowsMark rules.damaged g.mark)
      → AnswerConsumed was now next result → result ≡ None → given' ≡ given + pages_given next
      → SoFar now rules told entries given'
  taken_more given' so_far is allowed takes none count =
      subst (λ (n : ℕ). SoFar now rules told entries n) (sym count)
      (taken_on next so_far is allowed
      (subst (λ (x : Option Ending). AnswerConsumed was now next x) none takes))

  pub nearer : (given' : ℕ) → IsNext (reading_of rules told) may entries given next
      → AnswerConsumed was now next result → result ≡ None → given' ≡ given + pages_given next
      → (given' ≡ given + 1) × (given < length entries)
  nearer given' is takes none count =
      let one = within_on next is
      (subst (λ (x : Option Ending). AnswerConsumed was now next x) none takes) in
      (count ∙ ap (λ (n : ℕ). given + n) one.0, one.1)

  ended : (end : SaidEnding) → SoFar was rules told entries given → StillHolds was now
      → IsNext (reading_of rules told) may entries given (Stop end)
      → PagesConsumed now rules told may entries (answered_ending (job_ending end))
  ended end so_far still is =
      let found = reading_of rules told in
      let P : ℕ → Type 0 = λ n. IsNext found may entries n (Stop end) in
      let Q : Option SaidEnding → Type 0 = λ e. PagesConsumed now rules told may entries e in
      subst Q (sym (end_said end)) (record {
        pages = so_far.pages;
        held = still so_far.pages so_far.held;
        none_zeroed = so_far.none_zeroed;
        answers = answered_next found may entries so_far.pages (Stop end)
            (pages_anyway found may entries so_far.pages so_far.answers)
            (subst P (sym so_far.count) is);
      })

  cut : SoFar was rules told entries given → StillHolds was now
      → PagesConsumed now rules told may entries None
  cut so_far still = record {
    pages = so_far.pages;
    held = still so_far.pages so_far.held;
    none_zeroed = so_far.none_zeroed;
    answers = pages_anyway (reading_of rules told) may entries so_far.pages so_far.answers;
  }

  last_of : (said : Said (Unit {0})) (e : Ending) → SoFar was rules told entries given
      → IsNext (reading_of rules told) may entries given said → AnswerConsumed was now said (Some e)
      → PagesConsumed now rules told may entries (answered_ending e)
  last_of (Page g) e so_far is takes =
      subst (λ (x : Ending). PagesConsumed now rules told may entries (answered_ending x))
      (sym takes.0)
      (cut so_far takes.1)
  last_of (Stop end) e so_far is takes =
      let same : job_ending end ≡ e = cc in
      subst (λ (x : Ending). PagesConsumed now rules told may entries (answered_ending x)) same
      (ended end so_far takes.1 is)

  -- the last answer
  pub taken_end : (e : Ending) → SoFar was rules told entries given
      → IsNext (reading_of rules told) may entries given next → AnswerConsumed was now next result
      → result ≡ Some e → PagesConsumed now rules told may entries (answered_ending e)
  taken_end e so_far is takes some = last_of next e so_far is
      (subst (λ (x : Option Ending). AnswerConsumed was now next x) some takes)
