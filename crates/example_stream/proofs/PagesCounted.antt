-- The pages that were counted so far, and one more answer.
use Rattle.std.proofs.Common.{◌≡◌, ℕ, ◌+◌, List, [], ◌∷◌, ◌++◌, length, refl, ◌∙◌}
use Rattle.std.proofs.Common.{subst, arith, length-append}
use Rattle.std.specs.Prelude.{Option, Some, None, ⊤}
use Rattle.std.proofs.lemmas.List.Sums.{sum_by_push}
use Rattle.page_check.specs.Told.{Told}
use Rattle.page_check.specs.LinePointers.{line_pointer_count}
use Rattle.page_check.specs.declared.rules.PageRules.{PageRules}
use Rattle.page_check.specs.SynchronousAnswer.{Entry, Ending, Given, reading_of}
use Rattle.page_check.specs.IsAnswer.{IsNext, Next, Page, Stop}
use Rattle.page_check.proofs.AnswersInOrder.{answered_none, answered_next}
use Rattle.stream_answer.specs.StreamAnswers.{pages_given}
use Rattle.read_stream.proofs.UnreadCauses.{next_wider}
use Rattle.example_stream.specs.Items.{ItemsCounted, answer_items}

pub one_page : (said : Next (Unit {0})) (more : ℕ) → answer_items said ≡ Some more
    → pages_given said ≡ 1
one_page (Page given) more is = refl
one_page (Stop end) more is = absurd (cc)

pub counted_none : (rules : PageRules) (told : Option Told) (entries : List (Entry (Unit {0})))
    → ItemsCounted rules told entries [] 0 0
counted_none rules told entries = record {
  pages = [];
  items_are = refl;
  count_is = refl;
  answers = answered_none (reading_of rules told) (λ _. ⊤) entries;
}

module _ (rules : PageRules) (told : Option Told) (may : Entry (Unit {0}) → Type 0)
    (entries : List (Entry (Unit {0}))) where
  -- the answer is next behind the pages that were counted
  next_behind : (given count items : ℕ) (said : Next (Unit {0})) → given ≡ count
      → IsNext (reading_of rules told) may entries given said
      → (so_far : ItemsCounted rules told entries [] items count)
      → IsNext (reading_of rules told) (λ _. ⊤) entries (length so_far.pages) said
  next_behind given count items said same is so_far =
      next_wider (reading_of rules told) may (λ _. ⊤) entries (length so_far.pages) said (λ e m. tt)
      (subst (λ (n : ℕ). IsNext (reading_of rules told) may entries n said)
      (same ∙ so_far.count_is) is)

  pub counted_page : (given items count more : ℕ) (said : Next (Unit {0})) → given ≡ count
      → answer_items said ≡ Some more → IsNext (reading_of rules told) may entries given said
      → ItemsCounted rules told entries [] items count
      → ItemsCounted rules told entries [] (items + more) (count + 1)
  counted_page given items count more (Stop end) same many is so_far = absurd (cc)
  counted_page given items count more (Page page) same many is so_far =
      let has : line_pointer_count page.page ≡ more = cc in
      let sum = sum_by_push (λ (g : Given (Unit {0})). line_pointer_count g.page) so_far.pages page
      in record {
        pages = so_far.pages ++ page ∷ [];
        items_are = omega (arith, so_far.items_are);
        count_is = omega (arith, length-append so_far.pages (page ∷ []), so_far.count_is);
        answers = answered_next (reading_of rules told) (λ _. ⊤) entries so_far.pages (Page page)
            so_far.answers (next_behind given count items (Page page) same is so_far);
      }

  pub counted_end : (given items count : ℕ) (said : Next (Unit {0})) → given ≡ count
      → answer_items said ≡ None → IsNext (reading_of rules told) may entries given said
      → ItemsCounted rules told entries [] items count
      → (end : Ending) × ItemsCounted rules told entries (end ∷ []) items count
  counted_end given items count (Page page) same none is so_far = absurd (cc)
  counted_end given items count (Stop end) same none is so_far = (
    end,
    record {
      pages = so_far.pages;
      items_are = so_far.items_are;
      count_is = so_far.count_is;
      answers = answered_next (reading_of rules told) (λ _. ⊤) entries so_far.pages (Stop end)
          so_far.answers (next_behind given count items (Stop end) same is so_far);
    },
  )
