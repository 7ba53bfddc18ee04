-- The text of a page with its tuples by the verdict.
use Rattle.std.proofs.Common.{◌≡◌, ℕ, ◌+◌, ◌-◌, List, ◌++◌, length, refl, ap, sym, ◌∙◌, arith, append_assoc}
use Rattle.page_check.specs.declared.verdict.Verdict.TheVariants.{Zero, Sane}
use Rattle.page_check.specs.Fields.{header_of}
use Rattle.page_check.specs.Verdict.{verdict_of}
use Rattle.page_check.specs.LinePointers.{line_pointer_count}
use Rattle.heap_scan.specs.PageText.{page_text_of, page_line}
use Rattle.heap_tuple.specs.Chains.{roots_of, longest_of}
use Rattle.heap_tuple.specs.TuplesText.{tuples_text_up_to, chains_line, item_texts, texts_from}
use Rattle.heap_tuple.specs.TuplesText.{tuples_text_of}
use Rattle.heap_tuple.proofs.ItemTexts.{texts_from-all, texts_from-joined}

pub tuples_text_of-new : (relation block : ℕ) (page : List ℕ) → verdict_of page ≡ Zero
    → tuples_text_of relation block page ≡ page_text_of relation block page
unfolding tuples_text_of
tuples_text_of-new relation block page new = rw new refl

pub tuples_text_of-used : (relation block : ℕ) (page : List ℕ) → verdict_of page ≡ Sane
    → tuples_text_of relation block page
    ≡ page_line relation block (header_of page) (line_pointer_count page)
    ++ (item_texts page block ++ chains_line (length (roots_of page block)) (longest_of page block))
unfolding tuples_text_of
tuples_text_of-used relation block page used = rw used refl

-- the text up to an item, and the lines of more items
pub tuples_text_up_to-more : (relation block some more : ℕ) (page : List ℕ)
    → tuples_text_up_to relation block page some ++ texts_from page block some more
    ≡ tuples_text_up_to relation block page (some + more)
unfolding tuples_text_up_to
tuples_text_up_to-more relation block some more page =
    let first = page_line relation block (header_of page) (line_pointer_count page) in
    let front = texts_from page block 0 some in
    let from : some ≡ 0 + some = omega arith in
    append_assoc first front (texts_from page block some more)
    ∙ ap (λ (n : ℕ). first ++ (front ++ texts_from page block n more)) from
    ∙ ap (λ (lines : List ℕ). first ++ lines) (texts_from-joined page block 0 some more)

-- the whole text: up to the last item, and the line of the chains
pub tuples_text_up_to-all : (relation block items roots longest : ℕ) (page : List ℕ) → verdict_of page ≡ Sane
    → items ≡ line_pointer_count page → roots ≡ length (roots_of page block)
    → longest ≡ longest_of page block
    → tuples_text_up_to relation block page items ++ chains_line roots longest
    ≡ tuples_text_of relation block page
unfolding tuples_text_up_to
tuples_text_up_to-all relation block items roots longest page used all many most =
    let first = page_line relation block (header_of page) (line_pointer_count page) in
    let chains = chains_line roots longest in
    let same : items ≡ line_pointer_count page - 0 = omega arith in
    append_assoc first (texts_from page block 0 items) chains
    ∙ ap (λ (n : ℕ). first ++ (texts_from page block 0 n ++ chains)) same
    ∙ ap (λ (lines : List ℕ). first ++ (lines ++ chains)) (texts_from-all page block)
    ∙ ap (λ (n : ℕ). first ++ (item_texts page block ++ chains_line n longest)) many
    ∙ ap (λ (n : ℕ). first
    ++ (item_texts page block ++ chains_line (length (roots_of page block)) n)) most
    ∙ sym (tuples_text_of-used relation block page used)
