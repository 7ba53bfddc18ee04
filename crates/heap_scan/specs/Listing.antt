-- The listing of pages that were given: their texts, in order.
use Rattle.std.specs.Prelude.{ℕ, List}
use Rattle.std.specs.List.{flat_map}
use Rattle.page_check.specs.SynchronousAnswer.{Given}
use Rattle.page_check.specs.declared.rules.PageMark.{PageMark}

-- how pages are listed: the text of a page by its mark, its relation, its block and its bytes, and
-- how many faults that text tells
pub record PageFormat : Type 0 where
  pub text_of : PageMark → ℕ → ℕ → List ℕ → List ℕ
  pub fault_count_of : PageMark → ℕ → ℕ → List ℕ → ℕ

module _ {P : Type 0} (format : PageFormat) where
  abbrev pub text_for : Given P → List ℕ
  text_for g = format.text_of g.mark g.entry.relation g.entry.block g.page

  abbrev pub fault_count_for : Given P → ℕ
  fault_count_for g = format.fault_count_of g.mark g.entry.relation g.entry.block g.page

  unfoldable pub listing : List (Given P) → List ℕ
  listing pages = flat_map text_for pages
