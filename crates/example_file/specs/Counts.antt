-- Pages and their line pointers.
use Rattle.std.specs.Prelude.{List, length}
use Rattle.std.specs.List.{sum_by}
use Rattle.page_check.specs.LinePointers.{line_pointer_count}
use Rattle.page_check.specs.SynchronousAnswer.{Given}
use Rattle.example_file.specs.declared.Counts.{Counts}

abbrev pub counts_of : List (Given (Unit {0})) → Counts
counts_of pages = record {
  pages = length pages;
  items = sum_by (λ g. line_pointer_count g.page) pages;
}
