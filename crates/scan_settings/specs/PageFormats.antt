-- The text of a page, and how many faults it tells.
use Rattle.std.specs.Prelude.{ℕ, List, length}
use Rattle.page_check.specs.declared.rules.PageMark.{PageMark}
use Rattle.page_check.specs.declared.rules.PageMark.TheVariants.{Valid, Zeroed, Damaged}
use Rattle.heap_scan.specs.Listing.{PageFormat}
use Rattle.heap_scan.specs.PageText.{page_text_of, damaged_text_of}
use Rattle.heap_tuple.specs.TuplesText.{tuples_text_of}
use Rattle.page_faults.specs.Faults.{faults_of}
use Rattle.page_faults.specs.FaultsText.{faults_text_of}
use Rattle.scan_settings.specs.declared.page_text.PageText.{PageText}
use Rattle.scan_settings.specs.declared.page_text.PageText.TheVariants.{Items, Tuples, Faults}

-- in a listing: the text of a page, but of a damaged one only what its header has
abbrev pub text_by_mark : (ℕ → ℕ → List ℕ → List ℕ) → PageMark → ℕ → ℕ → List ℕ → List ℕ
text_by_mark text_of Valid = text_of
text_by_mark text_of Zeroed = text_of
text_by_mark text_of Damaged = damaged_text_of

-- and that it is damaged is one fault
abbrev pub damaged_count : PageMark → ℕ
damaged_count Valid = 0
damaged_count Zeroed = 0
damaged_count Damaged = 1

abbrev pub listing_format : (ℕ → ℕ → List ℕ → List ℕ) → PageFormat
listing_format text_of = record {
  text_of = text_by_mark text_of;
  fault_count_of = λ mark relation block page. damaged_count mark;
}

abbrev pub page_format : PageText → PageFormat
page_format Items = listing_format page_text_of
page_format Tuples = listing_format tuples_text_of
page_format (Faults options) = record {
  text_of = λ mark. faults_text_of options;
  fault_count_of = λ mark relation block page. length (faults_of options block page);
}
