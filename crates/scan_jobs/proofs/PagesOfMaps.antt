-- What a map has of the pages that it has taken.
use Rattle.std.proofs.Common.{◌≡◌, ℕ, List, [], ◌∷◌, ◌++◌, sym, ap, ◌∙◌}
use Rattle.std.proofs.lemmas.List.{map-append}
use Rattle.heap_scan.specs.Warnings.{warning_for, warnings_of}
use Rattle.heap_scan.proofs.Jobs.{warnings-append}
use Rattle.vis_map.specs.Bits.{Map}
use Rattle.scan_jobs.specs.ConsumedPages.{MapHasPages}
use Rattle.scan_jobs.proofs.UnitEntries.{G}
use Rattle.scan_jobs.proofs.OutputOfPages.{no_warnings, one_warning}

pub no_pages : (m : Map) (warnings : List ℕ) → m.added ≡ [] → warnings ≡ []
    → MapHasPages m warnings []
no_pages m warnings none quiet = record { added = none; warnings_are = quiet ∙ sym no_warnings }

-- the next page and its warning, if it was zeroed, behind those before
pub page_taken : (m n : Map) (warnings warnings' : List ℕ) (g : G)
    → n.added ≡ m.added ++ g.page ∷ [] → warnings' ≡ warnings ++ warning_for g → (pages : List G)
    → MapHasPages m warnings pages → MapHasPages n warnings' (pages ++ g ∷ [])
page_taken m n warnings warnings' g added warned pages has = record {
  added = added ∙ ap (λ (l : List (List ℕ)). l ++ g.page ∷ []) has.added
      ∙ sym (map-append (λ (x : G). x.page) pages (g ∷ []));
  warnings_are = warned
      ∙ ap (λ (l : List ℕ). l ++ warning_for g) has.warnings_are
      ∙ ap (λ (l : List ℕ). warnings_of pages ++ l) (one_warning g)
      ∙ sym (warnings-append pages (g ∷ []));
}
