-- Worked commands: which relations their words name, and which blocks they ask for.
use Rattle.std.proofs.Common.{◌≡◌, ℕ, List, [], ◌∷◌, refl, false}
use Rattle.std.specs.Prelude.{Option, Some, None}
use Rattle.scan_settings.specs.declared.settings.MethodKind.TheVariants as method
use Rattle.scan_settings.specs.declared.settings.ScanSettings.{ScanSettings}
use Rattle.page_check.specs.declared.rules.DamagedPages.TheVariants as damaged_pages
use Rattle.scan_settings.specs.declared.page_text.PageText.TheVariants.{Items}
use Rattle.command_line.specs.Command.{Command, command_relations, relation_number}
use Rattle.vis_map.specs.declared.map.Skip.TheVariants as skip
use Rattle.request_list.specs.RequestList.{request, all_file_requests}

-- the names `f` and `g`
abbrev f : List ℕ
f = 102 ∷ []

abbrev g : List ℕ
g = 103 ∷ []

abbrev any_settings : ScanSettings
any_settings = record {
  method = method.Sync;
  workers = 1;
  backends = 1;
  combine = 1;
  concurrency = 1;
  handles = 1;
  buffers = 16;
  batch = false;
  full = false;
  segment = 131072;
  checksums = false;
  damaged = damaged_pages.Refuse;
  page_text = Items;
}

abbrev command_with : Option ℕ → Option ℕ → List (List ℕ) → Command
command_with first last names =
    record {
      from = first;
      to = last;
      files = names;
      generated = None;
      map = None;
      settings = any_settings;
      stats = false;
    }

-- a name that comes again is no new relation
g_is_the_second : (command_relations (command_with None None (f ∷ g ∷ f ∷ [])) ≡ f ∷ g ∷ [])
    × (relation_number g (f ∷ g ∷ []) ≡ 1)
g_is_the_second = (refl, refl)

-- the map of a file is the relation behind it
map_is_the_second : command_relations
    (record (command_with None None (f ∷ [])) {
      map = Some (record { name = g; skip = skip.Visible });
    })
    ≡ f ∷ g ∷ []
map_is_the_second = refl

-- but its blocks are listed again
f_again : all_file_requests (λ r. 1) (command_with None None (f ∷ g ∷ f ∷ []))
    ≡ request 0 0 ∷ request 1 0 ∷ request 0 0 ∷ []
unfolding all_file_requests
f_again = refl

from_above_to : all_file_requests (λ r. 3) (command_with (Some 2) (Some 1) (f ∷ [])) ≡ []
unfolding all_file_requests
from_above_to = refl

-- blocks behind the end are asked for by `--to`
to_behind_the_end : all_file_requests (λ r. 4) (command_with (Some 3) (Some 4) (f ∷ []))
    ≡ request 0 3 ∷ request 0 4 ∷ []
unfolding all_file_requests
to_behind_the_end = refl

from_the_end : all_file_requests (λ r. 4) (command_with (Some 4) None (f ∷ [])) ≡ []
unfolding all_file_requests
from_the_end = refl
