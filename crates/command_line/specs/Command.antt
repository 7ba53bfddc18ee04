-- What the words of a command ask for.
use Rattle.std.specs.Prelude.{ℕ, List, [], ◌∷◌, ◌≡◌, ◌≤◌, Option, Some, None, IfSome, ◌+◌, ◌-◌, ◌<◌}
use Rattle.std.specs.Prelude.{Bool, false, not, unwrap_or, ◌*◌, ◌++◌, ◌≢◌}
use Rattle.generated_pages.specs.GeneratedPages.{generated_file_name}
use Rattle.std.specs.List.{filter, position_or_len}
use Rattle.std.specs.Option.{option_map_or}
use Rattle.std.specs.Str.{bytes_eq}
use Rattle.page_check.specs.declared.rules.DamagedPages.TheVariants.{Give}
use Rattle.page_faults.specs.declared.options.CheckOptions.{CheckOptions}
use Rattle.scan_settings.specs.ListOptions.{ListOptions, list_options}
use Rattle.scan_settings.specs.Settings.{page_rules}
use Rattle.scan_settings.specs.declared.page_text.PageText.TheVariants.{Items, Faults}
use Rattle.scan_settings.specs.declared.settings.ScanSettings.{ScanSettings}
use Rattle.vis_map.specs.declared.map.Skip.{Skip}

-- the name of a visibility map, and which blocks are left out by it
pub record MapOption : Type 0 where
  pub name : List ℕ
  pub skip : Skip

-- the first and the last block, where they are given, the names of files, and how many pages are
-- generated, where the one file is that of generated pages; the map of the one file, where it is
-- given; how they are read, but for the segment size, which is that of the disks; and whether the
-- totals are told
pub record Command : Type 0 where
  pub from : Option ℕ
  pub to : Option ℕ
  pub files : List (List ℕ)
  pub generated : Option ℕ
  pub map : Option MapOption
  pub settings : ScanSettings
  pub stats : Bool

-- the options of a listing by these settings
abbrev pub options_of_settings : ScanSettings → ListOptions
options_of_settings settings = list_options (page_rules settings) settings.page_text

-- the numbers of blocks that `--from` and `--to` may give end below this: 16 segments of the
-- greatest size
abbrev pub number_limit : ℕ
number_limit = 2097152

-- the most blocks that a relation may have: those of 16 segments of this size
abbrev pub length_limit : ℕ → ℕ
length_limit segment = 16 * segment

-- so many pages may be generated
abbrev pub generated_page_limit : ℕ
generated_page_limit = 4096

-- no fault of a page is told: a damaged one ends the listing, or is listed as one of zeros
pub record TellsNoFault (settings : ScanSettings) : Type 0 where
  pub none_given : settings.damaged ≢ Give
  pub is_listing : (options : CheckOptions) → settings.page_text ≢ Faults options

-- of generated pages all blocks are asked for, and their checksums are not verified: they have none
abbrev pub HasNoRange : Option ℕ → Option ℕ → Option ℕ → ScanSettings → Type 0
HasNoRange None from to settings = Unit {0}
HasNoRange (Some n) from to settings =
    (1 ≤ n) × (n ≤ generated_page_limit) × (from ≡ None) × (to ≡ None)
    × (settings.checksums ≡ false) × (settings.page_text ≡ Items) × (settings.damaged ≢ Give)

-- the command asks for all blocks of so many generated pages, which have no checksums
abbrev pub AsksForGeneratedPages : ℕ → Command → Type 0
AsksForGeneratedPages n command =
    (command.files ≡ generated_file_name ∷ []) × (command.from ≡ None) × (command.to ≡ None)
    × (n ≤ generated_page_limit) × (command.map ≡ None) × (command.settings.checksums ≡ false)
    × (command.settings.page_text ≡ Items) × (command.settings.damaged ≢ Give)

-- the map is that of the one file, which has another name; no pages are generated, and no fault of
-- a page is told
pub record IsMapOf (generated : Option ℕ) (files : List (List ℕ)) (settings : ScanSettings)
    (map : MapOption) : Type 0 where
  pub file : List ℕ
  pub one_file : files ≡ file ∷ []
  pub other_name : bytes_eq map.name file ≡ false
  pub none_made : generated ≡ None
  pub no_fault : TellsNoFault settings

-- a block number that is given is below the limit
abbrev pub IsBelowIfGiven : Option ℕ → ℕ → Type 0
IsBelowIfGiven given limit = IfSome given (λ n. n < limit)

-- the distinct ones of some names, each where it stands first
abbrev pub without_duplicates : List (List ℕ) → List (List ℕ)
without_duplicates [] = []
without_duplicates (name ∷ names) =
    name ∷ filter (λ other. not (bytes_eq other name)) (without_duplicates names)

-- the distinct names of the files, and behind them that of the map, where it is given
abbrev pub relations_with : List (List ℕ) → Option MapOption → List (List ℕ)
relations_with files None = without_duplicates files
relations_with files (Some map) = without_duplicates files ++ map.name ∷ []

-- the relations
abbrev pub command_relations : Command → List (List ℕ)
command_relations command = relations_with command.files command.map

-- the number of a relation: its place among them
abbrev pub relation_number : List ℕ → List (List ℕ) → ℕ
relation_number name names = position_or_len (λ other. bytes_eq other name) names

-- the first block of each file
abbrev pub first_block : Command → ℕ
first_block command = unwrap_or command.from 0

-- how many blocks a command asks for of a relation of this length: from `--from`, or 0, up to
-- `--to`, or the last block
abbrev pub asked_count : Command → ℕ → ℕ
asked_count command length =
    option_map_or (λ last. last + 1) command.to length - first_block command
