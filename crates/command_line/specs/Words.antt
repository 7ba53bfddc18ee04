-- The words of a command: what they ask for, or that they are no command.
use Rattle.std.specs.Prelude.{◌≡◌, ℕ, List, [], ◌∷◌, Option, Some, None, Bool, false, ◌&&◌, length}
use Rattle.std.specs.Prelude.{nat_le, if◌then◌else◌, not, unwrap_or, codes, is_some}
use Rattle.std.specs.List.{list_all}
use Rattle.std.specs.Str.{bytes_eq}
use Rattle.clap.specs.Words.{Row, Text, fault_of, matches_of, first_of, all_of}
use Rattle.command_line.specs.Grammar.{the_command}
use Rattle.command_line.specs.Command.{Command, MapOption}
use Rattle.command_line.specs.Numbers.{is_count, number_or, number_if_given, lsn_if_given}
use Rattle.command_line.specs.PageOptions.{damaged_pages, page_text_with}
use Rattle.command_line.specs.RefusedOptions.{are_refused}
use Rattle.generated_pages.specs.GeneratedPages.{generated_file_name}
use Rattle.command_line.specs.declared.words.given_options.GivenOptions.{GivenOptions}
use Rattle.command_line.specs.declared.words.map_option.MapOption.{MapOption as MapOfWords}
use Rattle.scan_settings.specs.declared.page_text.PageText.{PageText}
use Rattle.scan_settings.specs.declared.settings.MethodKind.{MethodKind}
use Rattle.scan_settings.specs.declared.settings.MethodKind.TheVariants as method
use Rattle.scan_settings.specs.declared.settings.ScanSettings.{ScanSettings}
use Rattle.vis_map.specs.declared.map.Skip.{Skip}
use Rattle.vis_map.specs.declared.map.Skip.TheVariants as skip

abbrev pub method_of : Option Text → Option MethodKind
method_of None = Some method.Worker
method_of (Some word) =
    if bytes_eq word (codes "sync") then Some method.Sync
    else if bytes_eq word (codes "worker") then Some method.Worker
    else if bytes_eq word (codes "ring") then Some method.Ring else None

abbrev pub skip_of : Option Text → Option Skip
skip_of None = Some skip.Visible
skip_of (Some word) =
    if bytes_eq word (codes "visible") then Some skip.Visible
    else if bytes_eq word (codes "frozen") then Some skip.Frozen else None

-- a flag that is given has the value `true`
abbrev pub is_set : Option Text → Bool
is_set None = false
is_set (Some word) = bytes_eq word (codes "true")

-- the name of a file is not empty
abbrev pub is_name : Text → Bool
is_name word = nat_le 1 (length word)

-- 1 to 1024 names of files
abbrev pub valid_file_names : Option (List Text) → Option (List Text)
valid_file_names None = None
valid_file_names (Some words) =
    if is_count (length words) 1024 && list_all is_name words then Some words else None

-- the FILE words
abbrev pub file_words : List Row → List Text
file_words rows = unwrap_or (all_of (codes "FILE") rows) []

-- there are 1 to 1024 FILE words, none of them empty
abbrev pub NamesFiles : List Row → Type 0
NamesFiles rows = valid_file_names (all_of (codes "FILE") rows) ≡ Some (file_words rows)

-- the files that are listed
abbrev pub source_files : Option ℕ → List Row → List Text
source_files None rows = file_words rows
source_files (Some n) rows = generated_file_name ∷ []

-- there are right FILE words, where no pages are generated
abbrev pub NamesSource : Option ℕ → List Row → Type 0
NamesSource None rows = NamesFiles rows
NamesSource (Some n) rows = Unit {0}

-- the settings, where each option that they come from has a right value
abbrev pub settings_with : GivenOptions → Option MethodKind → Option ℕ → Option ℕ → Option ℕ
    → Option ℕ → Option ℕ → Option ℕ → Option PageText → Bool → Bool → Option ScanSettings
settings_with given (Some m) (Some w) (Some n) (Some c) (Some o) (Some h) (Some b) (Some text)
    batch full =
    Some (record {
      method = m;
      workers = w;
      backends = n;
      combine = c;
      concurrency = o;
      handles = h;
      buffers = b;
      batch = batch;
      full = full;
      segment = 131072;
      checksums = given.checksums;
      damaged = damaged_pages given;
      page_text = text;
    })
settings_with _ _ _ _ _ _ _ _ _ _ _ = None

-- what is read: either FILE words or, with `--make`, generated pages
abbrev pub parsed_files : Option (Option ℕ) → Option (List Text) → Option (List Text)
parsed_files (Some None) words = valid_file_names words
parsed_files (Some (Some n)) None = Some (generated_file_name ∷ [])
parsed_files (Some (Some n)) (Some words) = None
parsed_files None words = None

-- the option that the code keeps, as contracts see it
abbrev pub map_option_view : MapOfWords → MapOption
map_option_view map = record { name = map.name.now; skip = map.skip }

-- a map has a name, which is not that of its file
abbrev pub is_map_of : Text → Text → Bool
is_map_of file name = is_name name && not (bytes_eq name file)

abbrev pub named_map : Text → Text → Option Skip → Option (Option MapOption)
named_map file name None = None
named_map file name (Some skip) =
    if is_map_of file name then Some (Some (record { name = name; skip = skip })) else None

-- `--map` beside one FILE word, so not with `--make`
abbrev pub parsed_map_option : Option Text → Option Text → Option (List Text)
    → Option (Option MapOption)
parsed_map_option None skip words = Some None
parsed_map_option (Some name) skip (Some (file ∷ [])) = named_map file name (skip_of skip)
parsed_map_option (Some name) skip _ = None

abbrev pub command_with : Option (Option ℕ) → Option (Option ℕ) → Option (Option ℕ)
    → Option (List Text) → Option (Option MapOption) → Option ScanSettings → Bool → Option Command
command_with (Some from) (Some to) (Some generated) (Some files) (Some map) (Some settings) stats =
    Some (record {
      from = from;
      to = to;
      files = files;
      generated = generated;
      map = map;
      settings = settings;
      stats = stats;
    })
command_with _ _ _ _ _ _ _ = None

-- what the values ask for that `clap` found in the words
module _ (rows : List Row) where
  abbrev pub text_of : Text → Option Text
  text_of name = first_of name rows

  -- which options are given, of those that do not go with all others
  abbrev pub given_options : GivenOptions
  given_options = record {
    from = is_some (text_of (codes "from"));
    to = is_some (text_of (codes "to"));
    make = is_some (text_of (codes "make"));
    map = is_some (text_of (codes "map"));
    skip = is_some (text_of (codes "skip"));
    checksums = is_set (text_of (codes "checksums"));
    tuples = is_set (text_of (codes "tuples"));
    zero_damaged = is_set (text_of (codes "zero-damaged"));
    show_damaged = is_set (text_of (codes "show-damaged"));
    check = is_set (text_of (codes "check"));
    end_lsn = is_some (text_of (codes "end-lsn"));
    next_xid = is_some (text_of (codes "next-xid"));
  }

  abbrev pub parsed_page_text : Option PageText
  parsed_page_text = page_text_with given_options
      (lsn_if_given (text_of (codes "end-lsn")))
      (number_if_given 10 0 4294967295 (text_of (codes "next-xid")))

  abbrev pub parsed_settings : Option ScanSettings
  parsed_settings = settings_with given_options
      (method_of (text_of (codes "method")))
      (number_or 1 32 3 (text_of (codes "workers")))
      (number_or 1 16 2 (text_of (codes "backends")))
      (number_or 1 128 16 (text_of (codes "combine")))
      (number_or 1 256 16 (text_of (codes "concurrency")))
      (number_or 1 64 16 (text_of (codes "handles")))
      (number_or 16 16384 128 (text_of (codes "buffers")))
      parsed_page_text
      (is_set (text_of (codes "batch")))
      (is_set (text_of (codes "full")))

  abbrev pub parsed_map : Option (Option MapOption)
  parsed_map = parsed_map_option (text_of (codes "map")) (text_of (codes "skip"))
      (all_of (codes "FILE") rows)

  abbrev pub parsed_generated : Option (Option ℕ)
  parsed_generated = number_if_given 7 1 4096 (text_of (codes "make"))

  abbrev pub parsed_command : Option Command
  parsed_command = if are_refused given_options then None else command_with
      (number_if_given 7 0 2097151 (text_of (codes "from")))
      (number_if_given 7 0 2097151 (text_of (codes "to")))
      parsed_generated
      (parsed_files parsed_generated (all_of (codes "FILE") rows))
      parsed_map
      parsed_settings
      (is_set (text_of (codes "stats")))

-- what was found, where `clap` has no fault to find in the words
abbrev pub if_accepted : {F X : Type 0} → List F → Option X → Option X
if_accepted [] found = found
if_accepted (fault ∷ faults) found = None

-- what the words ask for, or None where they are no command
abbrev pub command_of : List Text → Option Command
command_of words = if_accepted (fault_of the_command words)
    (parsed_command (matches_of the_command words))
