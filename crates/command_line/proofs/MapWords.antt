-- What it says of a command that it has a map.
use Rattle.std.proofs.Common.{◌≡◌, ℕ, List, [], ◌∷◌, refl, sym, subst, Bool, true, false}
use Rattle.std.specs.Prelude.{Option, Some, None, IfSome, codes, not, ◌&&◌, if◌then◌else◌, is_some}
use Rattle.std.specs.Str.{bytes_eq}
use Rattle.clap.specs.Words.{Row, Text, all_of, first_of}
use Rattle.vis_map.specs.declared.map.Skip.{Skip}
use Rattle.command_line.specs.Command.{IsMapOf, MapOption}
use Rattle.command_line.specs.PageOptions.{HasPageOptions}
use Rattle.command_line.specs.RefusedOptions.{are_refused}
use Rattle.command_line.specs.Words.{given_options, source_files, is_map_of, is_name, parsed_files}
use Rattle.command_line.specs.Words.{parsed_map, parsed_map_option, named_map, skip_of}
use Rattle.command_line.proofs.GivenTogether.{no_fault_beside_map}
use Rattle.scan_settings.specs.declared.settings.ScanSettings.{ScanSettings}

-- a command that has a map has one file, whose name is another
record IsOfOne (words : Option (List Text)) (map : MapOption) : Type 0 where
  file : Text
  one : words ≡ Some (file ∷ [])
  other : bytes_eq map.name file ≡ false

is_other_by : (named same : Bool) → (named && not same) ≡ true → same ≡ false
is_other_by true false is = refl
is_other_by true true is = absurd (cc)
is_other_by false same is = absurd (cc)

of_one_by : (file name : Text) (skip : Skip) (right : Bool) (map : Option MapOption)
    → is_map_of file name ≡ right
    → (if right then Some (Some (record { name = name; skip = skip })) else None) ≡ Some map
    → IfSome map (IsOfOne (Some (file ∷ [])))
of_one_by file name skip true None right is = cc
of_one_by file name skip true (Some map) right is =
    record {
      file = file;
      one = refl;
      other =
          let P : Text → Type 0 = λ n. bytes_eq n file ≡ false in
          let same : name ≡ map.name = cc in
          subst P same (is_other_by (is_name name) (bytes_eq name file) right);
    }
of_one_by file name skip false map right is = absurd (cc)

of_one : (file name : Text) (skip : Option Skip) (map : Option MapOption)
    → named_map file name skip ≡ Some map → IfSome map (IsOfOne (Some (file ∷ [])))
of_one file name None map is = absurd (cc)
of_one file name (Some skip) map is = of_one_by file name skip (is_map_of file name) map refl is

one_file : (name skip : Option Text) (words : Option (List Text)) (map : Option MapOption)
    → parsed_map_option name skip words ≡ Some map
    → IfSome map (λ m. IsOfOne words m × (is_some name ≡ true))
one_file None skip words None is = tt
one_file None skip words (Some map) is = absurd (cc)
one_file (Some name) skip (Some (file ∷ [])) None is = tt
one_file (Some name) skip (Some (file ∷ [])) (Some map) is =
    (of_one file name (skip_of skip) (Some map) is, refl)
one_file (Some name) skip None map is = absurd (cc)
one_file (Some name) skip (Some []) map is = absurd (cc)
one_file (Some name) skip (Some (file ∷ other ∷ files)) map is = absurd (cc)

-- no pages are generated where there are FILE words
none_generated : (generated : Option ℕ) (words s : List Text)
    → parsed_files (Some generated) (Some words) ≡ Some s → generated ≡ None
none_generated None words s is = refl
none_generated (Some n) words s is = absurd (cc)

map_of_files : (rows : List Row) (generated : Option ℕ) (s : List Text)
    (settings : ScanSettings) (map : Option MapOption)
    → parsed_files (Some generated) (all_of (codes "FILE") rows) ≡ Some s
    → are_refused (given_options rows) ≡ false → HasPageOptions (given_options rows) settings
    → IfSome map (λ m. IsOfOne (all_of (codes "FILE") rows) m
    × (is_some (first_of (codes "map") rows) ≡ true))
    → IfSome map (IsMapOf generated (source_files generated rows) settings)
map_of_files rows generated s settings None source taken has of = tt
map_of_files rows generated s settings (Some map) source taken has of =
    let P : Option (List Text) → Type 0 = λ w. parsed_files (Some generated) w ≡ Some s in
    let none = none_generated generated _ s (subst P of.0.one source) in
    let Q : Option ℕ → Type 0 = λ m. source_files m rows ≡ of.0.file ∷ [] in
    let here : Q None = rw (of.0.one) refl in
    record {
      file = of.0.file;
      one_file = subst Q (sym none) here;
      other_name = of.0.other;
      none_made = none;
      no_fault = no_fault_beside_map (given_options rows) settings taken has of.1;
    }

-- words that are taken, and what they say of a map
pub map_of_words : (rows : List Row) (generated : Option ℕ) (s : List Text) (right : Bool)
    (settings : ScanSettings) (map : Option MapOption)
    → parsed_files (Some generated) (all_of (codes "FILE") rows)
    ≡ (if right then Some s else None)
    → right ≡ true → are_refused (given_options rows) ≡ false
    → HasPageOptions (given_options rows) settings → parsed_map rows ≡ Some map
    → IfSome map (IsMapOf generated (source_files generated rows) settings)
map_of_words rows generated s true settings map source right taken has is =
    map_of_files rows generated s settings map source taken has (one_file _ _ _ map is)
map_of_words rows generated s false settings map source right taken has is = absurd (cc)
