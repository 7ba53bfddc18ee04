-- What a shelf holds: files by their names, which are segments of relations.
use Rattle.std.specs.Prelude.{ℕ, zero, suc, List, [], ◌∷◌, ◌++◌, map, find, Option, Some, None}
use Rattle.std.specs.Prelude.{IsSome, IsNone, IfSome, Any, String, Vec, string_bytes, Bool, true}
use Rattle.std.specs.Prelude.{not, ◌&&◌, codes, decimal}
use Rattle.std.specs.declared.alloc.Global.{Global}
use Rattle.std.specs.List.{All, list_all, list_any, range_with_len}
use Rattle.std.specs.Option.{option_map, is_some}
use Rattle.std.specs.Str.{bytes_eq}
use Rattle.page_check.specs.Told.{Told, told_in}

-- names with the bytes under them: the first of a name counts
abbrev pub NamedFiles : Type 0
NamedFiles = List (List ℕ × List ℕ)

-- the files of a shelf, and the segment size of the relations that they are
pub record Files : Type 0 where
  pub named : NamedFiles
  pub segment : ℕ

-- files of relations that have this segment size
abbrev pub files_in : ℕ → NamedFiles → Files
files_in segment named = record { named = named; segment = segment }

-- the name and the bytes of a file as they are handed in
abbrev pub named_file : String Global × Vec ℕ Global → List ℕ × List ℕ
named_file file = (string_bytes file.0, file.1.items)

-- the bytes under a name
abbrev pub file_contents : NamedFiles → List ℕ → Option (List ℕ)
file_contents named name =
    option_map (λ file. file.1) (find (λ file. bytes_eq file.0 name) named)

-- the name of a segment of a relation: behind the first one, the relation's name with a dot and
-- the segment's number (`_mdfd_segpath` of `md.c`)
abbrev pub segment_name : List ℕ → ℕ → List ℕ
segment_name name zero = name
segment_name name (suc number) = name ++ (codes "." ++ decimal (suc number))

-- those that are there, up to the first one that is not
abbrev pub up_to_gap : {A : Type 0} → List (Option A) → List A
up_to_gap [] = []
up_to_gap (None ∷ later) = []
up_to_gap (Some first ∷ later) = first ∷ up_to_gap later

-- the bytes under the segments' names of a relation, 17 at most, as long as they are there
abbrev pub file_segments : NamedFiles → List ℕ → List (List ℕ)
file_segments named name =
    up_to_gap (map (λ number. file_contents named (segment_name name number)) (range_with_len 0 17))

-- what a disk over these names tells
abbrev pub files_told : Files → List (List ℕ) → Told
files_told files names = told_in files.segment (map (file_segments files.named) names)

-- the same, where the files are told
abbrev pub shelf_told : Option Files → List (List ℕ) → Option Told
shelf_told files names = option_map (λ f. files_told f names) files

-- each of the names is there
abbrev pub AllThere : NamedFiles → List (List ℕ) → Type 0
AllThere named names = All (λ name. IsSome (file_contents named name)) names

-- the same, as a test
abbrev pub are_there : NamedFiles → List (List ℕ) → Bool
are_there named names = list_all (λ name. is_some (file_contents named name)) names

-- one of the names is not there
abbrev pub OneMissing : NamedFiles → List (List ℕ) → Type 0
OneMissing named names = Any (λ name. IsNone (file_contents named name)) names

-- each of the names is there, where that is told
abbrev pub AllThereIfTold : Option Files → List (List ℕ) → Type 0
AllThereIfTold told names = IfSome told (λ files. AllThere files.named names)

-- one of the files has this name
abbrev pub has_name : NamedFiles → List ℕ → Bool
has_name named name = list_any (λ file. bytes_eq file.0 name) named

-- no two of the files have one name
abbrev pub have_distinct_names : NamedFiles → Bool
have_distinct_names [] = true
have_distinct_names (file ∷ named) = not (has_name named file.0) && have_distinct_names named
