-- Files by their names.
use Rattle.std.proofs.Common.{◌≡◌, ℕ, List, true, ap, ◌∙◌, sym, Bool}
use Rattle.std.specs.Option.{is_some}
use Rattle.std.proofs.lemmas.List.Sums.{AllPass-from_list_all}
use Rattle.aio_disk.specs.Shelf.{NamedFiles, OneMissing, are_there, file_contents}

-- where all names are there, none is missing
pub none_missing : (named : NamedFiles) (names : List (List ℕ)) → are_there named names ≡ true
    → OneMissing named names → ⊥
none_missing named names all missing =
    let test : List ℕ → Bool = λ name. is_some (file_contents named name) in
    let there = AllPass-from_list_all test names all missing.0 missing.1 missing.2 in
    let here : test missing.1 ≡ true = ap test (sym missing.3) ∙ there in
    let absent = missing.4 in cc
