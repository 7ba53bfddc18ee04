-- FILE words that are listed one after the other.
use Rattle.std.proofs.Common.{◌≡◌, ℕ, ◌<◌, List, [], ◌∷◌, length}
use Rattle.std.proofs.Common.{get_or, refl, ap, subst, sym, arith, suc, ◌∙◌, length-append, not}
use Rattle.std.specs.Prelude.{Option, Some, None}
use Rattle.std.specs.List.{filter, flat_map}
use Rattle.std.specs.Str.{bytes_eq}
use Rattle.std.proofs.lemmas.List.Concat.{flat_map-cons}
use Rattle.command_line.specs.Command.{Command, MapOption, without_duplicates, command_relations}
use Rattle.command_line.specs.Command.{relations_with, relation_number, first_block, asked_count}
use Rattle.request_list.proofs.DistinctNames.{place_of_name}
use Rattle.request_list.specs.RequestList.{Request, blocks_of_parts, one_file_requests}
use Rattle.request_list.specs.RequestList.{all_file_requests, all_file_parts, one_file_parts}
use Rattle.request_list.specs.RequestList.{Part, range_parts, request_parts, with_map_part}
use Rattle.request_list.proofs.PartsOfRequests.{file_blocks}

-- the number of a relation that the words name is one of those that there are
pub relation_number-below : (command : Command) (k : ℕ) (name : List ℕ) → k < length command.files
    → get_or command.files k [] ≡ name
    → relation_number name (command_relations command) < length (command_relations command)
relation_number-below command k name below here =
    let P : List ℕ → Type 0 =
    λ n. relation_number n (command_relations command) < length (command_relations command) in
    subst P here (place_of_name command.files command.map k below)

flat_map-same : {X A : Type 0} (F G : X → List A) (d : X) (xs : List X)
    → ((k : ℕ) → k < length xs → F (get_or xs k d) ≡ G (get_or xs k d))
    → flat_map F xs ≡ flat_map G xs
flat_map-same F G d [] same = refl
flat_map-same F G d (x ∷ xs) same =
    let first : F x ≡ G x = same 0 (omega arith) in
    let rest = flat_map-same F G d xs (λ k below. same (suc k) (omega arith)) in
    rw (flat_map-cons F x xs, flat_map-cons G x xs, first, rest) refl

-- the request list depends on the lengths of the relations alone that there are
all_file_parts-same : (f g : ℕ → ℕ) (command : Command)
    → ((r : ℕ) → r < length (command_relations command) → f r ≡ g r)
    → all_file_parts f command ≡ all_file_parts g command
unfolding all_file_parts
all_file_parts-same f g command same =
    flat_map-same (one_file_parts f command) (one_file_parts g command) [] command.files
    (λ k below.
    (let name = get_or command.files k [] in
    let r = relation_number name (command_relations command) in
    let length_is : f r ≡ g r = same r (relation_number-below command k name below refl) in
    ap (λ (n : ℕ). range_parts r (first_block command) (asked_count command n)) length_is))

pub all_file_requests-same : (f g : ℕ → ℕ) (command : Command)
    → ((r : ℕ) → r < length (command_relations command) → f r ≡ g r)
    → all_file_requests f command ≡ all_file_requests g command
all_file_requests-same f g command same =
    sym (file_blocks f command) ∙ ap blocks_of_parts (all_file_parts-same f g command same)
    ∙ file_blocks g command

no_files : (g : ℕ → ℕ) (command : Command) → command.files ≡ [] → all_file_requests g command ≡ []
unfolding all_file_requests
no_files g command none = ap (flat_map (one_file_requests g command)) none

with_map_part-same : (f g : ℕ → ℕ) (map_page : ℕ → List ℕ) (files : List (List ℕ))
    (by : Option MapOption) (requests : List Request) (parts : List Part)
    → (files ≡ [] → requests ≡ [])
    → ((r : ℕ) → r < length (relations_with files by) → f r ≡ g r)
    → with_map_part by f map_page requests parts ≡ with_map_part by g map_page requests parts
with_map_part-same f g map_page files None requests parts none same = refl
with_map_part-same f g map_page [] (Some m) requests parts none same = rw (none refl) refl
with_map_part-same f g map_page (file ∷ files) (Some m) requests parts none same =
    let others = filter (λ other. not (bytes_eq other file)) (without_duplicates files) in
    ap (λ (n : ℕ). with_map_part (Some m) (λ _. n) map_page requests parts)
    (same 1 (omega (arith, length-append others (m.name ∷ []))))

pub request_parts-same : (f g : ℕ → ℕ) (map_page : ℕ → List ℕ) (command : Command)
    → ((r : ℕ) → r < length (command_relations command) → f r ≡ g r)
    → request_parts f map_page command ≡ request_parts g map_page command
request_parts-same f g map_page command same =
    ap (λ (l : List Request). with_map_part command.map f map_page l (all_file_parts f command))
    (all_file_requests-same f g command same)
    ∙ ap (with_map_part command.map f map_page (all_file_requests g command))
    (all_file_parts-same f g command same)
    ∙ with_map_part-same f g map_page command.files command.map (all_file_requests g command)
    (all_file_parts g command) (no_files g command) same
