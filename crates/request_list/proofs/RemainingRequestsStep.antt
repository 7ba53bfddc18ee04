-- The next part is cut off from the front of what is left.
use Rattle.std.proofs.Common.{◌≡◌, ℕ, ◌+◌, ◌*◌, ◌-◌, ◌^◌, ◌<◌, ◌≤◌, List, [], ◌∷◌, ◌++◌}
use Rattle.std.proofs.Common.{map, drop, length, get_or, refl, sym, ap, ◌∙◌, arith}
use Rattle.std.proofs.Common.{length-append, Bor}
use Rattle.std.specs.Prelude.{Option, Some, None, slice_index, min}
use Rattle.std.specs.List.{flat_map}
use Rattle.std.proofs.lemmas.List.FromFn.{length-map-range_with_len}
use Rattle.std.proofs.lemmas.List.{drop_more, drop_all, length-map, get_or-map}
use Rattle.std.proofs.lemmas.List.Concat.{flat_map-cons}
use Rattle.heap_scan.specs.Job.{block_entry}
use Rattle.command_line.specs.Command.{Command, IsBelowIfGiven, number_limit, number_limit}
use Rattle.command_line.specs.Command.{command_relations, relation_number, first_block, asked_count}
use Rattle.request_list.specs.RequestList.{Part, block_range, all_file_requests, all_file_parts}
use Rattle.request_list.specs.RequestList.{blocks_of_parts, one_file_requests, range_parts}
use Rattle.request_list.specs.RemainingRequests.{resolved_requests, resolved_parts}
use Rattle.request_list.specs.RemainingRequests.{resolved_file_parts, remaining_parts}
use Rattle.request_list.specs.RemainingRequests.{file_name_of_place, file_range, IsResolved}
use Rattle.request_list.specs.declared.cutter.JobRange.{JobRange}
use Rattle.request_list.specs.declared.cutter.ResolvedCommand.{ResolvedCommand}
use Rattle.request_list.proofs.FileRequestsAppend.{relation_number-below}
use Rattle.request_list.proofs.PartsOfRequests.{file_blocks, next_part, no_parts}

pub block_range_length : (r first count : ℕ) → length (block_range r first count) ≡ count
block_range_length r first count = length-map-range_with_len (block_entry r) first count

module _ (a : ResolvedCommand) where
  abbrev behind : ℕ → List Part
  behind file = flat_map (resolved_file_parts a) (drop file (a.command.now).files)

  pub remaining_parts-all : remaining_parts a (record { relation = 0; first = 0; count = 0 }) 0
      ≡ resolved_parts a
  unfolding remaining_parts all_file_parts
  remaining_parts-all = refl

  -- the blocks of all parts
  pub resolved_blocks : blocks_of_parts (resolved_parts a) ≡ resolved_requests a
  resolved_blocks = file_blocks (slice_index a.lengths.now) a.command.now

  module _ (rest : JobRange) (file : ℕ) where
    none_left : rest.count ≡ 0
        → range_parts rest.relation rest.first rest.count ++ behind file ≡ behind file
    none_left none =
        ap (λ (l : List Part). l ++ behind file)
        (no_parts rest.relation rest.first rest.count none)

    -- the first part is cut off
    pub remaining_parts-cut : (next : ℕ) → next ≡ min 64 rest.count → 0 < rest.count
        → remaining_parts a rest file ≡ block_range rest.relation rest.first next
        ∷ remaining_parts a (record {
          relation = rest.relation;
          first = rest.first + next;
          count = rest.count - next;
        }) file
    unfolding remaining_parts
    remaining_parts-cut next is some =
        ap (λ (l : List Part). l ++ behind file)
        (next_part rest.relation rest.first rest.count next is some)

    -- the next FILE word
    pub remaining_parts-next : rest.count ≡ 0 → file < length (a.command.now).files
        → remaining_parts a rest file
        ≡ remaining_parts a (file_range a (file_name_of_place a file)) (file + 1)
    unfolding remaining_parts
    remaining_parts-next none inside =
        none_left none
        ∙ ap (flat_map (resolved_file_parts a)) (drop_more (a.command.now).files file [] inside)
        ∙ flat_map-cons (resolved_file_parts a) (file_name_of_place a file)
        (drop (file + 1) (a.command.now).files)

    -- behind the last FILE word
    pub remaining_parts-end : (last : ℕ) → length (a.command.now).files ≤ file
        → last ≡ length (a.command.now).files
        → remaining_parts a rest file ≡ remaining_parts a rest last
    unfolding remaining_parts
    remaining_parts-end last all is =
        ap (λ (l : List (List ℕ)). range_parts rest.relation rest.first rest.count
        ++ flat_map (resolved_file_parts a) l)
        (drop_all file (a.command.now).files all
        ∙ sym (drop_all last (a.command.now).files (omega (arith, is))))

    pub remaining_parts-none : rest.count ≡ 0 → length (a.command.now).files ≤ file
        → remaining_parts a rest file ≡ []
    unfolding remaining_parts
    remaining_parts-none none all =
        none_left none
        ∙ ap (flat_map (resolved_file_parts a)) (drop_all file (a.command.now).files all)

few_of : (to : Option ℕ) (first n : ℕ) (command : Command) → command.to ≡ to
    → IsBelowIfGiven to number_limit → n ≤ number_limit → asked_count command n ≤ number_limit
few_of None first n command is below small = rw is (omega arith)
few_of (Some last) first n command is below small = rw is (omega arith)

few_in : (a : ResolvedCommand) → IsResolved a → IsBelowIfGiven (a.command.now).to number_limit
    → (names : List (List ℕ))
    → length (flat_map (one_file_requests (slice_index a.lengths.now) a.command.now) names)
    ≤ number_limit * length names
few_in a is below [] = omega arith
few_in a is below (name ∷ names) =
    let r = relation_number name (command_relations a.command.now) in
    let n = asked_count a.command.now (slice_index a.lengths.now r) in
    let f = one_file_requests (slice_index a.lengths.now) a.command.now in
    let here : n ≤ number_limit =
    few_of (a.command.now).to 0 (slice_index a.lengths.now r) a.command.now refl below (is.fit r) in
    omega (
      arith,
      ap length (flat_map-cons f name names),
      length-append (f name) (flat_map f names),
      block_range_length r (first_block a.command.now) n,
      few_in a is below names,
    )

-- there are not so many blocks in all
pub few_requests : (a : ResolvedCommand) → IsResolved a
    → IsBelowIfGiven (a.command.now).to number_limit
    → length (a.command.now).files ≤ 1024 → length (resolved_requests a) ≤ 2 ^ 31
unfolding all_file_requests
few_requests a is below few = omega (arith, few_in a is below (a.command.now).files)

-- the relation of the FILE word at a place
pub relation_at : (a : ResolvedCommand) (file number : ℕ)
    (files : List (Bor (List ℕ))) (d : Bor (List ℕ))
    → IsResolved a → file < length (a.command.now).files
    → map (λ f. f.now) files ≡ (a.command.now).files
    → number ≡ relation_number (get_or files file d).now a.relations.now
    → (number ≡ relation_number (file_name_of_place a file) (command_relations a.command.now))
    × (number < length a.relations.now)
relation_at a file number files d is inside same found =
    let within : file < length files = omega (
      arith,
      ap length same,
      length-map files (λ (f : Bor (List ℕ)). f.now),
    ) in
    let name : file_name_of_place a file ≡ (get_or files file d).now =
    ap (λ (l : List (List ℕ)). get_or l file []) (sym same)
    ∙ get_or-map (λ (f : Bor (List ℕ)). f.now) files file d [] within in
    let number_is : number ≡ relation_number (file_name_of_place a file)
    (command_relations a.command.now) =
    found ∙ ap (λ (n : List ℕ). relation_number n a.relations.now) (sym name)
    ∙ ap (λ (l : List (List ℕ)). relation_number (file_name_of_place a file) l) is.relations_are in
    let below = relation_number-below a.command.now file (file_name_of_place a file) inside refl in
    (number_is, omega (arith, ap length is.relations_are))

-- there are as many FILE words as names
pub file_count : (a : ResolvedCommand) (files : List (Bor (List ℕ)))
    → map (λ f. f.now) files ≡ (a.command.now).files
    → length files ≡ length (a.command.now).files
file_count a files same =
    sym (length-map files (λ (f : Bor (List ℕ)). f.now)) ∙ ap length same
