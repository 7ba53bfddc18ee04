-- How much of a map is read.
use Rattle.std.proofs.Common.{◌≡◌, ℕ, zero, suc, ◌+◌, ◌-◌, ◌≤◌, List, [], ◌∷◌, length, map, max}
use Rattle.std.proofs.Common.{get_or, refl, sym, ap, ◌∙◌, subst, arith, append-nil, true}
use Rattle.std.specs.Prelude.{Option, Some, None, fold, slice_index}
use Rattle.std.specs.List.{flat_map, range_with_len}
use Rattle.std.specs.Str.{bytes_eq}
use Rattle.std.proofs.lemmas.Slice.Eq.{bytes_eq-Decides}
use Rattle.vis_map.specs.MapRequest.{greatest_of}
use Rattle.command_line.specs.Command.{Command, MapOption, asked_count, first_block}
use Rattle.command_line.specs.Command.{relation_number, command_relations, relations_with}
use Rattle.request_list.specs.RemainingRequests.{IsResolved, file_name_of_place}
use Rattle.request_list.specs.RemainingRequests.{greatest_requested_block, resolved_requests}
use Rattle.request_list.specs.RequestList.{Request, block_range, all_file_requests}
use Rattle.request_list.specs.RequestList.{one_file_requests}
use Rattle.request_list.specs.declared.cutter.ResolvedCommand.{ResolvedCommand}
use Rattle.request_list.proofs.BlocksOfOneRelation.{AreOf, range_of}

greatest_from : (first n : ℕ) → fold max first (range_with_len (first + 1) n) ≡ first + n
greatest_from first zero = omega arith
greatest_from first (suc n) =
    let step : max first (first + 1) ≡ first + 1 = omega arith in
    let same : first + 1 + n ≡ first + suc n = omega arith in
    ap (λ (x : ℕ). fold max x (range_with_len (first + 1 + 1) n)) step
    ∙ (greatest_from (first + 1) n ∙ same)

blocks_of_range : (r first n : ℕ)
    → map (λ (e : Request). e.block) (block_range r first n) ≡ range_with_len first n
blocks_of_range r first zero = refl
blocks_of_range r first (suc n) =
    ap (λ (l : List ℕ). first ∷ l) (blocks_of_range r (first + 1) n)

greatest_in_range : (r first n : ℕ)
    → greatest_of (map (λ (e : Request). e.block) (block_range r first (suc n))) ≡ Some (first + n)
greatest_in_range r first n =
    ap greatest_of (blocks_of_range r first (suc n))
    ∙ ap {B = Option ℕ} (λ (x : ℕ). Some x) (greatest_from first n)

-- the one file is relation 0
first_number : (file : List ℕ) (names : List (List ℕ)) → relation_number file (file ∷ names) ≡ 0
first_number file names =
    let here : bytes_eq file file ≡ true = (bytes_eq-Decides file file).1 refl in rw here refl

abbrev one_range : ResolvedCommand → List ℕ → List Request
one_range a file =
    let r = relation_number file (command_relations a.command.now) in
    block_range r (first_block a.command.now)
    (asked_count a.command.now (slice_index a.lengths.now r))

one_file : (lengths : ℕ → ℕ) (command : Command) (file : List ℕ) → command.files ≡ file ∷ []
    → all_file_requests lengths command ≡ one_file_requests lengths command file
unfolding all_file_requests
one_file lengths command file is =
    ap (flat_map (one_file_requests lengths command)) is
    ∙ append-nil (one_file_requests lengths command file)

zero_is : (files : List (List ℕ)) (file : List ℕ) (by : Option MapOption) → files ≡ file ∷ []
    → relation_number file (relations_with files by) ≡ 0
zero_is files file None is = rw is (first_number file [])
zero_is files file (Some m) is = rw is (first_number file (m.name ∷ []))

module _ (a : ResolvedCommand) (file : List ℕ) (is : (a.command.now).files ≡ file ∷ []) where
  pub requests_are : resolved_requests a ≡ one_range a file
  requests_are = one_file (slice_index a.lengths.now) a.command.now file is

  pub number_is : relation_number file (command_relations a.command.now) ≡ 0
  number_is = zero_is (a.command.now).files file (a.command.now).map is

  pub first_file : file_name_of_place a 0 ≡ file
  first_file = ap (λ (l : List (List ℕ)). get_or l 0 []) is

  pub all_of_zero : AreOf 0 (resolved_requests a)
  all_of_zero =
      let r = relation_number file (command_relations a.command.now) in
      let Q : ℕ → Type 0 = λ n. AreOf n (one_range a file) in
      let P : List Request → Type 0 = λ l. AreOf 0 l in
      subst P (sym requests_are) (subst Q number_is (range_of r _ _))

  pub none_asked : (count : ℕ)
      → count ≡ asked_count a.command.now
      (slice_index a.lengths.now (relation_number file (command_relations a.command.now)))
      → count ≡ 0 → greatest_requested_block a ≡ None
  none_asked count same none =
      ap (λ (l : List Request). greatest_of (map (λ (e : Request). e.block) l)) requests_are
      ∙ rw (← same, none) refl

  pub some_asked : (count : ℕ)
      → count ≡ asked_count a.command.now
      (slice_index a.lengths.now (relation_number file (command_relations a.command.now)))
      → 1 ≤ count → greatest_requested_block a ≡ Some (first_block a.command.now + (count - 1))
  some_asked zero same some = absurd (omega arith)
  some_asked (suc n) same some =
      let r = relation_number file (command_relations a.command.now) in
      ap (λ (l : List Request). greatest_of (map (λ (e : Request). e.block) l)) requests_are
      ∙ rw (← same) (greatest_in_range r (first_block a.command.now) n
      ∙ ap {B = Option ℕ} (λ (x : ℕ). Some (first_block a.command.now + x))
      (let one : n ≡ suc n - 1 = omega arith in one))

-- the map is a relation behind that of the file
two_relations : (files : List (List ℕ)) (file : List ℕ) (by : Option MapOption) (m : MapOption)
    → files ≡ file ∷ [] → by ≡ Some m → length (relations_with files by) ≡ 2
two_relations files file by m is given = rw (given, is) refl

pub has_two : (a : ResolvedCommand) (m : MapOption) (file : List ℕ) → IsResolved a
    → (a.command.now).files ≡ file ∷ [] → (a.command.now).map ≡ Some m
    → length a.relations.now ≡ 2
has_two a m file asked is given =
    ap length asked.relations_are
    ∙ two_relations (a.command.now).files file (a.command.now).map m is given
