-- A request list and its parts.
use Rattle.std.proofs.Common.{◌≡◌, ℕ, zero, suc, ◌+◌, ◌*◌, ◌-◌, ◌/◌, ◌<◌, ◌≤◌, List, [], ◌∷◌, ◌++◌}
use Rattle.std.proofs.Common.{map, refl, sym, ap, ◌∙◌, arith, inl, inr, not}
use Rattle.std.specs.Prelude.{Option, Some, None, min}
use Rattle.std.specs.List.{flat_map, range_with_len}
use Rattle.std.proofs.lemmas.Bool.{cases_lt}
use Rattle.std.proofs.lemmas.Grind.{flat_map-append}
use Rattle.std.proofs.lemmas.List.{map-append}
use Rattle.std.proofs.lemmas.List.Elements.{filter-append}
use Rattle.heap_scan.specs.Job.{block_entry}
use Rattle.vis_map.specs.Bits.{is_marked}
use Rattle.vis_map.specs.MapRequest.{greatest_of, needed_pages, unmarked_entries}
use Rattle.vis_map.specs.declared.map.Skip.{Skip}
use Rattle.command_line.specs.Command.{Command, MapOption, relation_number, command_relations}
use Rattle.command_line.specs.Command.{first_block, asked_count}
use Rattle.request_list.specs.RequestList.{Request, Part, block_range, blocks_of_parts, range_parts}
use Rattle.request_list.specs.RequestList.{all_file_parts, all_file_requests, one_file_parts}
use Rattle.request_list.specs.RequestList.{one_file_requests, request_list, request_parts, with_map}
use Rattle.request_list.specs.RequestList.{with_map_part}

pub blocks-append : (xs ys : List Part)
    → blocks_of_parts (xs ++ ys) ≡ blocks_of_parts xs ++ blocks_of_parts ys
blocks-append xs ys = flat_map-append (λ (part : Part). part) xs ys

range_joined : (a b m n k : ℕ) → b ≡ a + m → k ≡ m + n
    → range_with_len a k ≡ range_with_len a m ++ range_with_len b n
range_joined a b zero n k from all =
    let start : b ≡ a = omega arith in
    let same : k ≡ n = omega arith in rw (start, same) refl
range_joined a b (suc m) n k from all =
    let one : k ≡ suc (m + n) = omega arith in
    ap (λ (c : ℕ). range_with_len a c) one
    ∙ ap (λ (l : List ℕ). a ∷ l) (range_joined (a + 1) b m n (m + n) (omega arith) refl)

-- the first so many blocks of a range, and those behind them
pub range_cut : (r first count next : ℕ) → next ≤ count
    → block_range r first count ≡ block_range r first next
    ++ block_range r (first + next) (count - next)
range_cut r first count next few =
    let parts = range_joined first (first + next) next (count - next) count refl (omega arith) in
    ap (map (block_entry r)) parts
    ∙ map-append (block_entry r) (range_with_len first next)
    (range_with_len (first + next) (count - next))

shifted : {X : Type 0} (f g : ℕ → X) (a b n : ℕ) → ((i : ℕ) → f (suc (b + i)) ≡ g (b + i))
    → a ≡ suc b → map f (range_with_len a n) ≡ map g (range_with_len b n)
shifted f g a b zero same from = refl
shifted {X} f g a b (suc n) same from =
    let here : b + 0 ≡ b = omega arith in
    let first : f a ≡ g b =
    ap f from ∙ ap (λ (i : ℕ). f (suc i)) (sym here) ∙ same 0 ∙ ap g here in
    let next : (i : ℕ) → f (suc (b + 1 + i)) ≡ g (b + 1 + i) = λ i.
    (let more : b + suc i ≡ b + 1 + i = omega arith in
    ap (λ (k : ℕ). f (suc k)) (sym more) ∙ same (suc i) ∙ ap g more) in
    ap (λ (x : X). x ∷ map f (range_with_len (a + 1) n)) first
    ∙ ap (λ (l : List X). g b ∷ l) (shifted f g (a + 1) (b + 1) n next (omega arith))

abbrev range_parts_of : ℕ → ℕ → ℕ → ℕ → List Part
range_parts_of r first count n =
    map (λ i. block_range r (first + 64 * i) (min 64 (count - 64 * i))) (range_with_len 0 n)

pub no_parts : (r first count : ℕ) → count ≡ 0 → range_parts r first count ≡ []
no_parts r first count none =
    let few : (count + 63) / 64 ≡ 0 = omega arith in ap (range_parts_of r first count) few

-- the first part of some blocks, and the parts of the others
module _ (r first count next : ℕ) (is : next ≡ min 64 count) where
  abbrev part_of : ℕ → Part
  part_of i = block_range r (first + 64 * i) (min 64 (count - 64 * i))

  abbrev part_behind : ℕ → Part
  part_behind i = block_range r (first + next + 64 * i) (min 64 (count - next - 64 * i))

  same_part : 64 ≤ count → (i : ℕ) → part_of (suc (0 + i)) ≡ part_behind (0 + i)
  same_part many i =
      let at : first + 64 * suc (0 + i) ≡ first + next + 64 * (0 + i) = omega (arith, is) in
      let size : min 64 (count - 64 * suc (0 + i)) ≡ min 64 (count - next - 64 * (0 + i)) =
      omega (arith, is) in
      ap (λ (b : ℕ). block_range r b (min 64 (count - 64 * suc (0 + i)))) at
      ∙ ap (block_range r (first + next + 64 * (0 + i))) size

  other_parts : (n : ℕ) → n ≡ (count - next + 63) / 64
      → map part_of (range_with_len (0 + 1) n) ≡ map part_behind (range_with_len 0 n)
  other_parts n n_is = elim (cases_lt count 64) [
    | inl few ↦ let none : n ≡ 0 = omega (arith, is, n_is) in
        ap (λ (k : ℕ). map part_of (range_with_len (0 + 1) k)) none
        ∙ sym (ap (λ (k : ℕ). map part_behind (range_with_len 0 k)) none)
    | inr many ↦ shifted part_of part_behind (0 + 1) 0 n (same_part many) (omega arith)
  ]

  pub next_part : 0 < count
      → range_parts r first count
      ≡ block_range r first next ∷ range_parts r (first + next) (count - next)
  next_part some =
      let n = (count - next + 63) / 64 in
      let more : (count + 63) / 64 ≡ suc n = omega (arith, is) in
      let at : first + 64 * 0 ≡ first = omega arith in
      let size : min 64 (count - 64 * 0) ≡ next = omega (arith, is) in
      let head : part_of 0 ≡ block_range r first next =
      ap (λ (b : ℕ). block_range r b (min 64 (count - 64 * 0))) at
      ∙ ap (block_range r first) size in
      ap (range_parts_of r first count) more
      ∙ ap (λ (p : Part). p ∷ map part_of (range_with_len (0 + 1) n)) head
      ∙ ap (λ (l : List Part). block_range r first next ∷ l) (other_parts n refl)

-- the blocks of a range are those of its parts
range_blocks_none : (r first count : ℕ) → count ≡ 0
    → blocks_of_parts (range_parts r first count) ≡ block_range r first count
range_blocks_none r first count none =
    ap blocks_of_parts (no_parts r first count none)
    ∙ sym (ap (λ (n : ℕ). block_range r first n) none)

range_blocks_by : (n r first count : ℕ) → count ≤ 64 * n
    → blocks_of_parts (range_parts r first count) ≡ block_range r first count
range_blocks_by zero r first count few = range_blocks_none r first count (omega arith)
range_blocks_by (suc n) r first count few = elim (cases_lt 0 count) [
  | inl some ↦ let next = min 64 count in
      ap blocks_of_parts (next_part r first count next refl some)
      ∙ ap (λ (l : List Request). block_range r first next ++ l)
      (range_blocks_by n r (first + next) (count - next) (omega arith))
      ∙ sym (range_cut r first count next (omega arith))
  | inr none ↦ range_blocks_none r first count (omega arith)
]

pub range_blocks : (r first count : ℕ)
    → blocks_of_parts (range_parts r first count) ≡ block_range r first count
range_blocks r first count = range_blocks_by count r first count (omega arith)

-- the blocks of the parts of FILE words are theirs
blocks_of_names : (lengths : ℕ → ℕ) (command : Command) (names : List (List ℕ))
    → blocks_of_parts (flat_map (one_file_parts lengths command) names)
    ≡ flat_map (one_file_requests lengths command) names
blocks_of_names lengths command [] = refl
blocks_of_names lengths command (name ∷ names) =
    let r = relation_number name (command_relations command) in
    let parts = one_file_parts lengths command name in
    blocks-append parts (flat_map (one_file_parts lengths command) names)
    ∙ ap (λ (l : List Request). l
    ++ blocks_of_parts (flat_map (one_file_parts lengths command) names))
    (range_blocks r (first_block command) (asked_count command (lengths r)))
    ∙ ap (λ (l : List Request). one_file_requests lengths command name ++ l)
    (blocks_of_names lengths command names)

pub file_blocks : (lengths : ℕ → ℕ) (command : Command)
    → blocks_of_parts (all_file_parts lengths command) ≡ all_file_requests lengths command
unfolding all_file_parts all_file_requests
file_blocks lengths command = blocks_of_names lengths command command.files

-- blocks are left out part by part
pub unmarked_blocks_of_parts : (pages : List (List ℕ)) (skip : Skip) (parts : List Part)
    → blocks_of_parts (map (unmarked_entries pages skip) parts)
    ≡ unmarked_entries pages skip (blocks_of_parts parts)
unmarked_blocks_of_parts pages skip [] = refl
unmarked_blocks_of_parts pages skip (part ∷ parts) =
    ap (λ (l : List Request). unmarked_entries pages skip part ++ l)
    (unmarked_blocks_of_parts pages skip parts)
    ∙ sym (filter-append (λ (e : Request). not (is_marked pages skip e.block)) part
    (blocks_of_parts parts))

blocks_with_map : (by : Option MapOption) (lengths : ℕ → ℕ) (map_page : ℕ → List ℕ)
    (requests : List Request) (parts : List Part) → blocks_of_parts parts ≡ requests
    → blocks_of_parts (with_map_part by lengths map_page requests parts)
    ≡ with_map by lengths map_page requests
blocks_with_map None lengths map_page requests parts same = same
blocks_with_map (Some by) lengths map_page requests parts same =
    let k = needed_pages (lengths 1) (greatest_of (map (λ (e : Request). e.block) requests)) in
    let pages = map map_page (range_with_len 0 k) in
    ap (λ (l : List Request). block_range 1 0 k ++ l)
    (unmarked_blocks_of_parts pages by.skip parts ∙ ap (unmarked_entries pages by.skip) same)

-- the blocks of the parts of a request list are those of the list
pub request_blocks : (lengths : ℕ → ℕ) (map_page : ℕ → List ℕ) (command : Command)
    → blocks_of_parts (request_parts lengths map_page command)
    ≡ request_list lengths map_page command
request_blocks lengths map_page command =
    blocks_with_map command.map lengths map_page (all_file_requests lengths command)
    (all_file_parts lengths command) (file_blocks lengths command)
