-- How many faults a page has.
use Rattle.std.proofs.Common.{◌≡◌, ℕ, ◌*◌, ◌+◌, ◌≤◌, ◌++◌, ◌==◌, ◌&&◌, not, List, [], ◌∷◌}
use Rattle.std.proofs.Common.{Bool, true, false, length, length-append, refl, arith}
use Rattle.std.specs.Prelude.{if◌then◌else◌}
use Rattle.std.specs.List.{flat_map, list_all, range_with_len}
use Rattle.std.proofs.lemmas.List.FromFn.{length-range_with_len}
use Rattle.page_check.specs.declared.fields.Kind.{Kind}
use Rattle.page_check.specs.declared.fields.Kind.TheVariants.{Unused, Normal, Redirect, Dead}
use Rattle.page_check.specs.declared.verdict.Verdict.{Verdict}
use Rattle.page_check.specs.declared.verdict.Verdict.TheVariants.{Zero, Sane, Bad}
use Rattle.page_check.specs.Checksum.{checksum_of, has_checksum}
use Rattle.page_check.specs.Fields.{header_of}
use Rattle.page_check.specs.Verdict.{verdict_of}
use Rattle.page_check.specs.LinePointers.{line_pointer_count, line_pointer_of}
use Rattle.heap_scan.proofs.SumsOverPages.{few_items}
use Rattle.heap_tuple.specs.declared.header.TupleHeader.{TupleHeader}
use Rattle.page_faults.specs.declared.options.CheckOptions.{CheckOptions}
use Rattle.page_faults.specs.declared.places.Place.{Place}
use Rattle.page_faults.specs.declared.places.Place.TheVariants.{Own, Taken, Outside}
use Rattle.page_faults.specs.declared.fault.Fault as fault
use Rattle.page_faults.specs.declared.fault.Fault.{Fault}
use Rattle.page_faults.specs.Faults.{faults_by, faults_of, heap_faults}
use Rattle.page_faults.specs.HeaderFaults.{checksum_faults, fault_if, is_behind, is_verified}
use Rattle.page_faults.specs.HeaderFaults.{is_wrong_lower}
use Rattle.page_faults.specs.HeaderFaults.{lower_faults, lsn_faults, lsn_of, version_faults}
use Rattle.page_faults.specs.ItemFaults.{header_of_item, is_wrong_redirect, is_wrong_unused}
use Rattle.page_faults.specs.ItemFaults.{item_fault, item_faults, items_faults, kind_faults}
use Rattle.page_faults.specs.ItemFaults.{place_faults}
use Rattle.page_faults.specs.Misplaced.{is_of_block, misplaced_by, misplaced_faults, witnesses_of}
use Rattle.page_faults.specs.Places.{place_of, placed_items}
use Rattle.page_faults.specs.TupleFaults.{expected_hoff, has_not_begun, is_committed_multi}
use Rattle.page_faults.specs.TupleFaults.{is_frozen, is_multi, is_wrong_hoff, tuple_faults}

one_at_most : (wrong : Bool) (fault : Fault) → length (fault_if wrong fault) ≤ 1
one_at_most true fault = omega arith
one_at_most false fault = omega arith

joined_at_most : (m n : ℕ) (xs ys : List Fault) → length xs ≤ m → length ys ≤ n
    → length (xs ++ ys) ≤ m + n
joined_at_most m n xs ys some more = omega (arith, length-append xs ys)

tuple_count : (options : CheckOptions) (number size : ℕ) (header : TupleHeader)
    → length (tuple_faults options number size header) ≤ 4
unfolding tuple_faults
tuple_count options number size header =
    let is_hoff = is_wrong_hoff size header in
    let hoff = fault.TheVariants.Hoff number header.hoff (expected_hoff header) in
    let is_mask = is_committed_multi header in
    let mask = fault.TheVariants.Mask number header.mask in
    let is_xmin = not (is_frozen header) && has_not_begun options.next_xid header.xmin in
    let xmin = fault.TheVariants.Xmin number header.xmin in
    let is_xmax = not (is_multi header) && has_not_begun options.next_xid header.xmax in
    let xmax = fault.TheVariants.Xmax number header.xmax in
    let two = fault_if is_hoff hoff ++ fault_if is_mask mask in
    joined_at_most 3 1 (two ++ fault_if is_xmin xmin) (fault_if is_xmax xmax)
    (joined_at_most 2 1 two (fault_if is_xmin xmin)
    (joined_at_most 1 1 (fault_if is_hoff hoff) (fault_if is_mask mask) (one_at_most is_hoff hoff)
    (one_at_most is_mask mask)) (one_at_most is_xmin xmin)) (one_at_most is_xmax xmax)

place_count : (options : CheckOptions) (page : List ℕ) (index : ℕ) (place : Place)
    → length (place_faults options page index place) ≤ 4
place_count options page index Outside = omega arith
place_count options page index (Taken number) = omega arith
place_count options page index Own =
    tuple_count options (index + 1) (line_pointer_of page index).length (header_of_item page index)

kind_count : (options : CheckOptions) (page : List ℕ) (index : ℕ) (kind : Kind)
    → length (kind_faults options page index kind) ≤ 4
kind_count options page index Unused =
    omega (arith, one_at_most (is_wrong_unused (line_pointer_of page index)) (item_fault page index))
kind_count options page index Redirect =
    omega (
      arith,
      one_at_most (is_wrong_redirect page (line_pointer_of page index)) (item_fault page index),
    )
kind_count options page index Dead = omega arith
kind_count options page index Normal =
    place_count options page index (place_of page (placed_items page index) index)

item_count : (options : CheckOptions) (page : List ℕ) (index : ℕ)
    → length (item_faults options page index) ≤ 4
unfolding item_faults
item_count options page index = kind_count options page index (line_pointer_of page index).kind

each_item : (options : CheckOptions) (page : List ℕ) (items : List ℕ)
    → length (flat_map (item_faults options page) items) ≤ 4 * length items
each_item options page [] = omega arith
each_item options page (item ∷ items) =
    let first = item_faults options page item in
    let others = flat_map (item_faults options page) items in
    omega (
      arith,
      length-append first others,
      item_count options page item,
      each_item options page items,
    )

items_count : (options : CheckOptions) (page : List ℕ) (index : ℕ)
    → length (items_faults options page index) ≤ 4 * index
unfolding items_faults
items_count options page index =
    omega (arith, each_item options page (range_with_len 0 index), length-range_with_len 0 index)

misplaced_count : (verified : Bool) (block : ℕ) (page items : List ℕ)
    → length (misplaced_by verified block page items) ≤ 1
misplaced_count verified block page [] = omega arith
misplaced_count verified block page (first ∷ others) =
    let named = (header_of_item page first).block in
    one_at_most (not (named == block) && list_all (is_of_block page named) (first ∷ others)
    && not verified) (fault.TheVariants.Misplaced named)

lower_count : (page : List ℕ) → length (lower_faults page) ≤ 1
unfolding lower_faults
lower_count page =
    let lower = (header_of page).lower in
    one_at_most (is_wrong_lower lower) (fault.TheVariants.Lower lower)

misplaced_count_of : (options : CheckOptions) (block : ℕ) (page : List ℕ)
    → length (misplaced_faults options block page) ≤ 1
unfolding misplaced_faults
misplaced_count_of options block page =
    misplaced_count (is_verified options block page) block page
    (witnesses_of page (placed_items page (line_pointer_count page)))

heap_if : (heap : Bool) (faults : List Fault) (most : ℕ) → length faults ≤ most
    → length (if heap then faults else []) ≤ most
heap_if true faults most few = few
heap_if false faults most few = omega arith

heap_count : (options : CheckOptions) (block : ℕ) (page : List ℕ)
    → length (heap_faults options block page) ≤ 4 * line_pointer_count page + 2
unfolding heap_faults
heap_count options block page =
    let items = items_faults options page (line_pointer_count page) in
    let misplaced = misplaced_faults options block page in
    heap_if ((header_of page).special == 8192) (lower_faults page ++ items ++ misplaced)
    (4 * line_pointer_count page + 2)
    (omega (
      arith,
      length-append (lower_faults page ++ items) misplaced,
      length-append (lower_faults page) items,
      lower_count page,
      items_count options page (line_pointer_count page),
      misplaced_count_of options block page,
    ))

checksum_count : (options : CheckOptions) (block : ℕ) (page : List ℕ)
    → length (checksum_faults options block page) ≤ 1
unfolding checksum_faults
checksum_count options block page =
    one_at_most (options.checksums && not (has_checksum block page))
    (fault.TheVariants.Checksum (header_of page).checksum (checksum_of page block))

lsn_count : (options : CheckOptions) (page : List ℕ) → length (lsn_faults options page) ≤ 1
unfolding lsn_faults
lsn_count options page =
    one_at_most (is_behind options.end_lsn (lsn_of page)) (fault.TheVariants.Lsn (lsn_of page))

version_count : (page : List ℕ) → length (version_faults page) ≤ 1
unfolding version_faults
version_count page =
    let version = (header_of page).pagesize_version in
    one_at_most (not (version == 8196)) (fault.TheVariants.Version version)

count_by : (verdict : Verdict) (options : CheckOptions) (block : ℕ) (page : List ℕ)
    → verdict_of page ≡ verdict → length (faults_by verdict options block page) ≤ 8200
count_by Zero options block page is = omega arith
count_by Bad options block page is = omega (arith, checksum_count options block page)
count_by Sane options block page is =
    let first = checksum_faults options block page in
    let second = first ++ lsn_faults options page in
    let third = second ++ version_faults page in
    omega (
      arith,
      length-append third (heap_faults options block page),
      length-append second (version_faults page),
      length-append first (lsn_faults options page),
      checksum_count options block page,
      lsn_count options page,
      version_count page,
      heap_count options block page,
      few_items page (λ bad. absurd (cc)),
    )

-- at most 4 of each item of a page with a sane header, which has at most 2042
pub few_faults : (options : CheckOptions) (block : ℕ) (page : List ℕ)
    → length (faults_of options block page) ≤ 8200
unfolding faults_of
few_faults options block page = count_by (verdict_of page) options block page refl
