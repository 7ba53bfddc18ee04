-- Items that stand one below the other.
use Rattle.std.proofs.Common.{◌/◌, ◌%◌, ◌≡◌, ℕ, zero, suc, ◌+◌, ◌-◌, ◌<◌, ◌≤◌, List, [], ◌∷◌, ◌++◌, Bool, true}
use Rattle.std.proofs.Common.{false, refl, sym, ◌∙◌, ap, subst, cond, arith}
use Rattle.std.specs.Prelude.{Option, Some, None, IfSome, is_some, ◌&&◌, ◌||◌, ◌==◌, not, nat_lt}
use Rattle.std.specs.List.{list_all}
use Rattle.std.specs.Option.{option_or}
use Rattle.std.proofs.lemmas.Bool.{lt-leb}
use Rattle.std.proofs.lemmas.Bool.Decides.{nat_tests}
use Rattle.std.proofs.lemmas.List.{append-nil}
use Rattle.std.proofs.lemmas.List.Folds.{list_all-append}
use Rattle.page_check.specs.declared.fields.Kind.{Kind}
use Rattle.page_check.specs.declared.fields.Kind.TheVariants.{Unused, Normal, Redirect, Dead}
use Rattle.page_check.specs.declared.fields.LinePointer.{LinePointer}
use Rattle.page_check.specs.declared.fields.PageHeader.{PageHeader}
use Rattle.page_check.specs.Fields.{header_of}
use Rattle.page_check.specs.LinePointers.{line_pointer_of, line_pointer_count}
use Rattle.heap_tuple.specs.declared.header.TupleHeader.{TupleHeader}
use Rattle.heap_tuple.specs.Tuples.{is_normal}
use Rattle.page_faults.specs.declared.options.CheckOptions.{CheckOptions}
use Rattle.page_faults.specs.declared.fault.Fault as fault
use Rattle.page_faults.specs.declared.fault.Fault.{Fault}
use Rattle.page_faults.specs.declared.places.Place.TheVariants.{Own}
use Rattle.page_faults.specs.HeaderFaults.{fault_if, is_verified}
use Rattle.page_faults.specs.Places.{owner_of, first_owner, place_by, number_of, place_of, is_own}
use Rattle.page_faults.specs.Places.{placed_items, is_outside, first_piece, end_piece}
use Rattle.page_faults.specs.TupleFaults.{tuple_faults, is_wrong_hoff, is_committed_multi, is_frozen}
use Rattle.page_faults.specs.TupleFaults.{is_multi, has_not_begun, expected_hoff}
use Rattle.page_faults.specs.ItemFaults.{item_faults, header_of_item}
use Rattle.page_faults.specs.Misplaced.{names_itself, witnesses_of, misplaced_by, misplaced_faults}
use Rattle.page_faults.specs.Misplaced.{is_of_block}
use Rattle.page_faults.specs.GoodItems.{IsGoodTuple, AreGood, names_block, is_wrong_other}
use Rattle.page_faults.specs.GoodItems.{is_wrong_other_of}
use Rattle.page_faults.proofs.PieceOwners.{placed_items-other, placed_items-placed, owner_of-append}
use Rattle.page_faults.proofs.PieceOwners.{has_piece-by, place_of-inside}
use Rattle.page_faults.proofs.NamedBlocks.{witnesses_of-append}
use Rattle.page_faults.proofs.ItemLists.{own_faults, items_faults-more, items_faults-none}
use Rattle.page_faults.proofs.ItemLists.{unused_faults, redirect_faults, dead_faults}

-- a tuple that no rule finds at fault has none
pub tuple_faults-none : (options : CheckOptions) (item length : ℕ) (header : TupleHeader)
    → is_wrong_hoff length header ≡ false → is_committed_multi header ≡ false
    → (not (is_frozen header) && has_not_begun options.next_xid header.xmin) ≡ false
    → (not (is_multi header) && has_not_begun options.next_xid header.xmax) ≡ false
    → tuple_faults options item length header ≡ []
unfolding tuple_faults
tuple_faults-none options item length header hoff mask xmin xmax =
    let one = fault.TheVariants.Hoff item header.hoff (expected_hoff header) in
    let two = fault.TheVariants.Mask item header.mask in
    let three = fault.TheVariants.Xmin item header.xmin in
    let four = fault.TheVariants.Xmax item header.xmax in
    let multi = is_committed_multi header in
    let made = not (is_frozen header) && has_not_begun options.next_xid header.xmin in
    let gone = not (is_multi header) && has_not_begun options.next_xid header.xmax in
    ap (λ (t : Bool). fault_if t one ++ fault_if multi two ++ fault_if made three
    ++ fault_if gone four) hoff
    ∙ ap (λ (t : Bool). fault_if t two ++ fault_if made three ++ fault_if gone four) mask
    ∙ ap (λ (t : Bool). fault_if t three ++ fault_if gone four) xmin
    ∙ ap (λ (t : Bool). fault_if t four) xmax

-- where the next transaction is not known, any may have begun
pub xid_unknown : (asked : Bool) (next : Option ℕ) (xid : ℕ) → is_some next ≡ false
    → (asked && has_not_begun next xid) ≡ false
xid_unknown true None xid is = refl
xid_unknown false next xid is = refl
xid_unknown true (Some n) xid is = absurd (cc)

-- where each of some pieces is free, no item has the first
all_free : (page items : List ℕ) (more from : ℕ)
    → ((piece : ℕ) → piece < from + more → owner_of page items piece ≡ None)
    → first_owner page items from more ≡ None
all_free page items zero from free = refl
all_free page items (suc more) from free =
    ap (λ (o : Option ℕ). option_or o (first_owner page items (from + 1) more))
    (free from (omega arith))
    ∙ all_free page items more (from + 1) (λ piece below. free piece (omega arith))

place_of-free : (page items : List ℕ) (index begin : ℕ)
    → is_outside (header_of page) (line_pointer_of page index) ≡ false
    → end_piece (line_pointer_of page index) ≤ begin
    → ((piece : ℕ) → piece < begin → owner_of page items piece ≡ None)
    → Own ≡ place_of page items index
place_of-free page items index begin inside end free =
    let pointer = line_pointer_of page index in
    let from = first_piece pointer in
    let to = end_piece pointer in
    let order : from ≤ to = omega arith in
    let none = all_free page items (to - from) from (λ piece below. free piece (omega arith)) in
    sym (place_of-inside page items index inside
    ∙ ap (λ (o : Option ℕ). place_by (number_of o)) none)

free_below : (page items : List ℕ) (index piece : ℕ)
    → piece < first_piece (line_pointer_of page index) → owner_of page items piece ≡ None
    → owner_of page (items ++ index ∷ []) piece ≡ None
free_below page items index piece below free =
    let first = first_piece (line_pointer_of page index) in
    let other = has_piece-by page piece index false
    (nat_lt piece (end_piece (line_pointer_of page index))) (lt-leb first piece below) refl in
    owner_of-append page items index piece
    ∙ ap (λ (b : Bool). option_or (owner_of page items piece) (cond b (Some index) None)) other
    ∙ ap (λ (o : Option ℕ). option_or o None) free

and_true : (b : Bool) → (b && true) ≡ b
and_true true = refl
and_true false = refl

here_by : (block : ℕ) (page list : List ℕ) (index : ℕ) (one : Bool)
    → list_all (names_block block page) list ≡ true
    → (names_block block page index || not one) ≡ true
    → list_all (names_block block page) (list ++ cond one (index ∷ []) []) ≡ true
here_by block page list index false are is =
    ap (list_all (names_block block page)) (append-nil list) ∙ are
here_by block page list index true are is =
    let test = names_block block page in
    list_all-append test list (index ∷ [])
    ∙ ap (λ (b : Bool). b && (test index && true)) are
    ∙ and_true (test index)
    ∙ or_false (test index) is
  where
    or_false : (b : Bool) → (b || false) ≡ true → b ≡ true
    or_false true is = refl
    or_false false is = is

pub normal_kind : (kind : Kind) → is_normal kind ≡ true → Normal ≡ kind
normal_kind Normal is = refl
normal_kind Unused is = absurd (cc)
normal_kind Redirect is = absurd (cc)
normal_kind Dead is = absurd (cc)

inside_aligned : (header : PageHeader) (pointer : LinePointer) → is_outside header pointer ≡ false
    → pointer.offset % 8 ≡ 0
unfolding is_outside
inside_aligned header pointer inside = grind (arith, nat_tests)

-- with a normal item below those before it
pub good-more : (options : CheckOptions) (block : ℕ) (page : List ℕ) (index begin : ℕ)
    (pointer : LinePointer) (header : TupleHeader)
    → pointer ≡ line_pointer_of page index → Normal ≡ (line_pointer_of page index).kind
    → is_outside (header_of page) pointer ≡ false → pointer.offset + pointer.length ≤ begin
    → IsGoodTuple options block pointer.length header → header ≡ header_of_item page index
    → AreGood options block page index begin
    → AreGood options block page (index + 1) pointer.offset
good-more options block page index begin pointer header is normal inside end good so are =
    let items = placed_items page index in
    let within = sym (ap (is_outside (header_of page)) is) ∙ inside in
    let aligned = are.aligned in
    let here : end_piece pointer ≤ begin / 8 = omega (arith, aligned) in
    let last : end_piece (line_pointer_of page index) ≤ begin / 8 =
    (let P : LinePointer → Type 0 = λ p. end_piece p ≤ begin / 8 in subst P is here) in
    let place = place_of-free page items index (begin / 8) within last are.free in
    let size = ap (λ (p : LinePointer). p.length) is in
    let more = placed_items-placed page index (ap is_normal (sym normal)) (ap is_own (sym place)) in
    let first = ap first_piece is in
    record {
      none = sym (items_faults-more options page index)
          ∙ ap (λ (list : List Fault). list ++ item_faults options page index) are.none
          ∙ sym (own_faults options page index pointer.length header normal place size so)
          ∙ good.none (index + 1);
      aligned = inside_aligned (header_of page) pointer inside;
      within = omega (arith, end, are.within);
      free = λ piece below.
          let lower : piece < first_piece (line_pointer_of page index) = omega (arith, first) in
          let high : piece < begin / 8 = omega (arith, last) in
          ap (λ (list : List ℕ). owner_of page list piece) more
          ∙ free_below page items index piece lower (are.free piece high);
      here = ap (λ (list : List ℕ). list_all (names_block block page) (witnesses_of page list)) more
          ∙ ap (list_all (names_block block page))
          (witnesses_of-append page items index (names_itself (header_of_item page index)) refl)
          ∙ here_by block page (witnesses_of page items) index
          (names_itself (header_of_item page index)) are.here
          (ap (λ (h : TupleHeader). h.block == block || not (names_itself h)) (sym so) ∙ good.here);
    }

-- with an item that is not normal and has no fault
good-other : (options : CheckOptions) (block : ℕ) (page : List ℕ) (index begin : ℕ)
    → is_normal (line_pointer_of page index).kind ≡ false
    → [] ≡ item_faults options page index
    → AreGood options block page index begin → AreGood options block page (index + 1) begin
good-other options block page index begin other none are =
    let same = placed_items-other page index other in
    record {
      none = sym (items_faults-more options page index)
          ∙ ap (λ (list : List Fault). list ++ item_faults options page index) are.none ∙ sym none;
      free = λ piece below.
          ap (λ (list : List ℕ). owner_of page list piece) same ∙ are.free piece below;
      aligned = are.aligned;
      within = are.within;
      here = ap (λ (list : List ℕ). list_all (names_block block page) (witnesses_of page list)) same
          ∙ are.here;
    }

-- one of another kind has no fault where nothing is wrong with it
other_none : (options : CheckOptions) (page : List ℕ) (index : ℕ) (pointer : LinePointer)
    (kind : Kind)
    → kind ≡ (line_pointer_of page index).kind → pointer ≡ line_pointer_of page index
    → is_normal kind ≡ false → is_wrong_other_of kind page pointer ≡ false
    → [] ≡ item_faults options page index
other_none options page index pointer Unused so is other right =
    unused_faults options page index pointer false is so (sym right)
other_none options page index pointer Redirect so is other right =
    redirect_faults options page index pointer false is so (sym right)
other_none options page index pointer Normal so is other right = absurd (cc)
other_none options page index pointer Dead so is other right = dead_faults options page index so

pub good-unless : (options : CheckOptions) (block : ℕ) (page : List ℕ) (index begin : ℕ)
    (wrong : Bool) (pointer : LinePointer) (result : Option ℕ)
    → result ≡ cond wrong None (Some begin)
    → pointer ≡ line_pointer_of page index → is_normal pointer.kind ≡ false
    → wrong ≡ is_wrong_other page pointer
    → AreGood options block page index begin
    → IfSome result (λ next. AreGood options block page (index + 1) next)
good-unless options block page index begin true pointer result is so other right are =
    subst (λ (o : Option ℕ). IfSome o (λ next. AreGood options block page (index + 1) next)) (sym is)
    tt
good-unless options block page index begin false pointer result is so other right are =
    let kind = ap (λ (p : LinePointer). p.kind) so in
    subst (λ (o : Option ℕ). IfSome o (λ next. AreGood options block page (index + 1) next)) (sym is)
    (good-other options block page index begin (sym (ap is_normal kind) ∙ other)
    (other_none options page index pointer pointer.kind kind so other (sym right)) are)

-- before the first item
pub good-none : (options : CheckOptions) (block : ℕ) (page : List ℕ)
    → AreGood options block page 0 8192
unfolding owner_of witnesses_of
good-none options block page = record {
  none = items_faults-none options page;
  aligned = refl;
  within = omega arith;
  free = λ piece below. refl;
  here = refl;
}

here_named : (verified : Bool) (block : ℕ) (page list : List ℕ)
    → list_all (names_block block page) list ≡ true → misplaced_by verified block page list ≡ []
here_named verified block page [] are = refl
here_named verified block page (x ∷ xs) are =
    let named = (header_of_item page x).block in
    let same = and_left (named == block) (list_all (names_block block page) xs) are in
    ap (λ (b : Bool). fault_if (not b && list_all (is_of_block page named) (x ∷ xs)
    && not verified) (fault.TheVariants.Misplaced named)) same
  where
    and_left : (a b : Bool) → (a && b) ≡ true → a ≡ true
    and_left true b is = refl
    and_left false b is = is

pub misplaced-good : (options : CheckOptions) (block : ℕ) (page : List ℕ) (begin : ℕ)
    → AreGood options block page (line_pointer_count page) begin
    → misplaced_faults options block page ≡ []
unfolding misplaced_faults
misplaced-good options block page begin are =
    here_named (is_verified options block page) block page
    (witnesses_of page (placed_items page (line_pointer_count page))) are.here
