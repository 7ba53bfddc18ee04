-- The faults of items, one item after the other.
use Rattle.std.proofs.Common.{◌≡◌, ℕ, zero, suc, ◌+◌, List, [], ◌∷◌, ◌++◌, Bool, refl, sym}
use Rattle.std.proofs.Common.{◌∙◌, ap, arith, add-one, length, take, drop, append_assoc}
use Rattle.std.proofs.Math.Seq.{take-append_seam}
use Rattle.std.specs.List.{flat_map, range_with_len}
use Rattle.std.proofs.lemmas.List.{append-nil, take-append-drop}
use Rattle.std.proofs.lemmas.List.Concat.{flat_map-append}
use Rattle.page_check.specs.declared.fields.Kind.{Kind}
use Rattle.page_check.specs.declared.fields.Kind.TheVariants.{Unused, Normal, Redirect, Dead}
use Rattle.page_check.specs.declared.fields.LinePointer.{LinePointer}
use Rattle.page_check.specs.LinePointers.{line_pointer_of}
use Rattle.heap_tuple.specs.declared.header.TupleHeader.{TupleHeader}
use Rattle.page_faults.specs.declared.options.CheckOptions.{CheckOptions}
use Rattle.page_faults.specs.declared.places.Place.{Place}
use Rattle.page_faults.specs.declared.places.Place.TheVariants.{Own, Taken, Outside}
use Rattle.page_faults.specs.declared.fault.Fault as fault
use Rattle.page_faults.specs.declared.fault.Fault.{Fault}
use Rattle.page_faults.specs.HeaderFaults.{fault_if}
use Rattle.page_faults.specs.Places.{place_of, placed_items}
use Rattle.page_faults.specs.TupleFaults.{tuple_faults}
use Rattle.page_faults.specs.ItemFaults.{item_faults, kind_faults, place_faults, items_faults}
use Rattle.page_faults.specs.ItemFaults.{is_wrong_unused, is_wrong_redirect, header_of_item}

item_faults-kind : (options : CheckOptions) (page : List ℕ) (index : ℕ) (kind : Kind)
    → kind ≡ (line_pointer_of page index).kind
    → kind_faults options page index kind ≡ item_faults options page index
unfolding item_faults
item_faults-kind options page index kind is = ap (kind_faults options page index) is

item_faults-place : (options : CheckOptions) (page : List ℕ) (index : ℕ) (place : Place)
    → Normal ≡ (line_pointer_of page index).kind
    → place ≡ place_of page (placed_items page index) index
    → place_faults options page index place ≡ item_faults options page index
item_faults-place options page index place normal is =
    ap (place_faults options page index) is ∙ item_faults-kind options page index Normal normal

pub unused_faults : (options : CheckOptions) (page : List ℕ) (index : ℕ) (pointer : LinePointer)
    (wrong : Bool)
    → pointer ≡ line_pointer_of page index → Unused ≡ (line_pointer_of page index).kind
    → wrong ≡ is_wrong_unused pointer
    → fault_if wrong (fault.TheVariants.Item (index + 1) pointer) ≡ item_faults options page index
unused_faults options page index pointer wrong is kind so =
    ap (λ (b : Bool). fault_if b (fault.TheVariants.Item (index + 1) pointer)) so
    ∙ ap (λ (p : LinePointer). fault_if (is_wrong_unused p)
    (fault.TheVariants.Item (index + 1) p)) is
    ∙ item_faults-kind options page index Unused kind

pub redirect_faults : (options : CheckOptions) (page : List ℕ) (index : ℕ) (pointer : LinePointer)
    (wrong : Bool)
    → pointer ≡ line_pointer_of page index → Redirect ≡ (line_pointer_of page index).kind
    → wrong ≡ is_wrong_redirect page pointer
    → fault_if wrong (fault.TheVariants.Item (index + 1) pointer) ≡ item_faults options page index
redirect_faults options page index pointer wrong is kind so =
    ap (λ (b : Bool). fault_if b (fault.TheVariants.Item (index + 1) pointer)) so
    ∙ ap (λ (p : LinePointer). fault_if (is_wrong_redirect page p)
    (fault.TheVariants.Item (index + 1) p)) is
    ∙ item_faults-kind options page index Redirect kind

pub dead_faults : (options : CheckOptions) (page : List ℕ) (index : ℕ)
    → Dead ≡ (line_pointer_of page index).kind → [] ≡ item_faults options page index
dead_faults options page index kind = item_faults-kind options page index Dead kind

pub outside_faults : (options : CheckOptions) (page : List ℕ) (index : ℕ) (pointer : LinePointer)
    → pointer ≡ line_pointer_of page index → Normal ≡ (line_pointer_of page index).kind
    → Outside ≡ place_of page (placed_items page index) index
    → fault.TheVariants.Item (index + 1) pointer ∷ [] ≡ item_faults options page index
outside_faults options page index pointer is kind place =
    ap (λ (p : LinePointer). fault.TheVariants.Item (index + 1) p ∷ []) is
    ∙ item_faults-place options page index Outside kind place

pub taken_faults : (options : CheckOptions) (page : List ℕ) (index number : ℕ)
    → Normal ≡ (line_pointer_of page index).kind
    → Taken number ≡ place_of page (placed_items page index) index
    → fault.TheVariants.Overlap (index + 1) number ∷ [] ≡ item_faults options page index
taken_faults options page index number kind place =
    item_faults-place options page index (Taken number) kind place

pub own_faults : (options : CheckOptions) (page : List ℕ) (index length : ℕ) (header : TupleHeader)
    → Normal ≡ (line_pointer_of page index).kind
    → Own ≡ place_of page (placed_items page index) index
    → length ≡ (line_pointer_of page index).length
    → header ≡ header_of_item page index
    → tuple_faults options (index + 1) length header ≡ item_faults options page index
own_faults options page index length header kind place size is =
    ap (λ (n : ℕ). tuple_faults options (index + 1) n header) size
    ∙ ap (tuple_faults options (index + 1) (line_pointer_of page index).length) is
    ∙ item_faults-place options page index Own kind place

range-more : (n first : ℕ)
    → range_with_len first (suc n) ≡ range_with_len first n ++ (first + n) ∷ []
range-more zero first = (let same : first ≡ first + 0 = omega arith in ap (λ (k : ℕ). k ∷ []) same)
range-more (suc n) first =
    let same : first + 1 + n ≡ first + suc n = omega arith in
    ap (λ (list : List ℕ). first ∷ list) (range-more n (first + 1)
    ∙ ap (λ (k : ℕ). range_with_len (first + 1) n ++ k ∷ []) same)

-- with one item more
pub items_faults-more : (options : CheckOptions) (page : List ℕ) (index : ℕ)
    → items_faults options page index ++ item_faults options page index
    ≡ items_faults options page (index + 1)
unfolding items_faults
items_faults-more options page index =
    let faults = item_faults options page in
    let same : 0 + index ≡ index = omega arith in
    sym (ap (λ (n : ℕ). flat_map faults (range_with_len 0 n)) (add-one index)
    ∙ ap (flat_map faults) (range-more index 0)
    ∙ ap (λ (n : ℕ). flat_map faults (range_with_len 0 index ++ n ∷ [])) same
    ∙ flat_map-append faults (range_with_len 0 index) (index ∷ [])
    ∙ ap (λ (list : List Fault). flat_map faults (range_with_len 0 index) ++ list)
    (append-nil (faults index)))

pub items_faults-none : (options : CheckOptions) (page : List ℕ) → items_faults options page 0 ≡ []
unfolding items_faults
items_faults-none options page = refl

-- what stands behind a list that stands behind another stands behind that one
pub prefix_through : (a l b c : List Fault) → b ≡ a ++ l → take (length b) c ≡ b
    → take (length a) c ≡ a
prefix_through a l b c more prefix =
    let rest = drop (length b) c in
    let whole = sym (take-append-drop (length b) c)
    ∙ ap (λ (list : List Fault). list ++ rest) (prefix ∙ more)
    ∙ append_assoc a l rest in
    ap (take (length a)) whole ∙ take-append_seam a (l ++ rest)
