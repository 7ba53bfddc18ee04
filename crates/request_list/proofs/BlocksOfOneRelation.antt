-- Blocks of one relation, their pages, and the listing of these.
use Rattle.std.proofs.Common.{◌≡◌, ℕ, List, [], ◌∷◌, ◌++◌, map, take, drop, length, refl, sym}
use Rattle.std.proofs.Common.{ap, ◌∙◌, subst, arith, sum_by}
use Rattle.std.specs.Prelude.{Option, Some, None}
use Rattle.std.specs.List.{All, range_with_len}
use Rattle.std.proofs.Math.Seq.{take-append_seam}
use Rattle.std.proofs.lemmas.List.{get_or-map, length-map}
use Rattle.std.proofs.lemmas.List.Elements.{All-drop, All-map, All-same, All-tail}
use Rattle.std.proofs.lemmas.List.Elements.{All-take}
use Rattle.page_check.specs.SynchronousAnswer.{entry_given, readable_pages, read_count}
use Rattle.page_check.specs.SynchronousAnswer.{Reading, Known, Unknown}
use Rattle.page_check.specs.IsAnswer.{AreFirst}
use Rattle.heap_scan.specs.Job.{block_entry}
use Rattle.heap_scan.specs.Listing.{PageFormat, listing, text_for, fault_count_for}
use Rattle.heap_scan.specs.Sums.{sums_of}
use Rattle.std.proofs.lemmas.List.Sums.{sum_by-cons}
use Rattle.command_line.specs.Command.{MapOption}
use Rattle.request_list.specs.RequestList.{Page, Request, block_range, without_map_pages}

abbrev pub AreOf : ℕ → List Request → Type 0
AreOf r blocks = All (λ (e : Request). e.relation ≡ r) blocks

abbrev pub ArePagesOf : ℕ → List Page → Type 0
ArePagesOf r pages = All (λ (g : Page). g.entry.relation ≡ r) pages

pub range_of : (r first count : ℕ) → AreOf r (block_range r first count)
range_of r first count =
    All-map (λ (e : Request). e.relation ≡ r) (block_entry r) (range_with_len first count)
    (λ k d below. refl)

All-front : {X : Type 0} (P : X → Type 0) (xs ys all : List X) → all ≡ xs ++ ys → All P all
    → All P xs
All-front P xs ys all joined holds =
    All-same P xs (take (length xs) all)
    (sym (ap (take (length xs)) joined ∙ take-append_seam xs ys)) (All-take P (length xs) all holds)

-- the pages of entries of one relation
pub pages_are_of : (r : ℕ) (found : Reading) (entries : List Request) (pages : List Page)
    → AreOf r entries → AreFirst found entries pages → ArePagesOf r pages
pages_are_of r (Unknown rules) entries pages all first =
    (let P : Request → Type 0 = λ e. e.relation ≡ r in
    let entry : Page → Request = λ g. g.entry in
    let given = All-front P (map entry pages) first.1.0 entries first.1.1 all in
    λ k d below. subst P (get_or-map entry pages k d (entry d) below)
    (given k (entry d) (omega (arith, length-map pages entry))))
pages_are_of r (Known f) entries pages all first =
    let P : Page → Type 0 = λ g. g.entry.relation ≡ r in
    let n = read_count f entries in
    All-front P pages first.0 (readable_pages f entries) first.1
    (All-map P (entry_given f) (take n entries)
    (All-take (λ (e : Request). e.relation ≡ r) n entries all))

pub some_pages_of : (r k n : ℕ) (pages : List Page) → ArePagesOf r pages
    → ArePagesOf r (take n (drop k pages))
some_pages_of r k n pages all =
    let P : Page → Type 0 = λ g. g.entry.relation ≡ r in
    All-take P n (drop k pages) (All-drop P k pages all)

-- the pages of a map have no text
pub map_listing : (m : MapOption) (format : PageFormat) (pages : List Page) → ArePagesOf 1 pages
    → listing (without_map_pages (Some m) format) pages ≡ []
unfolding listing
map_listing m format [] all = refl
map_listing m format (g ∷ pages) all =
    let here = all 0 g (omega arith) in
    let rest = map_listing m format pages (All-tail (λ (x : Page). x.entry.relation ≡ 1) g pages all) in
    rw here rest

-- and those of the other relation have theirs
pub other_listing : (map : Option MapOption) (format : PageFormat) (pages : List Page)
    → ArePagesOf 0 pages → listing format pages ≡ listing (without_map_pages map format) pages
unfolding listing
other_listing None format pages all = refl
other_listing (Some m) format [] all = refl
other_listing (Some m) format (g ∷ pages) all =
    let here = all 0 g (omega arith) in
    let rest = other_listing (Some m) format pages (All-tail (λ (x : Page). x.entry.relation ≡ 0) g pages all) in
    ap (λ (l : List ℕ). text_for format g ++ l) rest ∙ rw here refl

-- as many faults are told of them, and their sums are the same
other_faults : (map : Option MapOption) (format : PageFormat) (pages : List Page)
    → ArePagesOf 0 pages
    → sum_by (fault_count_for format) pages
    ≡ sum_by (fault_count_for (without_map_pages map format)) pages
other_faults None format pages all = refl
other_faults (Some m) format [] all = refl
other_faults (Some m) format (g ∷ pages) all =
    let here = all 0 g (omega arith) in
    let rest = other_faults (Some m) format pages
    (All-tail (λ (x : Page). x.entry.relation ≡ 0) g pages all) in
    let same : fault_count_for format g ≡ fault_count_for (without_map_pages (Some m) format) g =
    rw here refl in
    omega (
      arith,
      same,
      rest,
      sum_by-cons (fault_count_for format) g pages,
      sum_by-cons (fault_count_for (without_map_pages (Some m) format)) g pages,
    )

pub other_sums : (map : Option MapOption) (format : PageFormat) (pages : List Page)
    → ArePagesOf 0 pages → sums_of format pages ≡ sums_of (without_map_pages map format) pages
unfolding sums_of
other_sums map format pages all =
    let sums = sums_of format pages in
    ap (λ (n : ℕ). record sums { faults = n }) (other_faults map format pages all)
