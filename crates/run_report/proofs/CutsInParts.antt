-- Outputs that stopped at a write that was cut, or behind what was listed.
use Rattle.std.proofs.Common.{◌≡◌, ◌≢◌, ℕ, zero, suc, ◌+◌, ◌≤◌, List, [], ◌∷◌, ◌++◌, length}
use Rattle.std.proofs.Common.{take, drop, get_or, refl, sym, ap, ◌∙◌, arith, length-append}
use Rattle.std.proofs.Common.{append_assoc, inl, inr, ⊎_elim}
use Rattle.std.specs.Prelude.{Option, Some, None}
use Rattle.std.proofs.Math.Seq.{take-append-add, drop-append-add}
use Rattle.std.proofs.lemmas.List.{drop-append-le, get_or-append-add, get_or_append_left, take_all}
use Rattle.std.proofs.lemmas.List.{take-append-le}
use Rattle.heap_scan.specs.Listing.{PageFormat, listing}
use Rattle.heap_scan.proofs.Jobs.{listing-append}
use Rattle.aio_disk.specs.Sink.{SinkGrew, SinkGrewByPrefix}
use Rattle.request_list.specs.RequestList.{Part, Page, Request, blocks_of_parts}
use Rattle.run_report.specs.Output.{IsCutInPart, StoppedBehind, pages_of_part}
use Rattle.run_report.specs.declared.report.Outcome.{Outcome}
use Rattle.request_list.proofs.PartsOfRequests.{blocks-append}
use Rattle.run_report.proofs.SinkTextsAppend.{SinkGrew-append, SinkGrew-same, take_within}

no_front : (xs ys : List ℕ) → xs ++ ys ≡ [] → xs ≡ []
no_front [] ys none = refl
no_front (x ∷ xs) ys none = absurd (cc)

-- the first of a list that is joined
take_joined : {X : Type 0} (k : ℕ) (xs ys : List X)
    → (more : List X) × (take k (xs ++ ys) ≡ take k xs ++ more)
take_joined zero xs ys = ([], refl)
take_joined (suc k) [] ys = (take (suc k) ys, refl)
take_joined {X} (suc k) (x ∷ xs) ys =
    let rest = take_joined k xs ys in (rest.0, ap (λ (l : List X). x ∷ l) rest.1)

-- a begin of a text was written
pub begun_text : (b a : Option (List ℕ)) (text : List ℕ) → SinkGrewByPrefix b a text
    → (k : ℕ) × SinkGrew b a (take k text)
begun_text None a text grew = (0, grew)
begun_text (Some b) a text grew = grew

module _ (format : PageFormat) where
  abbrev texts : List Page → List ℕ
  texts pages = listing format pages

  -- the write of the only part was cut
  pub cut_alone : (blocks : List Request) (pages : List Page) (b a : Option (List ℕ))
      (text : List ℕ) → length pages ≤ length blocks → text ≡ texts pages → text ≢ []
      → texts [] ≡ [] → SinkGrewByPrefix b a text
      → IsCutInPart format (blocks ∷ []) pages b a 0
  cut_alone blocks pages b a text few is some none grew =
      let begun = begun_text b a text grew in
      let all = take_all (length blocks) pages few in record {
        n = 0;
        inside = omega arith;
        whole_is = refl;
        some = rw (all, ← is) some;
        begun = begun.0;
        output_grew = rw (all, ← is, none) begun.1;
      }

  module _ (xs ys : List Part) (pages : List Page) (b a : Option (List ℕ)) (whole : ℕ)
      (cut : IsCutInPart format xs pages b a whole) where
    abbrev before : ℕ
    before = length (blocks_of_parts (take cut.n xs))

    same_begin : take cut.n (xs ++ ys) ≡ take cut.n xs
    same_begin = let inside = cut.inside in take-append-le cut.n xs ys (omega arith)

    same_part : get_or (xs ++ ys) cut.n [] ≡ get_or xs cut.n []
    same_part = get_or_append_left xs ys [] cut.n cut.inside

    same_pages : pages_of_part (xs ++ ys) cut.n pages ≡ pages_of_part xs cut.n pages
    same_pages =
        ap (λ (p : Part). take (length p)
        (drop (length (blocks_of_parts (take cut.n (xs ++ ys)))) pages)) same_part
        ∙ ap (λ (l : List Part). take (length (get_or xs cut.n []))
        (drop (length (blocks_of_parts l)) pages)) same_begin

    -- parts that follow change nothing
    pub cut_more : IsCutInPart format (xs ++ ys) pages b a whole
    cut_more =
        let inside = cut.inside in record {
          n = cut.n;
          inside = omega (arith, length-append xs ys);
          whole_is = cut.whole_is
              ∙ ap (λ (l : List Part). length (blocks_of_parts l)) (sym same_begin);
          some = rw same_pages cut.some;
          begun = cut.begun;
          output_grew = rw same_pages cut.output_grew;
        }

  -- parts that were written before
  module _ (xs ys : List Part) (ps qs : List Page) (b m a : Option (List ℕ)) (k : ℕ)
      (all : length ps ≡ length (blocks_of_parts xs)) (grew : SinkGrew b m (texts ps)) where
    taken : take (length ps + k) (ps ++ qs) ≡ ps ++ take k qs
    taken = take-append-add ps qs k

    texts_taken : texts (take (length ps + k) (ps ++ qs)) ≡ texts ps ++ texts (take k qs)
    texts_taken = ap texts taken ∙ listing-append format ps (take k qs)

    pub whole_behind : SinkGrew m a (texts (take k qs))
        → SinkGrew b a (texts (take (length ps + k) (ps ++ qs)))
    whole_behind more =
        SinkGrew-same b a _ _ (sym texts_taken)
        (SinkGrew-append b m a (texts ps) (texts (take k qs)) grew more)

    module _ (cut : IsCutInPart format ys qs m a k) where
      begin_joined : blocks_of_parts (take (length xs + cut.n) (xs ++ ys))
          ≡ blocks_of_parts xs ++ blocks_of_parts (take cut.n ys)
      begin_joined =
          ap blocks_of_parts (take-append-add xs ys cut.n)
          ∙ blocks-append xs (take cut.n ys)

      begin_length : length (blocks_of_parts (take (length xs + cut.n) (xs ++ ys)))
          ≡ length ps + length (blocks_of_parts (take cut.n ys))
      begin_length =
          omega (
            arith,
            all,
            ap length begin_joined,
            length-append (blocks_of_parts xs) (blocks_of_parts (take cut.n ys)),
          )

      pages_behind : pages_of_part (xs ++ ys) (length xs + cut.n) (ps ++ qs)
          ≡ pages_of_part ys cut.n qs
      pages_behind =
          ap (λ (p : Part). take (length p)
          (drop (length (blocks_of_parts (take (length xs + cut.n) (xs ++ ys)))) (ps ++ qs)))
          (get_or-append-add xs ys cut.n [])
          ∙ ap (λ (i : ℕ). take (length (get_or ys cut.n [])) (drop i (ps ++ qs))) begin_length
          ∙ ap (take (length (get_or ys cut.n [])))
          (drop-append-add ps qs (length (blocks_of_parts (take cut.n ys))))

      pub cut_behind : IsCutInPart format (xs ++ ys) (ps ++ qs) b a (length ps + k)
      cut_behind =
          let inside = cut.inside in
          let next = take cut.begun (texts (pages_of_part ys cut.n qs)) in record {
            n = length xs + cut.n;
            inside = omega (arith, length-append xs ys);
            whole_is = omega (arith, cut.whole_is, begin_length);
            some = rw pages_behind cut.some;
            begun = cut.begun;
            output_grew =
                rw (pages_behind, texts_taken, append_assoc (texts ps) (texts (take k qs)) next)
                (SinkGrew-append b m a (texts ps) (texts (take k qs) ++ next) grew
                cut.output_grew);
          }

  -- of more pages the first are the same
  module _ (parts : List Part) (ps rest : List Page) (b a : Option (List ℕ)) (whole : ℕ)
      (among : whole ≤ length ps) where
    texts_same : texts (take whole ps) ≡ texts (take whole (ps ++ rest))
    texts_same = ap texts (sym (take-append-le whole ps rest among))

    pub whole_of_more : SinkGrew b a (texts (take whole ps))
        → SinkGrew b a (texts (take whole (ps ++ rest)))
    whole_of_more grew = SinkGrew-same b a _ _ texts_same grew

    module _ (cut : IsCutInPart format parts ps b a whole) where
      abbrev start : ℕ
      start = length (blocks_of_parts (take cut.n parts))

      longer : (more : List Page)
          × (pages_of_part parts cut.n (ps ++ rest) ≡ pages_of_part parts cut.n ps ++ more)
      longer =
          let size = length (get_or parts cut.n []) in
          let joined = take_joined size (drop start ps) rest in (
            joined.0,
            ap (take size) (drop-append-le start ps rest (omega (arith, cut.whole_is)))
                ∙ joined.1,
          )

      pub cut_of_more : IsCutInPart format parts (ps ++ rest) b a whole
      cut_of_more =
          let short = texts (pages_of_part parts cut.n ps) in
          let more = texts longer.0 in
          let begun = take_within cut.begun short more in
          let joined : texts (pages_of_part parts cut.n (ps ++ rest)) ≡ short ++ more =
          ap texts longer.1 ∙ listing-append format (pages_of_part parts cut.n ps) longer.0 in
          record {
            n = cut.n;
            inside = cut.inside;
            whole_is = cut.whole_is;
            some = λ none. cut.some (no_front short more (sym joined ∙ none));
            begun = begun.0;
            output_grew = rw (joined, ← begun.1, ← texts_same) cut.output_grew;
          }

-- another text of the same pages, where it is the same of each part of them
pub cut_in_text : (format other : PageFormat) (parts : List Part) (pages : List Page)
    (b a : Option (List ℕ)) (whole : ℕ)
    → ((k n : ℕ) → listing format (take n (drop k pages)) ≡ listing other (take n (drop k pages)))
    → IsCutInPart format parts pages b a whole → IsCutInPart other parts pages b a whole
cut_in_text format other parts pages b a whole same cut =
    let n = cut.n in
    let part = same (length (blocks_of_parts (take n parts))) (length (get_or parts n [])) in
    record {
      n = n;
      inside = cut.inside;
      whole_is = cut.whole_is;
      some = rw (← part) cut.some;
      begun = cut.begun;
      output_grew = rw (← part, ← same 0 whole) cut.output_grew;
    }

-- each way to stop
module _ (format other : PageFormat) (xs ys : List Part) (ps qs : List Page)
    (b m a c : Option (List ℕ)) (o : Outcome) (k j : ℕ) where
  pub stopped_by : (IsCutInPart format xs ps b a k → IsCutInPart other ys qs m c j)
      → (SinkGrew b a (listing format (take k ps)) → SinkGrew m c (listing other (take j qs)))
      → StoppedBehind format xs ps b a o k → StoppedBehind other ys qs m c o j
  stopped_by cut whole stopped =
      ⊎_elim (λ is. inl (cut is)) (λ is. inr (is.0, whole is.1)) stopped
