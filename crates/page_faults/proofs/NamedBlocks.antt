-- The block that tuples name as their own.
use Rattle.std.proofs.Common.{◌≡◌, ℕ, List, [], ◌∷◌, ◌++◌, Bool, true, false, refl, sym}
use Rattle.std.proofs.Common.{◌∙◌, ap, subst, cond}
use Rattle.std.specs.Prelude.{Option, Some, None, filter, unwrap_or, ◌&&◌}
use Rattle.std.specs.List.{list_all}
use Rattle.std.proofs.lemmas.List.{append-nil}
use Rattle.std.proofs.lemmas.List.Elements.{filter-append}
use Rattle.std.proofs.lemmas.List.Folds.{list_all-append}
use Rattle.page_faults.specs.declared.witnesses.Witnesses.{Witnesses}
use Rattle.page_faults.specs.ItemFaults.{header_of_item}
use Rattle.page_faults.specs.Misplaced.{AreWitnesses, first_named, is_of_block, is_at}
use Rattle.page_faults.specs.Misplaced.{names_itself, witnesses_of}

pub witnesses_none : (page : List ℕ) → AreWitnesses page [] (record { named = None; agree = true })
unfolding witnesses_of
witnesses_none page = record { named = refl; agree = refl }

pub witnesses_of-append : (page items : List ℕ) (index : ℕ) (one : Bool)
    → names_itself (header_of_item page index) ≡ one
    → witnesses_of page (items ++ index ∷ []) ≡ witnesses_of page items ++ cond one (index ∷ []) []
unfolding witnesses_of
witnesses_of-append page items index one is =
    filter-append (λ (i : ℕ). names_itself (header_of_item page i)) items (index ∷ [])
    ∙ ap (λ (b : Bool). filter (λ (i : ℕ). names_itself (header_of_item page i)) items
    ++ cond b (index ∷ []) []) is

-- a tuple that does not name itself is no witness
pub witnesses_of-other : (page items : List ℕ) (index : ℕ)
    → names_itself (header_of_item page index) ≡ false
    → witnesses_of page (items ++ index ∷ []) ≡ witnesses_of page items
witnesses_of-other page items index other =
    witnesses_of-append page items index false other ∙ append-nil (witnesses_of page items)

pub witnesses_skip : (page items : List ℕ) (index : ℕ) (kept : Witnesses)
    → names_itself (header_of_item page index) ≡ false
    → AreWitnesses page items kept → AreWitnesses page (items ++ index ∷ []) kept
witnesses_skip page items index kept other are =
    let same = sym (witnesses_of-other page items index other) in
    record {
      named = are.named ∙ ap (first_named page) same;
      agree = are.agree ∙ ap (list_all (is_of_block page (unwrap_or kept.named 0))) same;
    }

and_true : (b : Bool) → b ≡ (b && true)
and_true true = refl
and_true false = refl

of_block-is : (page : List ℕ) (block index : ℕ)
    → is_at (header_of_item page index) block index ≡ is_of_block page block index
unfolding is_of_block
of_block-is page block index = refl

-- what is kept with one more
record Keeps (page : List ℕ) (list : List ℕ) (named : ℕ) (agree : Bool) : Type 0 where
  block : Some named ≡ first_named page list
  all : agree ≡ list_all (is_of_block page named) list

keeps_by : (page : List ℕ) (list : List ℕ) (index named : ℕ) (first : Option ℕ) (before agree : Bool)
    → first ≡ first_named page list
    → before ≡ list_all (is_of_block page (unwrap_or first 0)) list
    → named ≡ unwrap_or first (header_of_item page index).block
    → agree ≡ (before && is_of_block page named index)
    → Keeps page (list ++ index ∷ []) named agree
keeps_by page [] index named first before agree is so name all =
    let block : named ≡ (header_of_item page index).block =
    name ∙ ap (λ (o : Option ℕ). unwrap_or o (header_of_item page index).block) is in
    record {
      block = ap (λ (n : ℕ). Some n) block;
      all = all ∙ ap (λ (b : Bool). b && is_of_block page named index) so
          ∙ and_true (is_of_block page named index);
    }
keeps_by page (x ∷ xs) index named first before agree is so name all =
    let block : named ≡ (header_of_item page x).block =
    name ∙ ap (λ (o : Option ℕ). unwrap_or o (header_of_item page index).block) is in
    let old : unwrap_or first 0 ≡ named =
    ap (λ (o : Option ℕ). unwrap_or o 0) is ∙ sym block in
    let test = is_of_block page named in
    record {
      block = ap (λ (n : ℕ). Some n) block;
      all = all
          ∙ ap (λ (b : Bool). b && test index)
          (so ∙ ap (λ (n : ℕ). list_all (is_of_block page n) (x ∷ xs)) old)
          ∙ ap (λ (b : Bool). list_all test (x ∷ xs) && b) (and_true (test index))
          ∙ sym (list_all-append test (x ∷ xs) (index ∷ []));
    }

-- with a tuple that names itself
pub witnesses_with : (page items : List ℕ) (index named : ℕ) (kept : Witnesses) (agree : Bool)
    → names_itself (header_of_item page index) ≡ true → AreWitnesses page items kept
    → named ≡ unwrap_or kept.named (header_of_item page index).block
    → agree ≡ (kept.agree && is_at (header_of_item page index) named index)
    → AreWitnesses page (items ++ index ∷ []) (record { named = Some named; agree = agree })
witnesses_with page items index named kept agree one are name all =
    let list = witnesses_of page items in
    let keeps = keeps_by page list index named kept.named kept.agree agree are.named are.agree name
    (all ∙ ap (λ (b : Bool). kept.agree && b) (of_block-is page named index)) in
    let more = sym (witnesses_of-append page items index true one) in
    record {
      named = keeps.block ∙ ap (first_named page) more;
      agree = keeps.all ∙ ap (list_all (is_of_block page named)) more;
    }

pub witnesses_of_same : (page items others : List ℕ) (kept : Witnesses) → others ≡ items
    → AreWitnesses page items kept → AreWitnesses page others kept
witnesses_of_same page items others kept same are =
    subst (λ (list : List ℕ). AreWitnesses page list kept) (sym same) are
