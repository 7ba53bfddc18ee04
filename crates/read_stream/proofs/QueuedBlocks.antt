-- The blocks of a queue that are read, and the runs that have them.
use Rattle.std.proofs.Common.{◌≡◌, ℕ, zero, suc, ◌+◌, ◌-◌, ◌≤◌, List, [], ◌∷◌, ◌++◌, length, refl}
use Rattle.std.proofs.Common.{sym, ap, ◌∙◌, arith, subst, add-zero, length-append, inl, inr}
use Rattle.std.specs.Prelude.{Option, Some, None}
use Rattle.std.specs.List.{flat_map, range_with_len}
use Rattle.std.proofs.lemmas.List.{flat_map_more}
use Rattle.std.proofs.lemmas.List.FromFn.{length-range_with_len}
use Rattle.aio_word.specs.Stands.{IsIn}
use Rattle.read_plan.specs.declared.runs.Run.{Run}
use Rattle.read_plan.specs.declared.runs.Offer.{Offer}
use Rattle.read_plan.specs.declared.runs.Offer.TheVariants as offer
use Rattle.read_plan.specs.OfferAnswer.{Offers}
use Rattle.read_plan.specs.Runs.{run_blocks}
use Rattle.read_stream.specs.declared.queue.QueuedBlock.{QueuedBlock}
use Rattle.read_stream.specs.declared.queue.Want.{Want}
use Rattle.read_stream.specs.declared.queue.Want.TheVariants as want
use Rattle.read_stream.specs.QueuedBlocks.{pending_blocks, read_block, read_blocks}

-- one more number in a row
range-more : (first count : ℕ)
    → range_with_len first (count + 1) ≡ range_with_len first count ++ (first + count) ∷ []
range-more first zero = rw add-zero
range-more first (suc count) =
    let more : suc count + 1 ≡ suc (count + 1) = omega arith in
    let same : first + 1 + count ≡ first + suc count = omega arith in
    rw (more, range-more (first + 1) count, same)

-- the blocks of a run that an answer hands out
abbrev pub run_blocks_out : Offer → List ℕ
run_blocks_out offer.Start = []
run_blocks_out offer.Extended = []
run_blocks_out (offer.Flush run) = run_blocks run

-- the pending run and the block that was offered are what is handed out and what is pending
pub offer_keeps_blocks : (combine segment block : ℕ) (a b : Option Run) (o : Offer)
    → Offers combine segment a block o b
    → pending_blocks a ++ block ∷ [] ≡ run_blocks_out o ++ pending_blocks b
offer_keeps_blocks combine segment block None b offer.Start is =
    sym (ap (λ (z : Option Run). pending_blocks z) is)
offer_keeps_blocks combine segment block None b offer.Extended is = absurd is
offer_keeps_blocks combine segment block None b (offer.Flush out) is = absurd is
offer_keeps_blocks combine segment block (Some run) b offer.Start is = absurd is
offer_keeps_blocks combine segment block (Some run) b offer.Extended is =
    subst (λ (z : ℕ). run_blocks run ++ z ∷ []
    ≡ pending_blocks (Some (record run { count = run.count + 1 }))) is.0.neighbour
    (sym (range-more run.first run.count))
    ∙ sym (ap (λ (z : Option Run). pending_blocks z) is.1)
offer_keeps_blocks combine segment block (Some run) b (offer.Flush out) is =
    ap (λ (z : Run). run_blocks z ++ block ∷ []) (sym is.1)
    ∙ ap (λ (z : Option Run). run_blocks out ++ pending_blocks z) (sym is.2)

pub none_out : (o : Offer) → ((run : Run) → o ≡ offer.Flush run → ⊥) → run_blocks_out o ≡ []
none_out offer.Start not = refl
none_out offer.Extended not = refl
none_out (offer.Flush run) not = absurd (not run refl)

-- the first of some numbers in a row
pub range_first : (first count : ℕ) → 1 ≤ count
    → range_with_len first count ≡ first ∷ range_with_len (first + 1) (count - 1)
range_first first count some =
    let n : count ≡ suc (count - 1) = omega arith in
    ap (λ (z : ℕ). range_with_len first z) n

-- each run has a block
pub few_runs : (runs : List Run) → ((run : Run) → IsIn run runs → 1 ≤ run.count)
    → length runs ≤ length (flat_map run_blocks runs)
few_runs [] all = omega arith
few_runs (run ∷ runs) all =
    let one = all run (inl refl) in
    let rest = few_runs runs (λ x i. all x (inr i)) in
    let a = length-append (run_blocks run) (flat_map run_blocks runs) in
    let n = length-range_with_len run.first run.count in
    omega arith

one-at-most : (block : ℕ) (w : Want) → length (read_block block w) ≤ 1
one-at-most block want.Read = omega arith
one-at-most block want.Look = omega arith
one-at-most block (want.Join reference) = omega arith

module _ {P : Type 0} where
  pub read_blocks_pushed : (queue : List (QueuedBlock P)) (a : QueuedBlock P)
      → read_blocks (queue ++ a ∷ []) ≡ read_blocks queue ++ read_block a.block a.want
  read_blocks_pushed queue a =
      sym (flat_map_more (λ (a : QueuedBlock P). read_block a.block a.want) [] queue a)

  -- no more blocks are read than there are
  pub few_read : (queue : List (QueuedBlock P)) → length (read_blocks queue) ≤ length queue
  few_read [] = omega arith
  few_read (a ∷ queue) =
      let one = one-at-most a.block a.want in
      let rest = few_read queue in
      let n = length-append (read_block a.block a.want) (read_blocks queue) in
      omega arith
