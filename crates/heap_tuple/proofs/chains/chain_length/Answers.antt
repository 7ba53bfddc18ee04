use Rattle.std.proofs.Common.{◌≡◌, ℕ, ◌≤◌, ◌+◌, List, ap, sym, ◌∙◌, arith, length-set, get_or}
use Rattle.page_check.specs.LinePointers.{line_pointer_count}
use Rattle.page_check.specs.Fields.{header_of}
use Rattle.page_check.proofs.ValidPages.{lower_of_valid}
use Rattle.heap_tuple.specs.Tuples.{step_of}
use Rattle.heap_tuple.proofs.PathMarks.{path_few}
use Rattle.heap_tuple.proofs.StepsBelow.{step_of-below}
use Rattle.heap_tuple.proofs.PathLengths.{open_start, unwinds_closed, unwinds_known}
use Rattle.heap_tuple.proofs.PathLengths.{unwinds_none, unwinds_less, unwinds_inside, unwinds_chain}
use Rattle.heap_tuple.proofs.PathLengths.{goes_few}
use Rattle.std.proofs.Common.{[], ◌-◌, take, append-nil}
use Rattle.heap_tuple.proofs.LongestRoot.{length_of_chain}
use Rattle.heap_tuple.proofs.chains.chain_length.Goals as goal
use Rattle.heap_tuple.proofs.chains.chain_length.Goals.{in-Some+then-known-gt0, in-Some+else-known-gt0}
use Rattle.heap_tuple.proofs.chains.chain_length.Goals.{in-None}

few_items : (page : List ℕ) → (header_of page).lower ≤ 8192 → line_pointer_count page ≤ 2042
unfolding line_pointer_count
few_items page lower = omega (arith, lower)

pub close_circle-requires-clause-few : goal.close_circle-requires-clause-few
close_circle-requires-clause-few c =
    omega (arith, few_items _ (lower_of_valid _ c.requires.valid), c.requires.lengths)

pub close_circle-requires-clause-path : goal.close_circle-requires-clause-path
close_circle-requires-clause-path c =
    omega (arith, path_few _ _ _ c.in_ok-at.ensures.path, c.requires.lengths, c.requires.passed)

pub loop-item-init : goal.loop-item-init
loop-item-init c =
    let next = step_of c.args.page.now c.args.block in
    let start = open_start next c.args.passed.now c.pass_items.new.passed c.args.lengths.now
    c.pass_items.new.path.items
    c.args.first c.in_ok-at.at c.requires.known c.requires.marked
    (c.requires.passed ∙ sym c.requires.lengths) c.in_ok-at.ensures.path c.in_ok-at.ensures.steps in
    let size = c.match-at.auto.lengths ∙ c.requires.lengths in
    elim c.match-at.branch [
      | in-Some+then-known-gt0 w ↦ record {
        size = size;
        unwinds = rw w.lengths-is (rw w.path-is (rw w.chain-is
            (unwinds_known next _ _ _ _ w.in-Some.item _ _ start w.in-Some.is
            (ap (λ (n : ℕ). get_or c.args.lengths.now n 0) w.from.ensures) w.if-known-gt0.true)));
      }
      | in-Some+else-known-gt0 w ↦ record {
        size = size;
        unwinds = rw w.lengths-is (rw w.path-is (rw w.chain-is
            (unwinds_closed next _ _ _ _ _ _ w.in-Some.item _ _ start w.in-Some.is
            w.close_circle.ensures.size
            w.close_circle.ensures.circle)));
      }
      | in-None w ↦ record {
        size = size;
        unwinds = rw w.lengths-is (rw w.path-is (rw w.chain-is
            (unwinds_none next _ _ _ _ _ start w.in-None.is)));
      }
    ]

pub overflow_add-chain : goal.overflow_add-chain
overflow_add-chain c =
    let is = c.loop-item.invariant.unwinds in
    omega (
      arith,
      goes_few (step_of c.args.page.now c.args.block) c.loop-item.lengths is.at c.loop-item.chain
          (λ x below. rw c.loop-item.invariant.size (step_of-below c.args.page.now c.args.block x))
          is.is_open.known is.remaining,
      c.loop-item.invariant.size,
      few_items _ (lower_of_valid _ c.requires.valid),
    )

pub bounds-lengths-from-in-Some-pop : goal.bounds-lengths-from-in-Some-pop
bounds-lengths-from-in-Some-pop c =
    omega (
      arith,
      unwinds_inside _ _ _ _ _ _ c.in-Some-pop.item _ c.loop-item.invariant.unwinds
          c.in-Some-pop.ensures.items,
      c.from-in-Some-pop.ensures,
    )

pub loop-item-preserved : goal.loop-item-preserved
loop-item-preserved c = record {
  size = length-set c.loop-item.lengths c.from-in-Some-pop.result (c.loop-item.chain + 1)
      ∙ c.loop-item.invariant.size;
  unwinds = unwinds_less (step_of c.args.page.now c.args.block) _ _ _ _ _ c.in-Some-pop.item _ _
      c.loop-item.invariant.unwinds c.in-Some-pop.ensures.items c.from-in-Some-pop.ensures;
}

pub returns-clause-chain : goal.returns-clause-chain
returns-clause-chain c =
    let over : c.loop-item.path.items ≡ [] =
    c.in_default.ensures.items ∙ append-nil _ ∙ c.in_default.ensures.rest
    ∙ ap (λ (n : ℕ). take (n - 1) c.loop-item.path.items) c.in_default.ensures.cases.0 in
    let is = c.loop-item.invariant.unwinds in
    let done = unwinds_chain _ _ _ _ c.args.first _ is over in
    done.0 ∙ sym (length_of_chain c.args.page.now c.args.block c.args.first c.loop-item.lengths
    is.is_open.known (omega (arith, done.0, done.1)) c.requires.first)
