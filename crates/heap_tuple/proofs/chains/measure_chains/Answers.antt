use Rattle.std.proofs.Common.{◌≡◌, ◌∙◌, ap, sym, arith, length}
use Rattle.page_check.specs.LinePointers.{line_pointer_count}
use Rattle.heap_tuple.specs.Chains.{roots_of, longest_of, is_root}
use Rattle.heap_tuple.proofs.LongestRoot.{roots_no, roots_followed, longest_followed, longest_among}
use Rattle.heap_tuple.proofs.chains.measure_chains.Goals as goal
use Rattle.heap_tuple.proofs.chains.measure_chains.Goals.{then-is_first+in_ok-chain, else-is_first}

pub loop-index-preserved : goal.loop-index-preserved
loop-index-preserved c =
    let is = c.loop-index.invariant in
    let first : c.is_first.result
    ≡ is_root c.args.page.now c.args.block c.loop-index.index = c.is_first.ensures c.args.block
    c.requires.marks in
    elim c.if-is_first.branch [
      | then-is_first+in_ok-chain w ↦ let root = sym first ∙ w.if-is_first.true in record {
        lengths = ap length w.lengths-is ∙ w.chain_length.ensures.lengths ∙ is.lengths;
        passed = ap length w.passed-is ∙ w.chain_length.ensures.passed ∙ is.passed;
        empty = rw w.path-is w.in_ok-chain.ensures.empty;
        known = rw w.lengths-is w.in_ok-chain.ensures.known;
        marked = rw w.lengths-is (rw w.passed-is w.in_ok-chain.ensures.marked);
        few = omega (arith, w.roots-is, is.few);
        roots = w.roots-is ∙ roots_followed c.args.page.now c.args.block c.loop-index.index _ root
            is.roots;
        longest = w.longest-is ∙ w.max-longest.ensures
            ∙ longest_followed c.args.page.now c.args.block c.loop-index.index _ _ root is.longest
            (sym w.in_ok-chain.ensures.chain);
      }
      | else-is_first w ↦
          let same = roots_no c.args.page.now c.args.block c.loop-index.index (sym first
          ∙ w.if-is_first.false) in record {
            lengths = ap length w.lengths-is ∙ is.lengths;
            passed = ap length w.passed-is ∙ is.passed;
            empty = rw w.path-is is.empty;
            known = rw w.lengths-is is.known;
            marked = rw w.lengths-is (rw w.passed-is is.marked);
            few = omega (arith, w.roots-is, is.few);
            roots = w.roots-is ∙ is.roots ∙ ap length (sym same);
            longest = w.longest-is ∙ is.longest
                ∙ ap (longest_among c.args.page.now c.args.block) (sym same);
          }
    ]

pub returns-clause-roots : goal.returns-clause-roots
unfolding roots_of
returns-clause-roots c =
    let all : c.loop-index.index ≡ line_pointer_count c.args.page.now =
    omega (
      arith,
      c.loop-index-test.false,
      c.count-index-end.ensures.count,
      c.loop-index.auto.index-end,
    ) in
    rw (sym all) c.loop-index.invariant.roots

pub returns-clause-longest : goal.returns-clause-longest
unfolding longest_of roots_of
returns-clause-longest c =
    let all : c.loop-index.index ≡ line_pointer_count c.args.page.now =
    omega (
      arith,
      c.loop-index-test.false,
      c.count-index-end.ensures.count,
      c.loop-index.auto.index-end,
    ) in
    rw (sym all) c.loop-index.invariant.longest
