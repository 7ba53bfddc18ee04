use Rattle.std.proofs.Common.{◌≡◌, ◌+◌, ◌*◌, ◌<◌, ◌^◌, length}
use Rattle.example_source.specs.MarkedBlocks.{marked_blocks}
use Rattle.example_source.proofs.marked.MarkedBlockSourceUnit.next.Given as goal

abbrev pub invariant-loop-self : goal.invariant-loop-self
invariant-loop-self l = let m = l.self-inside in
    (marked_blocks m.bits.items m.next m.count ≡ l.fn.self)
    × (m.next + m.count ≡ 8 * length m.bits.items) × (m.next + m.count < 2 ^ 32)

abbrev pub decreases-loop-self : goal.decreases-loop-self
decreases-loop-self l = l.self-inside.count
