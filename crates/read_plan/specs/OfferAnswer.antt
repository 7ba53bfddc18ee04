-- What becomes of the pending run where a block is offered, and where it is taken.
use Rattle.std.specs.Prelude.{◌≡◌, ◌≢◌, ℕ, ◌+◌, ◌%◌, ◌⊎◌, ⊤, List, [], ◌∷◌, ◌++◌}
use Rattle.std.specs.Prelude.{Option, Some, None}
use Rattle.std.specs.Option.{option_to_list}
use Rattle.read_plan.specs.declared.runs.Run.{Run}
use Rattle.read_plan.specs.declared.runs.Offer.{Offer}
use Rattle.read_plan.specs.declared.runs.Offer.TheVariants.{Start, Extended, Flush}
use Rattle.read_plan.specs.Plans.{PlanView}
use Rattle.read_plan.specs.Runs.{AreRuns, Continues, one_block}

-- the pending run before and after a block was offered, by the answer: it is flushed only where it
-- has `combine` blocks, the block is not its neighbour or the block is a multiple of the segment
-- size (after read_stream_look_ahead of read_stream.c)
abbrev pub Offers : ℕ → ℕ → Option Run → ℕ → Offer → Option Run → Type 0
Offers combine segment None block Start after = after ≡ Some (one_block block)
Offers combine segment None block Extended after = ⊥
Offers combine segment None block (Flush flushed_runs) after = ⊥
Offers combine segment (Some run) block Start after = ⊥
Offers combine segment (Some run) block Extended after =
    Continues combine segment run block × (after ≡ Some (record run { count = run.count + 1 }))
Offers combine segment (Some run) block (Flush flushed_runs) after =
    ((run.count ≡ combine) ⊎ (run.first + run.count ≢ block) ⊎ (block % segment ≡ 0))
    × (flushed_runs ≡ run)
    × (after ≡ Some (one_block block))

-- the runs that an answer hands out
abbrev pub flushed_runs : Offer → List Run
flushed_runs Start = []
flushed_runs Extended = []
flushed_runs (Flush run) = run ∷ []

-- the fact holds of the run that an answer hands out, if it hands one out
abbrev pub IfFlush : Offer → (Run → Type 0) → Type 0
IfFlush Start P = ⊤
IfFlush Extended P = ⊤
IfFlush (Flush run) P = P run

-- whatever runs were handed out before and whatever blocks they and the pending one were: with the
-- runs handed out now and the one pending now they are those blocks and the added ones
abbrev pub RunsCoverBlocks : PlanView → PlanView → List ℕ → List Run → Type 0
RunsCoverBlocks old new added out =
    (before : List Run) (offered : List ℕ)
    → AreRuns old.combine old.segment (before ++ option_to_list old.pending) offered
    → AreRuns new.combine new.segment (before ++ out ++ option_to_list new.pending)
    (offered ++ added)
