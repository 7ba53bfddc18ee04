-- The runs of a plan go on where a block is offered.
use Rattle.std.proofs.Common.{◌≡◌, ◌≢◌, ℕ, zero, suc, ◌+◌, ◌^◌, ◌%◌, ◌<◌, ◌≤◌}
use Rattle.std.proofs.Common.{List, [], ◌∷◌, ◌++◌}
use Rattle.std.proofs.Common.{Some, All, refl, sym, ◌∙◌, ap, subst, arith}
use Rattle.std.proofs.Common.{add-zero, append_assoc}
use Rattle.std.specs.List.{range_with_len, flat_map}
use Rattle.std.proofs.lemmas.List.{append-nil, flat_map_more}
use Rattle.std.proofs.lemmas.List.Elements.{All-push, All-pop}
use Rattle.read_plan.specs.declared.runs.Run.{Run}
use Rattle.read_plan.specs.Runs.{AreRuns, IsRun, IsWithin, run_blocks, one_block}

-- one more number in a row
range_more : (first count : ℕ) →
    range_with_len first (count + 1) ≡ range_with_len first count ++ (first + count) ∷ []
range_more first zero = rw add-zero
range_more first (suc count) =
    let more : suc count + 1 ≡ suc (count + 1) = omega arith in
    let same : first + 1 + count ≡ first + suc count = omega arith in
    rw (more, range_more (first + 1) count, same)

-- a run with one more block
abbrev pub longer : Run → Run
longer run = record run { count = run.count + 1 }

-- its blocks
run_blocks-longer : (run : Run) (block : ℕ) → run.first + run.count ≡ block →
    run_blocks (longer run) ≡ run_blocks run ++ block ∷ []
run_blocks-longer run block next =
    subst (λ last. run_blocks (longer run) ≡ run_blocks run ++ last ∷ []) next
    (range_more run.first run.count)

-- the blocks of runs and of one more
last_blocks : (runs : List Run) (run : Run) →
    flat_map run_blocks (runs ++ run ∷ []) ≡ flat_map run_blocks runs ++ run_blocks run
last_blocks runs run = sym (flat_map_more run_blocks [] runs run)

-- a run of one block is within any segment
pub one_within : (segment block : ℕ) → IsWithin segment (one_block block)
one_within segment block = record { within = λ k above below. absurd (omega arith) }

-- and a run goes on within one where the block begins none
pub longer_within : (segment : ℕ) (run : Run) (block : ℕ) → run.first + run.count ≡ block →
    block % segment ≢ 0 → IsWithin segment run → IsWithin segment (longer run)
longer_within segment run block next inside was = record {
  within = λ k above below. grind (arith, was.within);
}

module _ (combine segment : ℕ) (before : List Run) (run : Run) (block : ℕ) (offered : List ℕ) where
  -- a run of the block stands behind the last run
  pub block_flushes : 1 ≤ combine → block < 2 ^ 32 →
      AreRuns combine segment (before ++ run ∷ []) offered →
      AreRuns combine segment (before ++ run ∷ [] ++ one_block block ∷ []) (offered ++ block ∷ [])
  block_flushes room known are =
      let is : IsRun combine (one_block block) = record {
        not_empty = omega arith;
        combined = room;
        in_range = omega arith;
      } in record {
        each = All-push (IsRun combine) (before ++ run ∷ []) (one_block block) are.each is;
        within =
            All-push (IsWithin segment) (before ++ run ∷ []) (one_block block) are.within
            (one_within segment block);
        in_order =
            last_blocks (before ++ run ∷ []) (one_block block)
            ∙ ap (λ xs. xs ++ block ∷ []) are.in_order;
      }

  -- the block is one more of the last run
  pub block_extends : run.count < combine → run.first + run.count ≡ block → block < 2 ^ 32 →
      block % segment ≢ 0 → AreRuns combine segment (before ++ run ∷ []) offered →
      AreRuns combine segment (before ++ [] ++ longer run ∷ []) (offered ++ block ∷ [])
  block_extends room next known inside are =
      let is : IsRun combine (longer run) = record {
        not_empty = omega arith;
        combined = omega arith;
        in_range = omega arith;
      } in
      let others : All (IsRun combine) before =
      (All-pop (IsRun combine) (before ++ run ∷ []) before (Some run) refl are.each).0 in
      let lie = All-pop (IsWithin segment) (before ++ run ∷ []) before (Some run) refl are.within in
      rw append-nil record {
        each = All-push (IsRun combine) before (longer run) others is;
        within =
            All-push (IsWithin segment) before (longer run) lie.0
            (longer_within segment run block next inside lie.1);
        in_order =
            last_blocks before (longer run)
            ∙ ap (λ xs. flat_map run_blocks before ++ xs) (run_blocks-longer run block next)
            ∙ sym (append_assoc (flat_map run_blocks before) (run_blocks run) (block ∷ []))
            ∙ ap (λ xs. xs ++ block ∷ []) (sym (last_blocks before run) ∙ are.in_order);
      }
