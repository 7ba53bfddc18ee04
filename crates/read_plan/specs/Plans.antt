-- Plans of reads as contracts see them.
use Rattle.std.specs.Prelude.{ℕ, ◌<◌, ◌≤◌, Bool, min, max, if◌then◌else◌, Option, None}
use Rattle.read_plan.specs.declared.runs.Run.{Run}

-- the parts of a plan that calls speak of (after ReadStream of read_stream.c)
pub record PlanView : Type 0 where
  -- the most blocks of a run: io_combine_limit
  pub combine : ℕ
  -- the most I/Os in progress
  pub max_ios : ℕ
  -- the most blocks ahead: max_pinned_buffers
  pub limit : ℕ
  -- the blocks of one segment of the relation: RELSEG_SIZE
  pub segment : ℕ
  -- how many blocks the plan wants ahead now
  pub distance : ℕ
  -- the blocks that were taken from the source and not given yet: pinned_buffers
  pub blocks_ahead : ℕ
  -- the I/Os that were started and whose record is not free again
  pub ios_in_progress : ℕ
  -- the run of the blocks that were offered last, not handed out yet: the pending read
  pub pending : Option Run

-- a plan before its first block: the distance is 1, or large enough for a whole run at once
abbrev pub new_plan : ℕ → ℕ → ℕ → Bool → ℕ → PlanView
new_plan combine max_ios limit full segment = record {
  combine = combine;
  max_ios = max_ios;
  limit = limit;
  segment = segment;
  distance = if full then min limit combine else 1;
  blocks_ahead = 0;
  ios_in_progress = 0;
  pending = None;
}

-- the plan with a distance of at least this, as far as its limit allows
abbrev pub raised_plan : PlanView → ℕ → PlanView
raised_plan plan to = record plan { distance = max plan.distance (min plan.limit to) }

-- fewer blocks ahead than the distance, and fewer I/Os in progress than there may be
abbrev pub MayLookAhead : PlanView → Type 0
MayLookAhead plan = (plan.blocks_ahead < plan.distance) × (plan.ios_in_progress < plan.max_ios)

-- what stands of every plan: its settings are in their ranges (this project's own), and the
-- distance is from 1 to the limit
pub record IsSoundPlan (plan : PlanView) : Type 0 where
  pub combine : (1 ≤ plan.combine) × (plan.combine ≤ 128)
  pub max_ios : (1 ≤ plan.max_ios) × (plan.max_ios ≤ 64)
  pub limit : plan.limit ≤ 16384
  pub segment : 1 ≤ plan.segment
  pub distance : (1 ≤ plan.distance) × (plan.distance ≤ plan.limit)
