-- The settings of a desk, and a desk that serves no stream.
use Rattle.std.specs.Prelude.{◌≡◌, ℕ, ◌+◌, ◌≤◌, [], false}
use Rattle.read_plan.specs.Plans.{PlanView, new_plan, raised_plan}
use Rattle.read_stream.specs.declared.desk.Desk.{Desk}
use Rattle.read_stream.specs.declared.desk.Settings.{Settings}
use Rattle.read_stream.specs.Reaches.{nothing_reached, reached_by}
use Rattle.read_stream.specs.StreamIos.{AllRecordsFree}

-- each setting is in its range
pub record AreValidSettings (s : Settings) : Type 0 where
  pub combine_in : (1 ≤ s.combine) × (s.combine ≤ 128)
  pub ios_in : (1 ≤ s.ios) × (s.ios ≤ 64)
  pub limit_in : (1 ≤ s.limit) × (s.limit ≤ 16384)
  pub segment_in : 1 ≤ s.segment

-- all its records are free, and it holds nothing of a stream
pub record IsFreeDesk {W P : Type 0} (d : Desk W P) : Type 0 where
  pub settings : AreValidSettings d.settings
  pub ready : AllRecordsFree d.settings.combine (d.settings.ios + 1) d.reads
  pub queue : d.blocks.queue.items ≡ []
  pub most_blocks : d.settings.limit ≤ d.blocks.queue.capacity

-- the settings with which it was opened
abbrev pub desk_settings : {W P : Type 0} → Desk W P → Settings
desk_settings d = d.settings

-- the plan of a new stream
abbrev pub plan_of_settings : Settings → PlanView
plan_of_settings s = new_plan s.combine s.ios s.limit s.full s.segment

-- the next stream is expected to read so many blocks of the relation, from the first one on
abbrev pub desk_expecting : {W P : Type 0} → Desk W P → ℕ → ℕ → ℕ → Desk W P
desk_expecting d relation first count = record d {
  expected = reached_by d.reached relation first count d.blocks.plan.distance;
}

-- a new stream begins, which has made no I/O, with the distance that is expected of it
abbrev pub desk_begun : {W P : Type 0} → Desk W P → Desk W P
desk_begun d = record d {
  blocks = record d.blocks {
    plan = raised_plan (plan_of_settings d.settings) d.expected.distance;
    over = false;
  };
  reads = record d.reads { taken_in = 0 };
  reached = d.expected;
  expected = nothing_reached;
}
