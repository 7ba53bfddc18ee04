-- The fields of a plan.
use Rattle.std.specs.Option.{ForSome}
use Rattle.read_plan.specs.declared.plan.Plan.TheInside.{Inside}
use Rattle.read_plan.specs.Plans.{PlanView, IsSoundPlan}
use Rattle.read_plan.specs.Runs.{IsRun, IsWithin}

-- the plan that the fields show
abbrev pub plan_view : Inside → PlanView
plan_view f = record {
  combine = f.combine;
  max_ios = f.max_ios;
  limit = f.limit;
  segment = f.segment;
  distance = f.distance;
  blocks_ahead = f.blocks_ahead;
  ios_in_progress = f.ios_in_progress;
  pending = f.pending;
}

-- the plan is sound, and its pending run is a run
pub record PlanInvariant (f : Inside) : Type 0 where
  pub sound : IsSoundPlan (plan_view f)
  pub run : ForSome f.pending (IsRun f.combine)
  pub within : ForSome f.pending (IsWithin f.segment)
