-- What of a stream is unchanged where a part of it changes.
use Rattle.std.proofs.Common.{◌≡◌, ℕ, ◌+◌, ◌<◌, List, refl, ◌∙◌}
use Rattle.std.specs.Prelude.{Option}
use Rattle.read_plan.specs.Plans.{PlanView}
use Rattle.read_plan.specs.declared.runs.Run.{Run}
use Rattle.read_stream.specs.declared.desk.Settings.{Settings}
use Rattle.read_stream.specs.declared.stream.ReadStream.{ReadStream}
use Rattle.read_stream.specs.StreamState.{PlanAgrees}
use Rattle.read_stream.specs.Changes.{IsSameReading, SameStream}

pub same_reading_then : {W S P : Type 0} (a b d : ReadStream W S P) → IsSameReading a b
    → IsSameReading b d → IsSameReading a d
same_reading_then a b d x y = record {
  desk = y.desk ∙ x.desk;
  scope = y.scope ∙ x.scope;
  source_was = y.source_was ∙ x.source_was;
  settings = y.settings ∙ x.settings;
}

pub same_reading_refl : {W S P : Type 0} (s : ReadStream W S P) → IsSameReading s s
same_reading_refl s = record { desk = refl; scope = refl; source_was = refl; settings = refl }

pub same_stream_then : {W S P : Type 0} (left : S → List (ℕ × P)) (a b d : ReadStream W S P)
    → SameStream left a b → SameStream left b d → SameStream left a d
same_stream_then left a b d x y = record {
  reading = same_reading_then a b d x.reading y.reading;
  given = y.given ∙ x.given;
}

pub same_stream_refl : {W S P : Type 0} (left : S → List (ℕ × P)) (s : ReadStream W S P)
    → SameStream left s s
same_stream_refl left s = record { reading = same_reading_refl s; given = refl }

-- the plan looks as far ahead as it may, has another pending run, and as many I/Os in progress as
-- there are records in use
pub plan_agrees_then : (pl : PlanView) (settings : Settings) (queued total free spare : ℕ)
    → PlanAgrees pl settings queued total free spare → (distance : ℕ) (pending : Option Run)
    (ios free' spare' : ℕ) → ios + free' ≡ total → 0 < free' + spare'
    → PlanAgrees (record pl { distance = distance; pending = pending; ios_in_progress = ios })
    settings queued total free' spare'
plan_agrees_then pl settings queued total free spare a distance pending ios free' spare' in_use some =
    record {
      ahead = a.ahead;
      queue_within_limit = a.queue_within_limit;
      in_use = in_use;
      spare_record = some;
      combine = a.combine;
      max_ios = a.max_ios;
      limit = a.limit;
    }
