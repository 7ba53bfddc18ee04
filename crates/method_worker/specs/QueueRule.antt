-- The rule of the queue's entries: it counts references and knows no order.
use Rattle.std.specs.Prelude.{ℕ, Bool, List, [], ◌≡◌, ◌+◌, ◌<◌, ◌==◌, ◌&&◌, count_by}
use Rattle.std.specs.List.{All, sum_by}
use mathlib.Core.Option.{some}
use lib.ListN.{get_elem?}
use Rattle.aio_word.specs.declared.WaitRef.{WaitRef}
use Rattle.method_worker.specs.declared.log.Log.{Log}

abbrev pub queue_log : ℕ → List WaitRef → List WaitRef → Log
queue_log parts pushes pops = record { parts = parts; pushes = pushes; pops = pops }

-- the parts of all seats together: as many as a queue may have seats
abbrev pub all_parts : ℕ
all_parts = 48

-- it has pushed and popped nothing
abbrev pub HasNoPushesOrPops : Log → Type 0
HasNoPushesOrPops v = (v.pushes ≡ []) × (v.pops ≡ [])

-- However the references are weighed, what was pushed over all seats weighs what was popped over
-- all seats and what stands in the queue. So each reference was pushed as often as it was popped
-- and stands there.
pub record IsBalanced (handles : ℕ) (items : List WaitRef) (views : List Log) : Type 0 where
  pub weights : (h : WaitRef → ℕ) → sum_by (λ v. sum_by h v.pushes) views
      ≡ sum_by (λ v. sum_by h v.pops) views + sum_by h items
  -- each reference that stands in the queue is in range
  pub range : All (λ r. r.handle < handles) items
  -- the parts are all there, and who has none has pushed and popped nothing
  pub parts : sum_by (λ v. v.parts) views ≡ all_parts
  pub idle : (port : ℕ) (v : Log) → get_elem? views port ≡ some v → v.parts ≡ 0
      → HasNoPushesOrPops v

-- the rule allows these entries beside this seat's lists, with some lists of the other seats
abbrev pub LogAllows : ℕ → Log → List WaitRef → Type 0
LogAllows handles v items = (views : List Log) × (port : ℕ) × IsBalanced handles items views
    × (get_elem? views port ≡ some v)

-- whether it is this reference
abbrev pub is_ref : WaitRef → WaitRef → Bool
is_ref t r = (r.handle == t.handle) && (r.generation == t.generation)

-- how often the reference stands in a list, and how often it was pushed and popped over all seats
abbrev pub occurrences : WaitRef → List WaitRef → ℕ
occurrences t refs = count_by (is_ref t) refs

abbrev pub push_count : WaitRef → List Log → ℕ
push_count t views = sum_by (λ v. occurrences t v.pushes) views

abbrev pub pop_count : WaitRef → List Log → ℕ
pop_count t views = sum_by (λ v. occurrences t v.pops) views
