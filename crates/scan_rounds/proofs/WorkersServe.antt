-- What a worker may do, and what it is afterwards.
use Rattle.page_check.specs.declared.world.World.{Ghosts as WorldGhosts}
use Rattle.aio_handle.specs.ContractViews.{TableView}
use Rattle.method_worker.specs.QueueViews.{QueueView}
use Rattle.aio_disk.specs.declared.disk.Disk.{Ghosts as DiskGhosts}
use Rattle.scan_rounds.specs.DiskActors.{IsWorker, WorkerMayServe}
use Rattle.scan_rounds.specs.declared.worker.Worker.{Worker}
use Rattle.std.proofs.Common.{ℕ, [], ◌∙◌, arith}
use Rattle.aio_word.specs.declared.Known.{Known}
use Rattle.aio_word.proofs.MoreMarksKeep.{mark_count-more}
use Rattle.aio_handle.specs.EndStates.{HasNoOwnerTokens}
use Rattle.aio_handle.specs.Execution.{ExecutesAll}

module _ {W D : Type 0} (m : DiskGhosts D) (world : WorldGhosts W) (t : TableView)
    (q : QueueView) where
  pub is_worker : (w : Worker W D) → WorkerMayServe m world t q w
      → IsWorker m world t q w
  unfolding WorkerMayServe
  is_worker w may = may

  pub may_serve : (w : Worker W D) → IsWorker m world t q w
      → WorkerMayServe m world t q w
  unfolding WorkerMayServe
  may_serve w is = is

-- an actor that only took up I/Os of others stays at rest
pub rests_worked : (p q : Known) (s t g h : ℕ) → HasNoOwnerTokens p → ExecutesAll [] p q s t g h
    → HasNoOwnerTokens q
rests_worked p q s t g h rest w = (
  w.grows.out ∙ rest.0,
  λ t. let none = w.claims_completed.owners t in
      let over = rest.1 t in
      let d = mark_count-more t 0 p.marks w.more in
      let r = mark_count-more t 7 p.marks w.more in
      let marks = w.grows.marks in
      rw marks (omega arith),
)
