-- A reader, between two calls.
use Rattle.std.specs.Prelude.{◌≡◌, ℕ, ◌<◌, Option, Some, None}
use Rattle.page_check.specs.declared.rules.PageRules.{PageRules}
use Rattle.page_check.specs.declared.world.World.{Ghosts as WorldGhosts}
use Rattle.aio_disk.specs.declared.disk.Disk.{Ghosts as DiskGhosts}
use Rattle.aio_word.specs.Events.{actor_count}
use Rattle.aio_handle.specs.ContractViews.{TableView, ActorView, IsActorOf}
use Rattle.aio_handle.specs.EndStates.{HasNoOwnerTokens}
use Rattle.aio_handle.specs.FreeHandles.{IsRoom}
use Rattle.read_stream.specs.Desks.{IsFreeDesk}
use Rattle.read_stream.specs.declared.desk.Desk.{Desk}

-- a reader, as its callers see it
pub record ReaderView : Type 0 where
  pub rules : PageRules
  -- how many blocks it may still be asked for
  pub room : ℕ
  -- how often a read of its disk has failed
  pub faults : ℕ

-- the disk tells what the World does
abbrev pub TellsWorld : {W D : Type 0} → DiskGhosts D → WorldGhosts W → D → Type 0
TellsWorld disk world d = (disk.told d ≡ world.told) × (disk.relations d ≡ world.relations)

-- the World of a reader that is opened over this disk
abbrev pub IsReaderWorld : {W D : Type 0} → DiskGhosts D → WorldGhosts W → D → Type 0
IsReaderWorld disk world d = (world.handles ≡ 64) × TellsWorld disk world d

-- the one backend of the table is at rest
pub record IsAtRest (table : TableView) (actor : ActorView) : Type 0 where
  pub of : IsActorOf table actor
  pub alone : actor_count actor.known.config ≡ 1
  pub backend : actor.known.number < actor.known.config.backends
  pub no_owner_tokens : HasNoOwnerTokens actor.known

-- how often a read of the disk has failed
abbrev pub faults_of : {D : Type 0} → DiskGhosts D → Option D → ℕ
faults_of disk None = 0
faults_of disk (Some d) = disk.faults d

-- no reading is under way, and each handle has so many lives left
pub record IsReader {W D : Type 0} (disks : DiskGhosts D) (world : WorldGhosts W) (table : TableView)
    (actor : ActorView) (desk : Desk W (Unit {0})) (disk : Option D) (room : ℕ) : Type 0 where
  pub at_rest : IsAtRest table actor
  pub lives : IsRoom actor.known.config actor.known room
  pub free_desk : IsFreeDesk desk
  pub has_disk : (d : D) × (disk ≡ Some d) × TellsWorld disks world d
