-- The first backend has closed the queue.
use Rattle.std.proofs.Common.{◌≡◌, ℕ, ◌<◌, ◌≤◌, List, [], ◌∷◌, length, map, sum_by, sym, ap, ◌∙◌}
use Rattle.std.proofs.Common.{refl, subst, arith}
use Rattle.std.specs.Prelude.{Option, IfSome, is_some, slice_index_or, slice_set}
use Rattle.std.specs.List.{All}
use Rattle.std.proofs.lemmas.List.{get_or-map, length-map}
use Rattle.std.proofs.lemmas.List.Elements.{All-set}
use Rattle.page_check.specs.declared.world.World.{Ghosts as WorldGhosts}
use Rattle.page_check.specs.Told.{Told}
use Rattle.aio_handle.specs.ContractViews.{TableView}
use Rattle.method_worker.specs.QueueViews.{QueueView, IsSeatOf}
use Rattle.read_stream.specs.FailedReads.{MayBeUnread}
use Rattle.aio_disk.specs.declared.disk.Disk.{Ghosts as DiskGhosts}
use Rattle.scan_jobs.specs.BlockFilter.{BlockFilter}
use Rattle.scan_rounds.specs.DiskActors.{ActorHasRoom, IsBackend, backend_options}
use Rattle.scan_jobs.specs.Jobs.{JobIsListed}
use Rattle.scan_settings.specs.ListOptions.{ListOptions, list_options}
use Rattle.scan_settings.specs.declared.page_text.PageText.{PageText}
use Rattle.scan_rounds.specs.Rounds.{AllHaveOptions, AllJobsListed, IsLeastRoom, backend_disk_actor}
use Rattle.read_stream.specs.declared.desk.Desk.{Desk}
use Rattle.scan_rounds.specs.declared.backend.Backend.{Backend}
use Rattle.scan_rounds.specs.declared.disk_actor.DiskActor.{DiskActor}
use Rattle.scan_jobs.specs.declared.job.Job.{Job}
use Rattle.scan_jobs.proofs.Sums.{sum-mapped}

-- backends with the same actors and disks
module _ {W D : Type 0} where
  abbrev pub SameActors : List (Backend W D) → List (Backend W D) → Type 0
  SameActors cs ds = map backend_disk_actor ds ≡ map backend_disk_actor cs

  pub many_as : (cs ds : List (Backend W D)) → SameActors cs ds → length ds ≡ length cs
  many_as cs ds same = sym (length-map ds backend_disk_actor)
      ∙ (ap length same ∙ length-map cs backend_disk_actor)

  actor_as : (cs ds : List (Backend W D)) → SameActors cs ds → (i : ℕ) (d : Backend W D)
      → i < length cs → (slice_index_or cs i d).disk_actor ≡ (slice_index_or ds i d).disk_actor
  actor_as cs ds same i d lt =
      let inside : i < length ds = omega (arith, many_as cs ds same) in
      sym (get_or-map backend_disk_actor cs i d d.disk_actor lt)
      ∙ (ap (λ (hs : List (DiskActor W D)). slice_index_or hs i d.disk_actor) (sym same)
      ∙ get_or-map backend_disk_actor ds i d d.disk_actor inside)

  pub sum_as : (f : DiskActor W D → ℕ) (cs ds : List (Backend W D)) → SameActors cs ds
      → sum_by (λ (b : Backend W D). f b.disk_actor) ds
      ≡ sum_by (λ (b : Backend W D). f b.disk_actor) cs
  sum_as f cs ds same = sym (sum-mapped f backend_disk_actor ds)
      ∙ (ap (sum_by f) same ∙ sum-mapped f backend_disk_actor cs)

  pub all_as : (P : DiskActor W D → Type 0) (cs ds : List (Backend W D)) → SameActors cs ds
      → All (λ (b : Backend W D). P b.disk_actor) cs
      → All (λ (b : Backend W D). P b.disk_actor) ds
  all_as P cs ds same all i d lt =
      let inside : i < length cs = omega (arith, many_as cs ds same) in
      subst P (actor_as cs ds same i d inside) (all i d inside)

  pub least_as : (cs ds : List (Backend W D)) (room : ℕ) → SameActors cs ds → IsLeastRoom cs room
      → IsLeastRoom ds room
  least_as cs ds room same least = record {
    all_have_room = all_as (λ (h : DiskActor W D). ActorHasRoom room h.actor) cs ds same least.all_have_room;
    greatest = λ n have. least.greatest n
        (all_as (λ (h : DiskActor W D). ActorHasRoom n h.actor) ds cs (sym same) have);
  }

  -- what may be unread of what they have listed is the same
  pub listed_as : (block_filter : Option BlockFilter) (how : ListOptions) (told : Option Told)
      (bs cs ds : List (Backend W D)) (js ks : List Job) → length js ≤ length cs
      → SameActors cs ds → AllJobsListed block_filter how told bs cs js ks
      → AllJobsListed block_filter how told bs ds js ks
  listed_as block_filter how told bs cs ds js ks few same is = record {
    jobs_are = is.jobs_are;
    each = λ i d j lt.
        subst (λ (h : DiskActor W D). JobIsListed block_filter how told
        (MayBeUnread (slice_index_or bs i d).disk_actor.actor h.actor.known)
        (slice_index_or js i j) (slice_index_or ks i j)) (actor_as cs ds same i d (omega arith))
        (is.each i d j lt);
  }

  -- the first of them, which lists with the same options
  pub first_options : (bs : List (Backend W D)) (b c : Backend W D) → b ≡ slice_index_or bs 0 b
      → 1 ≤ length bs → c.desk ≡ b.desk → c.page_text ≡ b.page_text → (how : ListOptions)
      → AllHaveOptions how bs → AllHaveOptions how (slice_set bs 0 c)
  first_options bs b c is some desk text how all =
      let same = ap (λ (x : Desk W (Unit {0})). list_options x.settings.rules c.page_text) desk
      ∙ ap (λ (x : PageText). list_options b.desk.settings.rules x) text in
      All-set (λ (x : Backend W D). backend_options x ≡ how) bs 0 c
      (same ∙ (ap (λ (x : Backend W D). backend_options x) is ∙ all 0 b some)) all

  pub first_actor : (bs : List (Backend W D)) (b c : Backend W D) → b ≡ slice_index_or bs 0 b
      → c.disk_actor ≡ b.disk_actor → SameActors bs (slice_set bs 0 c)
  first_actor [] b c is same = refl
  first_actor (a ∷ bs) b c is same =
      ap (λ (h : DiskActor W D). h ∷ map backend_disk_actor bs)
      (same ∙ ap (λ (x : Backend W D). x.disk_actor) is)

module _ {W D : Type 0} (m : DiskGhosts D) (world : WorldGhosts W) (t : TableView)
    (q : QueueView) where
  -- its job and its seat are no part of what a backend has counted
  first_stands : (b c : Backend W D) → c.disk_actor ≡ b.disk_actor → c.desk ≡ b.desk
      → c.ring ≡ b.ring → IfSome c.seat (IsSeatOf q) → is_some c.seat ≡ is_some b.seat
      → IsBackend m world t q b → IsBackend m world t q c
  first_stands b c disk_actor desk ring seat kept is = record {
    disk_actor = rw disk_actor is.disk_actor;
    backend = rw disk_actor is.backend;
    desk = rw desk is.desk;
    seat = seat;
    has_seat = λ some. kept ∙ is.has_seat some;
    ring = rw ring is.ring;
  }

  -- the first of them has closed the queue
  module _ (bs : List (Backend W D)) (b c : Backend W D) (some : 1 ≤ length bs)
      (all : All (IsBackend m world t q) bs) (is : b ≡ slice_index_or bs 0 b)
      (disk_actor : c.disk_actor ≡ b.disk_actor) (desk : c.desk ≡ b.desk) (ring : c.ring ≡ b.ring)
      (seat : IfSome c.seat (IsSeatOf q)) (kept : is_some c.seat ≡ is_some b.seat) where
    pub all_stand : All (IsBackend m world t q) (slice_set bs 0 c)
    all_stand = All-set (IsBackend m world t q) bs 0 c
        (first_stands b c disk_actor desk ring seat kept
        (subst (IsBackend m world t q) (sym is) (all 0 b some)))
        all
