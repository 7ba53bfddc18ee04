-- Actors with their disks that went on, and went on again.
use Rattle.std.proofs.Common.{◌≡◌, ℕ, ◌+◌, ◌≤◌, List, [], ◌++◌, length, map, refl, sym, ap, ◌∙◌}
use Rattle.std.proofs.Common.{arith, append-nil, append_assoc}
use Rattle.std.specs.Prelude.{Option, Some, ⊤}
use Rattle.std.specs.List.{All, AllZip}
use Rattle.std.proofs.lemmas.List.{length-map}
use Rattle.page_check.specs.declared.world.World.{Ghosts as WorldGhosts}
use Rattle.aio_word.specs.declared.Mark.{Mark}
use Rattle.aio_word.proofs.MoreMarksKeep.{io-more, failed-more}
use Rattle.aio_handle.specs.Execution.{CountersFollowMarks}
use Rattle.aio_handle.specs.ContractViews.{TableView}
use Rattle.method_worker.specs.QueueViews.{QueueView}
use Rattle.aio_disk.specs.declared.disk.Disk.{Ghosts as DiskGhosts}
use Rattle.scan_rounds.specs.DiskActors.{IsBackend, IsDiskActor, DiskActorAdvanced, BackendAdvanced}
use Rattle.scan_rounds.specs.DiskActors.{backend_options}
use Rattle.scan_settings.specs.ListOptions.{ListOptions}
use Rattle.scan_rounds.specs.Rounds.{AllHaveOptions, IsLeastRoom, backend_disk_actor}
use Rattle.scan_rounds.specs.declared.disk_actor.DiskActor.{DiskActor}
use Rattle.scan_rounds.specs.declared.backend.Backend.{Backend}
use Rattle.scan_rounds.proofs.LeastRoom.{left_room}
use Rattle.scan_rounds.proofs.ListPairs.{zip-all, zip-at, zip-length, zip-map}

pub pays_then : (r s t f g h : ℕ) (ms more : List Mark) → CountersFollowMarks r s f g ms
    → CountersFollowMarks s t g h more → CountersFollowMarks r t f h (ms ++ more)
pays_then r s t f g h ms more a b = record {
  read_each = λ lt.
      let m = io-more ms more in
      let y = b.read_each lt in
      let x = a.read_each (omega arith) in omega arith;
  fault_each = λ lt.
      let m = failed-more ms more in
      let y = b.fault_each lt in
      let x = a.fault_each (omega arith) in omega arith;
}

pub some_same : {D : Type 0} (o : Option D) (d e : D) → o ≡ Some d → o ≡ Some e → d ≡ e
some_same o d e x y = cc

module _ {W D : Type 0} (m : DiskGhosts D) (world : WorldGhosts W)
    (t : TableView) where
  pub stays_put : (h : DiskActor W D) → IsDiskActor m world t h
      → DiskActorAdvanced m world t h h
  stays_put h is = record {
    same = (refl, refl, refl);
    more = [];
    marks = sym (append-nil h.actor.known.marks);
    before = is.disk;
    after = is.disk;
    had_disk = is.held;
    has_disk = is.held;
    counters_follow = record {
      read_each = λ below. omega arith;
      fault_each = λ below. omega arith;
    };
  }

  pub goes_then : (h k l : DiskActor W D) → DiskActorAdvanced m world t h k
      → DiskActorAdvanced m world t k l → DiskActorAdvanced m world t h l
  goes_then h k l a b =
      let one : a.after ≡ b.before = some_same k.disk a.after b.before a.has_disk b.had_disk in
      record {
        same = (b.same.0 ∙ a.same.0, b.same.1 ∙ a.same.1, b.same.2 ∙ a.same.2);
        more = a.more ++ b.more;
        marks = b.marks ∙ (ap (λ (ms : List Mark). ms ++ b.more) a.marks
            ∙ append_assoc h.actor.known.marks a.more b.more);
        before = a.before;
        after = b.after;
        had_disk = a.had_disk;
        has_disk = b.has_disk;
        counters_follow = pays_then _ _ _ _ _ _ a.more b.more a.counters_follow
            (rw one b.counters_follow);
      }

  pub many_actors : (bs cs : List (Backend W D))
      → AllZip (DiskActorAdvanced m world t) (map backend_disk_actor bs)
      (map backend_disk_actor cs) → length cs ≡ length bs
  many_actors bs cs all =
      let same = zip-length (DiskActorAdvanced m world t) _ _ all in
      omega (arith, same, length-map cs backend_disk_actor, length-map bs backend_disk_actor)

  module _ (q : QueueView) where
    pub backend_stays : (most : ℕ) (b : Backend W D) → IsBackend m world t q b
        → BackendAdvanced m world t q most b b
    backend_stays most b is = record {
      is = is;
      advanced = stays_put b.disk_actor is.disk_actor;
      lives_bound = λ h. omega arith;
      options_same = refl;
    }

    -- what backends that went on are then
    module _ (most : ℕ) (bs cs : List (Backend W D))
        (all : AllZip (BackendAdvanced m world t q most) bs cs) where
      pub actors_advanced : AllZip (DiskActorAdvanced m world t)
          (map backend_disk_actor bs) (map backend_disk_actor cs)
      actors_advanced = zip-map (BackendAdvanced m world t q most)
          (DiskActorAdvanced m world t) backend_disk_actor backend_disk_actor
          (λ b c went. went.advanced) bs cs all

      pub still_backends : All (IsBackend m world t q) cs
      still_backends = zip-all (BackendAdvanced m world t q most) (λ b. ⊤)
          (IsBackend m world t q) (λ b c went _. went.is) bs cs all (λ i d lt. tt)

      pub options_kept : (how : ListOptions) → AllHaveOptions how bs → AllHaveOptions how cs
      options_kept how = zip-all (BackendAdvanced m world t q most)
          (λ (b : Backend W D). backend_options b ≡ how)
          (λ (b : Backend W D). backend_options b ≡ how) (λ b c went is. went.options_same ∙ is) bs cs all

      pub backends_many : length cs ≡ length bs
      backends_many = zip-length (BackendAdvanced m world t q most) bs cs all

      pub room_falls : (n k : ℕ) → All (IsBackend m world t q) bs → IsLeastRoom bs n
          → IsLeastRoom cs k → n ≤ k + most
      room_falls n k backends before after = left_room most n k bs cs backends_many
          (λ i d lt. (let went = zip-at (BackendAdvanced m world t q most) bs cs i d d all
          lt in (went.advanced.same, (backends i d lt).backend, went.lives_bound)))
          before.all_have_room after
