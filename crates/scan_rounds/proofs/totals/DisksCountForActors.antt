-- Disks beside the actors that they serve: what each has counted is what its actor has executed.
use Rattle.std.proofs.Common.{◌≡◌, ℕ, zero, suc, ◌+◌, ◌<◌, ◌≤◌, List, [], ◌∷◌, drop, map, length}
use Rattle.std.proofs.Common.{get_or, sum_by, Some, refl, ap, arith}
use Rattle.std.proofs.lemmas.List.Sums.{sum_by-cons}
use Rattle.std.specs.List.{All, AllZip}
use Rattle.page_check.specs.declared.world.World.{Ghosts as WorldGhosts}
use Rattle.aio_word.specs.declared.Known.{Known}
use Rattle.aio_word.specs.Tokens.{io_mark_count, failed_mark_count}
use Rattle.aio_handle.specs.Execution.{CountersFollowMarks, last_count}
use Rattle.aio_handle.specs.ContractViews.{TableView}
use Rattle.aio_disk.specs.declared.disk.Disk.{Ghosts as DiskGhosts}
use Rattle.scan_rounds.specs.DiskActors.{IsDiskActor}
use Rattle.scan_rounds.specs.Scans.{DiskCountersFollowMarks, disk_of, known_lists}
use Rattle.scan_rounds.specs.declared.disk_actor.DiskActor.{DiskActor}

module _ {W D : Type 0} (m : DiskGhosts D) (world : WorldGhosts W) where
  -- the disks before and after, with the actors that they served, place by place
  pub data CountedBy : List D → List D → List (DiskActor W D) → Type 0 where
    none : CountedBy [] [] []
    more : (o d : D) (h : DiskActor W D) (os ds : List D) (hs : List (DiskActor W D))
        → CountersFollowMarks (m.reads o) (m.reads d) (m.faults o) (m.faults d) h.actor.known.marks
        → (m.told d ≡ world.told) × (m.relations d ≡ world.relations)
        → CountedBy os ds hs → CountedBy (o ∷ os) (d ∷ ds) (h ∷ hs)

  pub all-counted : (t : TableView) (os ds : List D) (hs : List (DiskActor W D))
      → map Some ds ≡ map disk_of hs → AllZip (DiskCountersFollowMarks m) os hs
      → All (IsDiskActor m world t) hs → CountedBy os ds hs
  all-counted t [] [] [] are counters_are stand = none
  all-counted t (o ∷ os) (d ∷ ds) (h ∷ hs) are counters_are stand =
      let has : h.disk ≡ Some d = cc in
      let rest : map Some ds ≡ map disk_of hs = cc in
      let is = stand 0 h (omega arith) in
      let first = counters_are.0 in
      let is-d : d ≡ is.disk = (let e = is.held in cc) in
      let first-d : d ≡ first.disk = (let e = first.held in cc) in
      more o d h os ds hs (rw first-d first.counters_follow) (rw is-d is.tells)
      (all-counted t os ds hs rest counters_are.1 (λ k x lt. stand (suc k) x (omega arith)))
  all-counted t [] ds (h ∷ hs) are counters_are stand = absurd counters_are
  all-counted t (o ∷ os) ds [] are counters_are stand = absurd counters_are
  all-counted t [] (d ∷ ds) [] are counters_are stand = absurd (omega (arith, ap length are))
  all-counted t (o ∷ os) [] (h ∷ hs) are counters_are stand = absurd (omega (arith, ap length are))

  pub counted-lengths : (os ds : List D) (hs : List (DiskActor W D)) → CountedBy os ds hs
      → (length ds ≡ length os) × (length hs ≡ length ds)
  counted-lengths _ _ _ none = (refl, refl)
  counted-lengths _ _ _ (more o d h os ds hs counters_follow tells p) =
      let (a, b) = counted-lengths os ds hs p in (omega arith, omega arith)

  pub counted-tell : (os ds : List D) (hs : List (DiskActor W D)) → CountedBy os ds hs
      → All (λ (d : D). (m.told d ≡ world.told) × (m.relations d ≡ world.relations)) ds
  counted-tell _ _ _ none k x lt = absurd (omega arith)
  counted-tell _ _ _ (more o d h os ds hs counters_follow tells p) zero x lt = tells
  counted-tell _ _ _ (more o d h os ds hs counters_follow tells p) (suc k) x lt =
      counted-tell os ds hs p k x (omega arith)

  pub counted-reads : (os ds : List D) (hs : List (DiskActor W D)) → CountedBy os ds hs
      → All (λ (d : D). m.reads d < last_count) ds
      → sum_by (λ (h : DiskActor W D). io_mark_count h.actor.known.marks) hs + sum_by m.reads os
      ≡ sum_by m.reads ds
  counted-reads _ _ _ none below = refl
  counted-reads _ _ _ (more o d h os ds hs counters_follow tells p) below =
      let rest = counted-reads os ds hs p (λ k x lt. below (suc k) x (omega arith)) in
      let here = counters_follow.read_each (below 0 d (omega arith)) in
      omega (
        arith,
        sum_by-cons (λ (x : DiskActor W D). io_mark_count x.actor.known.marks) h hs,
        sum_by-cons m.reads o os,
        sum_by-cons m.reads d ds,
      )

  pub counted-faults : (os ds : List D) (hs : List (DiskActor W D)) → CountedBy os ds hs
      → All (λ (d : D). m.faults d < last_count) ds
      → sum_by (λ (h : DiskActor W D). failed_mark_count h.actor.known.marks) hs
      + sum_by m.faults os
      ≤ sum_by m.faults ds
  counted-faults _ _ _ none below = omega arith
  counted-faults _ _ _ (more o d h os ds hs counters_follow tells p) below =
      let rest = counted-faults os ds hs p (λ k x lt. below (suc k) x (omega arith)) in
      let here = counters_follow.fault_each (below 0 d (omega arith)) in
      omega (
        arith,
        sum_by-cons (λ (x : DiskActor W D). failed_mark_count x.actor.known.marks) h hs,
        sum_by-cons m.faults o os,
        sum_by-cons m.faults d ds,
      )

  pub counted-at : (os ds : List D) (hs : List (DiskActor W D)) → CountedBy os ds hs
      → (i : ℕ) (p : Known) (x : D) → i < length ds
      → CountersFollowMarks (m.reads (get_or os i x)) (m.reads (get_or ds i x))
      (m.faults (get_or os i x)) (m.faults (get_or ds i x)) (get_or (known_lists hs) i p).marks
  counted-at _ _ _ none i p x lt = absurd (omega arith)
  counted-at _ _ _ (more o d h os ds hs counters_follow tells q) zero p x lt = counters_follow
  counted-at _ _ _ (more o d h os ds hs counters_follow tells q) (suc i) p x lt =
      counted-at os ds hs q i p x (omega arith)

  -- those behind the first n
  pub counted-drop : (n : ℕ) (os ds : List D) (hs : List (DiskActor W D)) → CountedBy os ds hs
      → CountedBy (drop n os) (drop n ds) (drop n hs)
  counted-drop zero os ds hs p = p
  counted-drop (suc n) _ _ _ none = none
  counted-drop (suc n) _ _ _ (more o d h os ds hs counters_follow tells p) =
      counted-drop n os ds hs p
