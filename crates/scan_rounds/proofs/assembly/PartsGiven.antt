-- The parts of backends and workers, and what was made of them.
use Rattle.std.proofs.Common.{◌≡◌, ℕ, zero, suc, ◌+◌, ◌-◌, ◌<◌, List, [], ◌∷◌, ◌++◌, length}
use Rattle.std.proofs.Common.{refl, sym, ap, ◌∙◌, subst, arith, length-append}
use Rattle.std.specs.Prelude.{Option, Some, None, IfSome, drop, slice_get, slice_index_or}
use Rattle.std.specs.List.{All}
use Rattle.std.specs.Vec.Iter.{into_iter_items}
use Rattle.std.proofs.lemmas.List.{drop-drop, length-drop}
use Rattle.std.proofs.lemmas.Option.{get_or_from_slice_get, slice_get_within}
use Rattle.read_stream.specs.Desks.{IsFreeDesk, desk_settings}
use Rattle.read_stream.specs.declared.desk.Desk.{Desk}
use Rattle.read_stream.specs.declared.desk.Settings.{Settings}
use Rattle.scan_rounds.specs.OpenedScan.{AreStreamSettings, IsDeskFor, IsDiskActorOf, IsBackendOf}
use Rattle.scan_rounds.specs.OpenedScan.{IsWorkerOf, IsLeftByWorkers, IsLeftByBackends}
use Rattle.scan_rounds.specs.OpenedScan.{GivesBackends, GivesWorkers}
use Rattle.scan_rounds.specs.declared.backend.Backend.{Backend}
use Rattle.scan_rounds.specs.declared.disk_actor.DiskActor.{DiskActor}
use Rattle.scan_rounds.specs.declared.open.Parts.{Parts}
use Rattle.scan_settings.specs.declared.page_text.PageText.{PageText}
use Rattle.scan_settings.specs.declared.settings.ScanSettings.{ScanSettings}
use Rattle.scan_rounds.specs.declared.worker.Worker.{Worker}

module _ {A : Type 0} where
  -- what stands behind the first n
  at_drop : (n : ℕ) (l : List A) (k : ℕ) → slice_get (drop n l) k ≡ slice_get l (n + k)
  at_drop zero l k = let e : 0 + k ≡ k = omega arith in ap (slice_get l) (sym e)
  at_drop (suc n) [] k = refl
  at_drop (suc n) (x ∷ l) k =
      let e : suc n + k ≡ suc (n + k) = omega arith in
      at_drop n l k ∙ ap (slice_get (x ∷ l)) (sym e)

  pub behind : (l rest : List A) (n k i : ℕ) (o : Option A) → rest ≡ drop n l → n + k ≡ i
      → slice_get rest k ≡ o → slice_get l i ≡ o
  behind l rest n k i o left at is =
      ap (slice_get l) (sym at) ∙ sym (at_drop n l k)
      ∙ ap (λ (z : List A). slice_get z k) (sym left) ∙ is

  dropped_more : (l rest end : List A) (n m : ℕ) → rest ≡ drop n l → end ≡ drop 1 rest → n + 1 ≡ m
      → end ≡ drop m l
  dropped_more l rest end n m left more is =
      more ∙ ap (drop 1) left ∙ drop-drop 1 n l ∙ ap (λ (k : ℕ). drop k l) is

  left_count : (l rest : List A) (n : ℕ) → rest ≡ drop n l → length rest ≡ length l - n
  left_count l rest n left = ap length left ∙ length-drop n l

  -- what holds of each element and its place also holds with one more behind them
  each_more : (P : ℕ → A → Type 0) (xs : List A) (a : A)
      → ((k : ℕ) (d : A) → k < length xs → P k (slice_index_or xs k d)) → P (length xs) a
      → (k : ℕ) (d : A) → k < length (xs ++ a ∷ []) → P k (slice_index_or (xs ++ a ∷ []) k d)
  each_more P [] a each last zero d lt = last
  each_more P [] a each last (suc k) d lt = absurd (omega arith)
  each_more P (x ∷ xs) a each last zero d lt = each 0 d (omega arith)
  each_more P (x ∷ xs) a each last (suc k) d lt =
      each_more (λ n. P (suc n)) xs a (λ n e le. each (suc n) e (omega arith)) last k d
      (omega arith)

  pub there : (l : List A) (k : ℕ) → k < length l → (a : A) × (slice_get l k ≡ Some a)
  there [] k lt = absurd (omega (arith, lt))
  there (x ∷ l) zero lt = (x, refl)
  there (x ∷ l) (suc k) lt = there l k (omega (arith, lt))

  -- an element of which all is said
  pub all_at : (P : A → Type 0) (l : List A) (k : ℕ) (a : A) → All P l → slice_get l k ≡ Some a
      → P a
  all_at P l k a each is =
      subst P (get_or_from_slice_get l k a a is) (each k a (slice_get_within l k a is))

  pub some_at : (P : A → Type 0) (l : List A) (k : ℕ) (o : Option A) → All P l → slice_get l k ≡ o
      → IfSome o P
  some_at P l k None each is = tt
  some_at P l k (Some a) each is = all_at P l k a each is

pub desk_for : {W : Type 0} (s : ScanSettings) (r : Settings) (d : Desk W (Unit {0})) → IsFreeDesk d
    → desk_settings d ≡ r → AreStreamSettings s r → IsDeskFor s d
desk_for s r d free same streams = record {
  free = free;
  streams = subst (λ (z : Settings). AreStreamSettings s z) (sym same) streams;
}

module _ {W D : Type 0} where
  module _ (p q r : Parts W D) (n : ℕ) (left : IsLeftByWorkers n p q) where
    pub disk_actor_behind : (k i : ℕ) (h : DiskActor W D) → n + k ≡ i → IsDiskActorOf q k h
        → IsDiskActorOf p i h
    disk_actor_behind k i h at is = record {
      actor = behind _ _ n k i _ left.actors at is.actor;
      disk = behind _ _ n k i _ left.disks at is.disk;
    }

    left_more : IsLeftByWorkers 1 q r → (m : ℕ) → n + 1 ≡ m → IsLeftByWorkers m p r
    left_more more m is = record {
      actors = dropped_more _ _ _ n m left.actors more.actors is;
      disks = dropped_more _ _ _ n m left.disks more.disks is;
      seats = dropped_more _ _ _ n m left.seats more.seats is;
    }

  module _ (p q r : Parts W D) where
    -- one more at the end of the list
    pub backends_more : (page_text : PageText) (bs all : List (Backend W D)) (b : Backend W D)
        → all ≡ bs ++ b ∷ [] → GivesBackends page_text p q bs → IsBackendOf page_text q 0 b
        → IsLeftByBackends 1 q r → GivesBackends page_text p r all
    backends_more page_text bs all b e g is left =
        let n : ℕ = length bs in
        let others = g.left_are.others in
        let at : n + 0 ≡ n = omega arith in
        let many : n + 1 ≡ length (bs ++ b ∷ []) = sym (length-append bs (b ∷ [])) in
        subst (λ (l : List (Backend W D)). GivesBackends page_text p r l) (sym e) record {
          each = each_more (λ k c. IsBackendOf page_text p k c) bs b g.each record {
            disk_actor = disk_actor_behind p q r n others 0 n b.disk_actor at is.disk_actor;
            desk = behind _ _ n 0 n _ g.left_are.desks at is.desk;
            seat = behind _ _ n 0 n _ others.seats at is.seat;
            ring = behind _ _ n 0 n _ g.left_are.rings at is.ring;
            page_text_is = is.page_text_is;
          };
          left_are = record {
            others = left_more p q r n others left.others _ many;
            desks = dropped_more _ _ _ n _ g.left_are.desks left.desks many;
            rings = dropped_more _ _ _ n _ g.left_are.rings left.rings many;
          };
        }

    pub workers_more : (ws all : List (Worker W D)) (w : Worker W D) → all ≡ ws ++ w ∷ []
        → GivesWorkers p q ws → IsWorkerOf q 0 w → IsLeftByWorkers 1 q r → GivesWorkers p r all
    workers_more ws all w e g is left =
        let n : ℕ = length ws in
        let at : n + 0 ≡ n = omega arith in
        let many : n + 1 ≡ length (ws ++ w ∷ []) = sym (length-append ws (w ∷ [])) in
        subst (λ (l : List (Worker W D)). GivesWorkers p r l) (sym e) record {
          each = each_more (λ k v. IsWorkerOf p k v) ws w g.each record {
            disk_actor = disk_actor_behind p q r n g.left_are 0 n w.disk_actor at is.disk_actor;
            seat = behind _ _ n 0 n _ g.left_are.seats at is.seat;
          };
          left_are = left_more p q r n g.left_are left _ many;
        }

  -- how many actors, seats and desks are left
  pub left_by_workers : (p r : Parts W D) (n : ℕ) → IsLeftByWorkers n p r
      → (length (into_iter_items r.actors) ≡ length (into_iter_items p.actors) - n)
      × (length (into_iter_items r.seats) ≡ length (into_iter_items p.seats) - n)
  left_by_workers p r n left = (left_count _ _ n left.actors, left_count _ _ n left.seats)

  pub left_by_backends : (p r : Parts W D) (n : ℕ) → IsLeftByBackends n p r
      → length (into_iter_items r.desks) ≡ length (into_iter_items p.desks) - n
  left_by_backends p r n left = left_count _ _ n left.desks

  pub no_backends : (page_text : PageText) (p : Parts W D) → GivesBackends page_text p p []
  no_backends page_text p = record {
    each = λ k b lt. absurd (omega (arith, lt));
    left_are = record {
      others = record { actors = refl; disks = refl; seats = refl };
      desks = refl;
      rings = refl;
    };
  }

  pub no_workers : (p : Parts W D) → GivesWorkers p p []
  no_workers p = record {
    each = λ k w lt. absurd (omega (arith, lt));
    left_are = record { actors = refl; disks = refl; seats = refl };
  }
