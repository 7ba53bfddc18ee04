-- A stream's actor has a free handle where it needs one.
use Rattle.std.proofs.Common.{◌≡◌, ℕ, ◌<◌, List, [], ◌++◌, sym, ◌∙◌, subst, arith, ⊎_elim}
use Rattle.page_check.specs.declared.world.World.{Ghosts as WorldGhosts}
use Rattle.aio_word.specs.declared.Config.{Config}
use Rattle.aio_word.specs.declared.Known.{Known}
use Rattle.aio_word.specs.declared.WaitRef.{WaitRef}
use Rattle.aio_word.specs.Events.{wait_ref}
use Rattle.aio_word.specs.Stands.{IsIn}
use Rattle.aio_handle.specs.FreeHandles.{HasNoneFree, IsRoom}
use Rattle.aio_handle.specs.CallEvents.{generation_of}
use Rattle.aio_callback.specs.ReadIoView.{ReadIoView}
use Rattle.read_stream.specs.declared.reads.Reads.{Reads}
use Rattle.read_stream.specs.declared.scope.Scope.{Scope}
use Rattle.read_stream.specs.StreamIos.{Issued, HasIdleHandle, staged_references, known_at_open}
use Rattle.read_stream.specs.StreamIos.{ios_started}

module _ {W : Type 0} (c : Scope W) (world : WorldGhosts W) (k : Config) (p : Known)
    (s : Reads W) (same : c.was.value.known.config ≡ k) (i : Issued c world p s) where
  abbrev room : IsRoom k (known_at_open c) c.most.value
  room = subst (λ (z : Config). IsRoom z (known_at_open c) c.most.value) same i.actor.room_was

  -- with no I/O staged or in flight, each handle is in the middle of no life
  pub idle-at-rest : p.number < k.backends → s.batch ≡ [] → s.in_flight.items ≡ []
      → HasIdleHandle k p
  idle-at-rest backend batch in_flight =
      let (h, inside, own, full) =
      room.exact (subst (λ (z : ℕ). z < k.backends) i.actor.number backend) in
      let t : WaitRef = wait_ref h (generation_of k p h) in
      record {
        handle = h;
        in_range = inside;
        is_own = i.actor.number ∙ own;
        not_in_use = λ amid. ⊎_elim
            (λ over. let (defined, reclaimed) = amid in omega arith)
            (λ j. absurd (subst (λ (z : List WaitRef). IsIn t z) in_flight
            (subst (λ (z : List (WaitRef × ReadIoView)). IsIn t (staged_references z
            ++ s.in_flight.items))
            batch j)))
            (i.tokens.unreclaimed_ios t);
      }

  -- fewer lives ended than each handle could have: so one that is idle is free
  pub handle_is_free : ios_started s < c.most.value → HasIdleHandle k p → HasNoneFree k p → ⊥
  handle_is_free few idle none =
      let left = room.for_each idle.handle idle.in_range (sym i.actor.number ∙ idle.is_own) in
      let lived = i.actor.lives_bound idle.handle in
      ⊎_elim (λ last. omega arith) (λ amid. idle.not_in_use amid)
      (none idle.handle idle.in_range idle.is_own)
