-- Records that were taken in, over what the actor does later.
use Rattle.std.proofs.Common.{◌≡◌, ℕ, List, ◌++◌}
use Rattle.page_check.specs.declared.world.World.{Ghosts as WorldGhosts}
use Rattle.aio_word.specs.declared.Kind.TheVariants as kind
use Rattle.aio_word.specs.declared.Known.{Known}
use Rattle.aio_word.specs.declared.Mark.{Mark}
use Rattle.aio_word.specs.Events.{make_mark}
use Rattle.aio_callback.specs.ReadIoView.{ReadIoView, record_aim}
use Rattle.aio_word.specs.declared.WaitRef.{WaitRef}
use Rattle.aio_word.specs.Stands.{IsIn}
use Rattle.aio_callback.specs.Finishes.{record_reference}
use Rattle.read_stream.specs.declared.scope.Scope.{Scope}
use Rattle.read_stream.specs.StreamIos.{IsTakenIn, known_at_open}
use Rattle.read_stream.proofs.ActorAdvancedLaws.{since_grown}
use Rattle.read_stream.proofs.OwnerCountsKept.{OwnerCountsUnchanged}

module _ {W : Type 0} (c : Scope W) where
  pub taken-grown : (world : WorldGhosts W) (p q : Known) (more : List Mark)
      (r : ReadIoView) → q.marks ≡ p.marks ++ more
      → ((e : WaitRef × List ℕ) → IsIn e p.aims → IsIn e q.aims)
      → IsTakenIn c world p r → IsTakenIn c world q r
  taken-grown world p q more r grown aims k = record {
    fits = k.fits;
    has_ended = k.has_ended;
    is_stream_record = k.is_stream_record;
    was_submitted = aims (record_reference r, record_aim r) k.was_submitted;
    local_mark = since_grown (known_at_open c) p q
        (make_mark (record_reference r) (kind.Local r.label.ended))
        more grown k.local_mark;
    io_mark_if_alone = λ one. since_grown (known_at_open c) p q
        (make_mark (record_reference r) (kind.Io r.label.ended)) more grown (k.io_mark_if_alone
        one);
  }

  pub taken-later : (world : WorldGhosts W) (p q : Known) (r : ReadIoView)
      → OwnerCountsUnchanged p q → IsTakenIn c world p r → IsTakenIn c world q r
  taken-later world p q r i k =
      taken-grown world p q i.more r i.grown i.aims k
