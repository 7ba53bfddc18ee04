-- A stream that was just opened.
use Rattle.std.proofs.Common.{◌≡◌, ℕ, ◌^◌, ◌<◌, ◌≤◌, List, [], length, refl, sym, ap}
use Rattle.std.proofs.Common.{arith, append-nil, inl}
use Rattle.page_check.specs.SynchronousAnswer.{Reading, Known as KnownReader, Unknown, IfKnown}
use Rattle.page_check.specs.declared.world.World.{Ghosts as WorldGhosts}
use Rattle.page_check.specs.SynchronousAnswer.{Reader}
use Rattle.aio_word.specs.declared.WaitRef.{WaitRef}
use Rattle.aio_word.specs.declared.Known.{Known}
use Rattle.aio_handle.specs.FreeHandles.{IsRoom}
use Rattle.aio_handle.specs.EndStates.{HasNoOwnerTokens}
use Rattle.aio_callback.specs.ReadIoView.{ReadIoView}
use Rattle.read_stream.specs.declared.reads.EndedRead.{EndedRead}
use Rattle.read_stream.specs.declared.reads.Reads.{Reads}
use Rattle.read_stream.specs.declared.scope.Scope.{Scope}
use Rattle.read_stream.specs.StreamIos.{Issued, AllRecordsFree, IsStreamRecord, IsNewIncarnation}
use Rattle.read_stream.specs.StreamIos.{IsTakenIn, known_at_open}
use Rattle.read_stream.proofs.PushedList.{each-none}

module _ {W : Type 0} where
  abbrev pub reset_reads : Reads W → Reads W
  reset_reads r = record r { taken_in = 0 }

  pub new-stream-issued : (c : Scope W) (world : WorldGhosts W) (r : Reads W)
      → AllRecordsFree c.combine c.total.value r → HasNoOwnerTokens (known_at_open c)
      → c.most.value < 2 ^ 58
      → IsRoom c.was.value.known.config (known_at_open c) c.most.value
      → Issued c world (known_at_open c) (reset_reads r)
  new-stream-issued c world r ready rest small room =
      let p : Known = known_at_open c in
      let b : length r.batch ≡ 0 =
      ap (λ (z : List (WaitRef × ReadIoView)). length z) ready.batch in
      let f : length r.in_flight.items ≡ 0 =
      ap (λ (z : List WaitRef). length z) ready.in_flight in
      let e : length r.ended.items ≡ 0 = ap (λ (z : List EndedRead). length z) ready.ended in
      record {
        room = ready.has_room;
        count_within = let n = ready.free_count in omega arith;
        within_most = omega arith;
        actor = record {
          number = refl;
          config = refl;
          nothing_handed_out = rest.0;
          most_in_range = small;
          room_was = room;
          taken_in_count = omega arith;
          lives_bound = λ h. omega arith;
          marks_since_open = ([], sym (append-nil p.marks));
        };
        records = record {
          free = ready.free;
          ended_records = each-none (λ x. IsTakenIn c world p x.io) r.ended.items ready.ended;
        };
        tokens = record {
          staged_tokens = rw ready.batch tt;
          staged_ios = each-none (λ x. IsStreamRecord c x.1 × IsNewIncarnation c x.0) r.batch
              ready.batch;
          stream_ios = rw ready.in_flight tt;
          unreclaimed_ios = λ t. inl (rest.1 t);
        };
      }

-- nothing was given, and so all of it can be read
pub none-given : (found : Reading) (f : Reader → ℕ) → IfKnown found (λ r. 0 ≤ f r)
none-given (Unknown rules) f = tt
none-given (KnownReader r) f = omega arith
