-- Records and tokens that move between the caller and the I/Os of a stream.
use Rattle.std.proofs.Common.{◌≡◌, ◌+◌, ◌<◌, ◌≤◌, List, [], ◌∷◌, ◌++◌, length, drop, refl}
use Rattle.std.proofs.Common.{sym, ap, ◌∙◌, arith, subst, inl, inr, ⊎_elim, length-append}
use Rattle.std.specs.Prelude.{Some, None, slice_get}
use Rattle.page_check.specs.declared.world.World.{Ghosts as WorldGhosts}
use Rattle.aio_word.specs.declared.Known.{Known}
use Rattle.aio_word.specs.declared.WaitRef.{WaitRef}
use Rattle.aio_word.specs.Stands.{IsIn}
use Rattle.aio_word.proofs.ReplacedElement.{in-append, in-left, in-right}
use Rattle.aio_callback.specs.ReadIoView.{ReadIoView}
use Rattle.circular_buffer.specs.Buffer.{Buffer, buffer}
use Rattle.read_stream.specs.declared.reads.EndedRead.{EndedRead}
use Rattle.read_stream.specs.declared.reads.Reads.{Reads}
use Rattle.read_stream.specs.declared.scope.Scope.{Scope}
use Rattle.read_stream.specs.StreamIos.{Issued, HeldByCaller, AllStreamIos, AreStreamRecords}
use Rattle.read_stream.specs.StreamIos.{IsTakenIn, staged_references, record_count}
use Rattle.read_stream.proofs.PushedList.{each-pushed}

-- the first of a list, and what is behind it
pub first-of : {X : Type 0} (xs : List X) (x : X) → slice_get xs 0 ≡ Some x → xs ≡ x ∷ drop 1 xs
first-of [] x e = absurd (cc)
first-of (y ∷ xs) x e = let h : y ≡ x = cc in ap (λ z. z ∷ xs) h

pub nothing-of : {X : Type 0} (xs : List X) → slice_get xs 0 ≡ None → xs ≡ []
nothing-of [] e = refl
nothing-of (y ∷ xs) e = absurd (cc)

-- a queue that had nothing to give is as it was
pub same-queue : {X : Type 0} (b b' : Buffer X) → b' ≡ buffer (drop 1 b.items) b.capacity
    → b.items ≡ [] → b' ≡ b
same-queue {X} b b' e none = e ∙ (ap (λ (z : List X). buffer (drop 1 z) b.capacity) none
    ∙ ap (λ (z : List X). buffer z b.capacity) (sym none))

in-moved : (x t : WaitRef) (bs ts : List WaitRef) → IsIn x (bs ++ (t ∷ ts))
    → IsIn x ((t ∷ []) ++ bs ++ ts)
in-moved x t bs ts i = ⊎_elim (λ l. inr (in-left x bs ts l))
    (λ r. ⊎_elim (λ e. inl e) (λ l. inr (in-right x bs ts l)) r) (in-append x bs (t ∷ ts) i)

module _ {W : Type 0} (c : Scope W) (world : WorldGhosts W) (p : Known) (s : Reads W)
  where
    -- other records are free, or have ended
    pub issued-records : (free : List ReadIoView) (ended : List EndedRead)
        → length free + length s.batch + length s.in_flight.items + length ended ≤ c.total.value
        → AreStreamRecords c world p free ended → Issued c world p s
        → Issued c world p (record s {
          free = buffer free s.free.capacity;
          ended = buffer ended s.ended.capacity;
        })
    issued-records free ended few records i = record {
      room = i.room;
      count_within = few;
      within_most = i.within_most;
      actor = i.actor;
      records = records;
      tokens = i.tokens;
    }

    -- the oldest read that has ended is taken out
    pub less-ended : (r : EndedRead) → slice_get s.ended.items 0 ≡ Some r
        → Issued c world p s
        → Issued c world p (record s {
          ended = buffer (drop 1 s.ended.items) s.ended.capacity;
        }) × IsTakenIn c world p r.io
        × (length s.ended.items ≡ length (drop 1 s.ended.items) + 1)
    less-ended r at i =
        let first = first-of s.ended.items r at in
        let whole : length s.ended.items ≡ length (r ∷ drop 1 s.ended.items) =
        ap (λ (z : List EndedRead). length z) first in
        let few = i.count_within in (
          issued-records s.free.items (drop 1 s.ended.items) (omega arith) (record {
            free = i.records.free;
            ended_records = λ x j. i.records.ended_records x (rw first (inr j));
          }) i,
          i.records.ended_records r (rw first (inl refl)),
          omega arith,
        )

    -- the oldest token in flight is taken out
    pub less-in-flight : (t : WaitRef) → slice_get s.in_flight.items 0 ≡ Some t
        → Issued c world p s
        → HeldByCaller c world p (record s {
          in_flight = buffer (drop 1 s.in_flight.items) s.in_flight.capacity;
        }) t
    less-in-flight t at i =
        let rest : List WaitRef = drop 1 s.in_flight.items in
        let first = first-of s.in_flight.items t at in
        let whole : length s.in_flight.items ≡ length (t ∷ rest) =
        ap (λ (z : List WaitRef). length z) first in
        let stream_ios : AllStreamIos c p (t ∷ rest) =
        subst (λ (z : List WaitRef). AllStreamIos c p z) first i.tokens.stream_ios in
        let few = i.count_within in
        let most = i.within_most in
        record {
          issued = record {
            room = i.room;
            count_within = omega arith;
            within_most = omega arith;
            actor = i.actor;
            records = i.records;
            tokens = record {
              staged_tokens = i.tokens.staged_tokens;
              staged_ios = i.tokens.staged_ios;
              stream_ios = stream_ios.2;
              unreclaimed_ios = λ x. ⊎_elim (λ over. inl over)
                  (λ j. inr (in-moved x t (staged_references s.batch) rest
                  (subst (λ (z : List WaitRef). IsIn x (staged_references s.batch ++ z)) first j)))
                  (i.tokens.unreclaimed_ios x);
            };
          };
          stream_ios = stream_ios.0;
          apart = stream_ios.1;
        }

    -- a record is kept with its pages
    pub more-ended : (r : EndedRead) → record_count s < c.total.value → IsTakenIn c world p r.io
        → Issued c world p s
        → Issued c world p (record s {
          ended = buffer (s.ended.items ++ r ∷ []) s.ended.capacity;
        })
    more-ended r room new i =
        let more = length-append s.ended.items (r ∷ []) in
        issued-records s.free.items (s.ended.items ++ r ∷ []) (omega arith) (record {
          free = i.records.free;
          ended_records = each-pushed (λ x. IsTakenIn c world p x.io) s.ended.items r
              i.records.ended_records new;
        }) i

    -- a record that was read at once is kept before the others
    pub front-ended : (r : EndedRead) → record_count s < c.total.value → IsTakenIn c world p r.io
        → Issued c world p s
        → Issued c world p (record s {
          ended = buffer (r ∷ s.ended.items) s.ended.capacity;
        })
    front-ended r room new i =
        issued-records s.free.items (r ∷ s.ended.items) (omega arith) (record {
          free = i.records.free;
          ended_records = λ x j. ⊎_elim
              (λ is. subst (λ (z : EndedRead). IsTakenIn c world p z.io) is new)
              (λ behind. i.records.ended_records x behind) j;
        }) i

    -- a record is free again
    pub more-free : (r : ReadIoView) → record_count s < c.total.value → length r.pages ≡ c.combine
        → Issued c world p s
        → Issued c world p (record s {
          free = buffer (r ∷ s.free.items) s.free.capacity;
        })
    more-free r room new i =
        issued-records (r ∷ s.free.items) s.ended.items (omega arith) (record {
          free = λ x j. ⊎_elim (λ is. ap (λ (z : ReadIoView). length z.pages) (sym is) ∙ new)
              (λ in_free. i.records.free x in_free) j;
          ended_records = i.records.ended_records;
        }) i

    -- a free record is taken
    pub less-free : (r : ReadIoView) → slice_get s.free.items 0 ≡ Some r
        → Issued c world p s
        → Issued c world p (record s {
          free = buffer (drop 1 s.free.items) s.free.capacity;
        }) × (length r.pages ≡ c.combine)
        × (length s.free.items ≡ length (drop 1 s.free.items) + 1)
    less-free r at i =
        let first = first-of s.free.items r at in
        let whole : length s.free.items ≡ length (r ∷ drop 1 s.free.items) =
        ap (λ (z : List ReadIoView). length z) first in
        let few = i.count_within in (
          issued-records (drop 1 s.free.items) s.ended.items (omega arith) (record {
            free = λ x j. i.records.free x (rw first (inr j));
            ended_records = i.records.ended_records;
          }) i,
          i.records.free r (rw first (inl refl)),
          omega arith,
        )
