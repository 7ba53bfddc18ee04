-- An I/O of a stream that was waited for, taken and reclaimed.
use Rattle.std.proofs.Common.{◌≡◌, ◌≢◌, ℕ, ◌+◌, ◌*◌, ◌<◌, ◌≤◌, List, [], ◌∷◌, ◌++◌, length, refl}
use Rattle.std.proofs.Common.{sym, ap, ◌∙◌, arith, append_assoc, subst, inl, inr, ⊎_elim, false}
use Rattle.page_check.specs.declared.world.World.{Ghosts as WorldGhosts}
use Rattle.aio_word.specs.declared.Class.{Class}
use Rattle.aio_word.specs.declared.Config.{Config}
use Rattle.aio_word.specs.declared.Kind.{Kind}
use Rattle.aio_word.specs.declared.Kind.TheVariants as kind
use Rattle.aio_word.specs.declared.Known.{Known}
use Rattle.aio_word.specs.declared.Mark.{Mark}
use Rattle.aio_word.specs.declared.WaitRef.{WaitRef}
use Rattle.aio_word.specs.declared.Step.TheVariants as event
use Rattle.aio_word.specs.declared.State.TheVariants.{CompletedShared}
use Rattle.aio_word.specs.Events.{mark_count, actor_count, handle_count, owner, lives_ended}
use Rattle.aio_word.specs.Events.{make_mark, kind_place, wait_ref, make_word}
use Rattle.aio_word.proofs.OwnMarksBoundWord.{kind_place-small}
use Rattle.aio_word.specs.Stands.{IsIn, seen_rank}
use Rattle.aio_word.specs.Tokens.{MarksOnceAndSeen}
use Rattle.aio_word.proofs.MoreMarksKeep.{count_at_place, mark_count-more}
use Rattle.aio_word.proofs.ReplacedElement.{in-append, in-left, in-right}
use Rattle.aio_word.proofs.AppendKeepsHandle.{counted-in}
use Rattle.aio_handle.specs.declared.record.Label.{Label}
use Rattle.aio_handle.specs.UnchangedTokens.{TokenUnchanged}
use Rattle.aio_handle.specs.LifeWords.{taken_word, idle_word}
use Rattle.aio_handle.specs.CallEvents.{EventMade, HasWholeLife, generation_of}
use Rattle.aio_handle.proofs.TokensStay.{unchanged-by-execution, unchanged-by-look}
use Rattle.aio_handle.proofs.TokensStay.{unchanged-elsewhere, unchanged-then}
use Rattle.aio_handle.proofs.LivesCounted.{lives_ended-push}
use Rattle.aio_batch.specs.StagedTokens.{AreStagedTokens}
use Rattle.aio_batch.proofs.StagedTokensKept.{staged_tokens-kept}
use Rattle.aio_waitref.specs.WaitOutcomes.{WaitsAndTakes}
use Rattle.aio_callback.specs.ReadIoView.{ReadIoView, ReadFits, ReadsAs, record_aim, after_local}
use Rattle.aio_callback.specs.Finishes.{record_reference}
use Rattle.aio_callback.proofs.AimNamesRead.{reads-as}
use Rattle.read_stream.specs.declared.reads.Reads.{Reads}
use Rattle.read_stream.specs.declared.scope.Scope.{Scope}
use Rattle.read_stream.specs.StreamIos.{IsNewIncarnation, IsStreamIo, IsTakenIn, IssuedExcept}
use Rattle.read_stream.specs.StreamIos.{Issued, ReadsBlocks, HasIdleHandle, known_at_open}
use Rattle.read_stream.specs.ActorProgress.{ActorAdvanced, MarkedSince}
use Rattle.read_stream.proofs.ActorAdvancedLaws.{advanced_then, advanced_made, advanced_waiting}
use Rattle.read_stream.proofs.OwnerCountsKept.{OwnerCountsUnchanged, owner-counts-then}
use Rattle.read_stream.proofs.OwnerCountsKept.{owner-counts-taking-up, owner-counts-looking, stream-actor-later}
use Rattle.read_stream.proofs.TakenInRecordKept.{taken-grown}
use Rattle.read_stream.proofs.InFlightUnchanged.{stream-ios-kept}
use Rattle.read_stream.proofs.BatchPushKeepsIssued.{staged-of}
use Rattle.read_stream.proofs.ReclaimMarkCounts.{is-one, one-life, one-local, own-reclaimed}
use Rattle.read_stream.proofs.ReclaimMarkCounts.{same-defined}

module _ (p m q : Known) (t : WaitRef) (l : Label) (a b d e : ℕ) (class : Class)
    (w : WaitsAndTakes t p m a b d e l)
    (r : EventMade event.Reclaim t.handle (taken_word class t.generation)
    (idle_word (t.generation + 1)) [] m q)
  where
    abbrev before : Known
    before = w.result_taken.between

    idles : OwnerCountsUnchanged p before
    idles = owner-counts-then p w.between before (owner-counts-taking-up p w.between a b d e
        w.execution)
        (owner-counts-looking t.handle w.result_taken.found w.between before
        w.result_taken.word_load)

    abbrev local-mark : Mark
    local-mark = make_mark t (kind.Local w.result_taken.class)

    abbrev last-mark : Mark
    last-mark = make_mark t kind.Reclaimed

    marks-m : m.marks ≡ before.marks ++ local-mark ∷ []
    marks-m = ap (λ (z : Known). z.marks) w.result_taken.event_made.is

    marks-q : q.marks ≡ m.marks ++ last-mark ∷ []
    marks-q = ap (λ (z : Known). z.marks) r.is

    pub more : List Mark
    more = idles.more ++ (local-mark ∷ last-mark ∷ [])

    marks-both : q.marks ≡ (before.marks ++ local-mark ∷ []) ++ last-mark ∷ []
    marks-both = marks-q ∙ ap (λ (z : List Mark). z ++ last-mark ∷ []) marks-m

    pub grown : q.marks ≡ p.marks ++ more
    unfolding more
    grown = marks-both
        ∙ (append_assoc before.marks (local-mark ∷ []) (last-mark ∷ [])
        ∙ (ap (λ (z : List Mark). z ++ (local-mark ∷ last-mark ∷ [])) idles.grown
        ∙ append_assoc p.marks idles.more (local-mark ∷ last-mark ∷ [])))

    pub config-is : q.config ≡ p.config
    config-is = ap (λ (z : Known). z.config) r.is
        ∙ (ap (λ (z : Known). z.config) w.result_taken.event_made.is ∙ idles.config)

    pub number-is : q.number ≡ p.number
    number-is = ap (λ (z : Known). z.number) r.is
        ∙ (ap (λ (z : Known). z.number) w.result_taken.event_made.is ∙ idles.number)

    out-is : q.out ≡ p.out
    out-is = ap (λ (z : Known). z.out) r.is
        ∙ (ap (λ (z : Known). z.out) w.result_taken.event_made.is
        ∙ (ap (λ (z : Known). z.out) w.result_taken.word_load.is ∙ w.execution.grows.out))

    pub kept : (u : WaitRef) → u ≢ t → TokenUnchanged u p q
    kept u ne = unchanged-then u p w.between q
        (unchanged-by-execution u [] p w.between a b d e w.execution)
        (unchanged-then u w.between before q
        (unchanged-by-look u t.handle w.result_taken.found w.between before w.result_taken.word_load)
        (unchanged-then u before m q
        (unchanged-elsewhere u event.Local t.handle
        (make_word CompletedShared false w.result_taken.class t.generation)
        (taken_word w.result_taken.class t.generation) [] before m w.result_taken.event_made ne)
        (unchanged-elsewhere u event.Reclaim t.handle (taken_word class t.generation)
        (idle_word (t.generation + 1)) [] m q r ne)))

    more-reclaimed : (x : WaitRef) → count_at_place x 7 p.marks ≤ count_at_place x 7 q.marks
    more-reclaimed x =
        let g : count_at_place x 7 q.marks ≡ count_at_place x 7 (p.marks ++ more) =
        ap (count_at_place x 7) grown in
        let s = mark_count-more x 7 p.marks more in omega arith

    local-in-more : IsIn local-mark more
    unfolding more
    local-in-more = in-right local-mark idles.more (local-mark ∷ last-mark ∷ []) (inl refl)

    -- a mark of a new incarnation stands behind those that the actor had at first
    new-behind : {W : Type 0} (c : Scope W) (k : Kind) (xs : List Mark) → IsNewIncarnation c t
        → IsIn (make_mark t k) ((known_at_open c).marks ++ xs) → IsIn (make_mark t k) xs
    new-behind c k xs new i = ⊎_elim
        (λ old. absurd (let n = counted-in (make_mark t k) (known_at_open c).marks old in
        let z = new (kind_place k) (kind_place-small k) in omega arith))
        (λ j. j) (in-append (make_mark t k) (known_at_open c).marks xs i)

    pub advanced-settling : ActorAdvanced p q a b d e
    advanced-settling = advanced_then p m q a b b d e e (advanced_waiting t p m a b d e l w)
        (advanced_made event.Reclaim t.handle (taken_word class t.generation)
        (idle_word (t.generation + 1))
        [] m q b e tt r)

    held-kept-but : {W : Type 0} (c : Scope W) (xs : List (WaitRef × ReadIoView)) → IsStreamIo c p t
        → AreStagedTokens p xs → AreStagedTokens q xs
    held-kept-but c xs stream_ios h = staged_tokens-kept p q xs
        (λ u j. kept u.0 (λ same.
        (let f = stream_ios.in_flight.since in
        let g = subst (λ (z : WaitRef). 0 < mark_count z kind.Submitted p.marks) (sym same) f in
        let y = (staged-of p xs u h j).until in omega arith))) h

    -- its handle is in the middle of no life now
    pub idle-now : (k : Config) → q.config ≡ k → MarksOnceAndSeen (seen_rank q) q.marks
        → HasIdleHandle k q
    idle-now k same keeps =
        let h : ℕ = t.handle in
        let to-k : m.config ≡ k = sym (ap (λ (z : Known). z.config) r.is) ∙ same in
        let there : IsIn local-mark m.marks = subst (λ (z : List Mark). IsIn local-mark z)
        (sym marks-m) (in-right local-mark before.marks (local-mark ∷ []) (inl refl)) in
        let own = r.by_owner tt in
        let lived = r.own_generation own in
        let count : lives_ended h q.marks ≡ lives_ended h (m.marks ++ last-mark ∷ []) =
        ap (lives_ended h) marks-q in
        let more = lives_ended-push h t.handle t.generation kind.Reclaimed m.marks in
        let one = is-one h in
        let start : m.config.start ≡ k.start = ap (λ (z : Config). z.start) to-k in
        let generation : generation_of k q h ≡ t.generation + 1 = omega arith in
        record {
          handle = h;
          in_range = subst (λ (z : Config). h < handle_count z) to-k
              ((r.moment.words_match_lists.each_list m r.moment.here).in_range local-mark there);
          is_own = ap (λ (z : Known). z.number) r.is
              ∙ (own ∙ ap (λ (z : Config). owner z h) to-k);
          not_in_use = λ amid.
              (let seen = keeps.below h (8 * generation_of k q h + 0) amid.0 in
              let now = r.now in omega arith);
        }

    module _ {W : Type 0} (c : Scope W) (world : WorldGhosts W) where
      pub settled-issued : (s : Reads W) → MarksOnceAndSeen (seen_rank q) q.marks
          → IsStreamIo c p t
          → ((u : WaitRef) → IsIn u s.in_flight.items → u ≢ t)
          → IssuedExcept (t ∷ []) c world p s
          → Issued c world q (record s { taken_in = s.taken_in + 1 })
      settled-issued s keeps stream_ios apart i =
          record {
            room = i.room;
            count_within = i.count_within;
            within_most = let f = i.within_most in omega arith;
            actor = stream-actor-later c p q s.taken_in (s.taken_in + 1) more number-is config-is
                (out-is ∙ i.actor.nothing_handed_out) grown
                (let f = one-local t w.result_taken.class p.marks before.marks q.marks marks-both
                idles.locals in omega arith)
                (λ h. (let f = one-life t w.result_taken.class p.marks before.marks q.marks
                marks-both idles.lived h in omega arith)) i.actor;
            records = record {
              free = i.records.free;
              ended_records = λ x j. taken-grown c world p q more x.io grown
                  advanced-settling.aims (i.records.ended_records x j);
            };
            tokens = record {
              staged_tokens = held-kept-but c s.batch stream_ios i.tokens.staged_tokens;
              staged_ios = i.tokens.staged_ios;
              stream_ios = stream-ios-kept c p q s.in_flight.items (λ u j. kept u (apart u j))
                  i.tokens.stream_ios;
              unreclaimed_ios = λ x. ⊎_elim
                  (λ over. let f = same-defined t w.result_taken.class p.marks before.marks q.marks
                  marks-both idles.defined x in
                  let g = more-reclaimed x in inl (omega arith))
                  (λ j. ⊎_elim
                  (λ same. inl (let f =
                  own-reclaimed t w.result_taken.class p.marks before.marks q.marks marks-both in
                  let o = keeps.once t.handle (8 * t.generation + 0) in
                  let own : count_at_place t 0 q.marks ≤ count_at_place t 7 q.marks = omega arith in
                  subst (λ (z : WaitRef). count_at_place z 0 q.marks ≤ count_at_place z 7 q.marks)
                  same own))
                  (λ rest. inr rest) j)
                  (i.tokens.unreclaimed_ios x);
            };
          }

      -- the record, which the owner has settled
      pub settled-reading : (s : Reads W) (x y : ReadIoView) → y ≡ after_local x → x.label ≡ l
          → IsStreamIo c p t → IssuedExcept (t ∷ []) c world p s
          → ReadFits world.told world.relations y → ((aim : List ℕ) → IsIn (t, aim) p.aims →
          record_aim x ≡ aim)
          → (actor_count c.was.value.known.config ≡ 1 → HasWholeLife t x.label.ended m)
          → IsTakenIn c world q y
      settled-reading s x y is labelled stream_ios i fits aimed alone =
          let o = w.result_taken in
          let label : x.label ≡ record {
            handle = t.handle;
            generation = t.generation;
            ended = o.class;
            settled = false;
          } = labelled ∙ o.label in
          let ended-x : x.label.ended ≡ o.class = ap (λ (z : Label). z.ended) label in
          let ended : y.label.ended ≡ o.class =
          ap (λ (z : ReadIoView). z.label.ended) is ∙ ended-x in
          let named : record_reference y ≡ t =
          ap (λ (z : ReadIoView). record_reference z) is
          ∙ ap (λ (z : Label). wait_ref z.handle z.generation) label in
          let z = stream_ios.has_aim.0 in
          let same : ReadsAs x z = reads-as x z (aimed (record_aim z) stream_ios.has_aim.2) in
          let is-aimed = stream_ios.has_aim.1 in
          let whole : q.marks ≡ (known_at_open c).marks ++ (i.actor.marks_since_open.0 ++ more) =
          grown ∙ (ap (λ (z : List Mark). z ++ more) i.actor.marks_since_open.1
          ∙ append_assoc (known_at_open c).marks i.actor.marks_since_open.0 more) in
          let local : MarkedSince (known_at_open c) q (make_mark t (kind.Local o.class)) = (
            i.actor.marks_since_open.0 ++ more,
            whole,
            in-right local-mark i.actor.marks_since_open.0 more local-in-more,
          ) in
          record {
            fits = fits;
            has_ended = λ u. o.ended (sym ended ∙ u);
            is_stream_record = record {
              ids = ap (λ (v : ReadIoView). v.ids) is ∙ (same.ids ∙ is-aimed.ids);
              checksums = ap (λ (v : ReadIoView). v.checksums) is ∙ (same.checksums ∙ is-aimed.checksums);
              relation = ap (λ (v : ReadIoView). v.relation) is
                  ∙ (same.relation ∙ is-aimed.relation);
              room = ap (λ (v : ReadIoView). length v.pages) is ∙ (same.room ∙ is-aimed.room);
            };
            was_submitted = subst (λ (v : WaitRef). IsIn (v, record_aim y) q.aims) (sym named)
                (subst (λ (v : List ℕ). IsIn (t, v) q.aims)
                (sym (ap (λ (v : ReadIoView). record_aim v) is
                ∙ aimed (record_aim z) stream_ios.has_aim.2))
                (advanced-settling.aims (t, record_aim z) stream_ios.has_aim.2));
            local_mark = subst
                (λ (v : WaitRef). MarkedSince (known_at_open c) q
                (make_mark v (kind.Local y.label.ended))) (sym named)
                (subst (λ (v : Class). MarkedSince (known_at_open c) q (make_mark t (kind.Local v)))
                (sym ended)
                local);
            io_mark_if_alone = λ one.
                (let lived = alone one in
                let there : IsIn (make_mark t (kind.Io x.label.ended)) q.marks =
                subst (λ (v : List Mark). IsIn (make_mark t (kind.Io x.label.ended)) v)
                (sym marks-q)
                (in-left _ m.marks (last-mark ∷ []) lived.executed) in
                let since : MarkedSince (known_at_open c) q (make_mark t (kind.Io x.label.ended)) = (
                  i.actor.marks_since_open.0 ++ more,
                  whole,
                  new-behind c (kind.Io x.label.ended) (i.actor.marks_since_open.0
                      ++ more) stream_ios.is_new
                      (subst (λ (v : List Mark). IsIn (make_mark t (kind.Io x.label.ended)) v) whole
                      there),
                ) in
                subst (λ (v : WaitRef). MarkedSince (known_at_open c) q
                (make_mark v (kind.Io y.label.ended)))
                (sym named)
                (subst (λ (v : Class). MarkedSince (known_at_open c) q (make_mark t (kind.Io v)))
                (ended-x ∙ sym ended) since));
          }

      pub settled-for : (x y : ReadIoView) (first count : ℕ) → y ≡ after_local x
          → ((aim : List ℕ) → IsIn (t, aim) p.aims → record_aim x ≡ aim)
          → ReadsBlocks c first count p t → (y.first ≡ first) × (y.count ≡ count)
      settled-for x y first count is aimed for_it =
          let same : ReadsAs x for_it.0 =
          reads-as x for_it.0 (aimed (record_aim for_it.0) for_it.2) in (
            ap (λ (v : ReadIoView). v.first) is ∙ (same.first ∙ for_it.3),
            ap (λ (v : ReadIoView). v.count) is ∙ (same.count ∙ for_it.4),
          )
