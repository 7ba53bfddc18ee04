use Rattle.std.proofs.Common.{◌≡◌, ◌+◌, ◌-◌, ℕ, length, List, [], refl, sym, ap, ◌∙◌, arith, subst}
use Rattle.std.specs.Prelude.{false}
use Rattle.aio_handle.specs.ContractViews.{ActorView}
use Rattle.read_stream.proofs.CallersView.{as_left}
use Rattle.page_check.specs.SynchronousAnswer.{read_count, reading_of}
use Rattle.read_stream.specs.declared.desk.Desk.{Desk}
use Rattle.read_stream.specs.declared.scope.Scope.{Scope}
use Rattle.read_stream.specs.declared.queue.QueuedBlock.{QueuedBlock}
use Rattle.read_stream.specs.declared.reads.EndedRead.{EndedRead}
use Rattle.read_stream.specs.QueuedBlocks.{IsValidWant}
use Rattle.stream_answer.specs.StreamAnswers.{stream_entries}
use Rattle.read_stream.specs.StreamIos.{AllRecordsFree, ReadsForRuns}
use Rattle.read_stream.specs.StreamState.{IsPosition}
use Rattle.read_stream.proofs.ReadsMatchRuns.{reads-none}
use Rattle.read_stream.proofs.PushedList.{each-none}
use Rattle.read_stream.proofs.NewStreamIsIssued.{new-stream-issued, none-given, reset_reads}
use Rattle.read_stream.proofs.HandleLivesLeft.{room_below, room_is_one}
use Rattle.read_stream.proofs.stream.ReadStream.open.Goals as goal

pub returns-clause-is_open : goal.returns-clause-is_open
returns-clause-is_open g c =
    let W : Type 0 = g.row.W.Denot in
    let P : Type 0 = g.row.P.Denot in
    let d : Desk W P = c.args.desk.now in
    let ready = c.requires.desk.ready in
    let free = ready.free_count in
    let queue : length d.blocks.queue.items ≡ 0 =
    ap (λ (z : List (QueuedBlock P)). length z) c.requires.desk.queue in
    let batch : length d.reads.batch ≡ 0 = ap (λ (z : List _). length z) ready.batch in
    let in_flight : length d.reads.in_flight.items ≡ 0 =
    ap (λ (z : List _). length z) ready.in_flight in
    let ended : length d.reads.ended.items ≡ 0 =
    ap (λ (z : List EndedRead). length z) ready.ended in
    let a : ActorView = c.args.actor.now in
    let was : c.of.result.value ≡ a = c.of.ensures in
    let now : c.of-2.result.value ≡ a = c.of-2.ensures in
    let total = c.of-total.ensures in
    let most = c.of-most.ensures in
    let small = room_below a.known.config a.known c.room.result c.requires.backend c.room.ensures in
    let (room, is-room, long) = c.requires.room in
    let below = room_is_one a.known.config a.known c.room.result room c.requires.backend
    c.room.ensures is-room in
    let blocks : length (g.S.BlockSource.left c.of-source_was.result.value)
    ≡ length (g.S.BlockSource.left c.args.source) =
    ap (λ z. length (g.S.BlockSource.left z)) c.of-source_was.ensures in
    let none : length (g.S.BlockSource.left c.of-source_was.result.value)
    - (length d.blocks.queue.items + length (g.S.BlockSource.left c.args.source)) ≡ 0 =
    omega arith in
    let scope : Scope W = record {
      relation = c.args.relation;
      combine = d.settings.combine;
      batched = d.settings.batch;
      rules = d.settings.rules;
      total = c.of-total.result;
      most = c.of-most.result;
      was = c.of.result;
    } in
    rw c.begin.ensures (record {
      is_open = record {
        same = rw (now, was) (refl, refl, refl);
        backend = rw now c.requires.backend;
        between = record {
          invariant = record {
            set_up = record {
              relation_in_range = c.requires.relation;
              settings = c.requires.desk.settings;
              scope = (refl, total);
              rules = refl;
              queue = c.requires.desk.most_blocks;
              list_within_most = omega arith;
            };
            records = record {
              issued = rw (now ∙ sym was) (new-stream-issued scope g.W.World d.reads
                  (subst (λ (n : ℕ). AllRecordsFree d.settings.combine n d.reads) (sym total) ready)
                  (rw was c.requires.no_owner_tokens) (omega arith)
                  (rw (was, most) c.room.ensures));
              batch_within = omega arith;
              record_total = omega arith;
            };
          };
          few_ios = omega arith;
          running = λ _. record {
            position = subst (λ (n : ℕ). IsPosition g.W.World.told scope
                (g.S.BlockSource.left c.of-source_was.result.value)
                (g.S.BlockSource.left c.args.source) false n d.blocks.queue.items) (sym none)
                (record {
                  given_within = omega arith;
                  readable = none-given (reading_of d.settings.rules g.W.World.told)
                      (λ f. read_count f (stream_entries c.args.relation
                      (g.S.BlockSource.left c.of-source_was.result.value)));
                  blocks = rw (c.requires.desk.queue, c.of-source_was.ensures) refl;
                  none_left_if_over = λ x. absurd (cc);
                });
            reads = record {
              runs = [];
              reads_for = subst (λ (n : ℕ). ReadsForRuns scope c.of-2.result.value.known
                  (reset_reads d.reads) n []) (sym none) (reads-none scope
                  c.of-2.result.value.known (reset_reads d.reads) ready.ended ready.in_flight
                  ready.batch refl);
              in_order = rw c.requires.desk.queue refl;
            };
            wants = each-none (λ (x : QueuedBlock P). IsValidWant g.W.World.handles x.want)
                d.blocks.queue.items c.requires.desk.queue;
            plan = record {
              ahead = sym queue;
              queue_within_limit = omega arith;
              in_use = omega arith;
              spare_record = omega arith;
              combine = refl;
              max_ios = refl;
              limit = refl;
            };
          };
          right = tt;
          stop_answer = tt;
        };
      };
      as_left = as_left c.of-2.result.value a now;
    })
