use Rattle.std.proofs.Common.{[], ◌∷◌, refl, ap, arith, rules}
use Rattle.crossbeam_queue.specs.Passes.{view}
use Rattle.method_worker.proofs.StepsKeepBalance.{empty-again}
use Rattle.method_worker.proofs.SeatPopsInOrder.{read-none, reads-once}
use Rattle.method_worker.proofs.queue.SubmitQueue.pop.Goals as goal

pub returns-in-Some-clause-pop_answers : goal.returns-in-Some-clause-pop_answers
returns-in-Some-clause-pop_answers g c =
    let old = c.seat.inside in
    let word_seat = c.load_closing-word.new.seat in
    let pass = c.pop_entry.new.pass in
    let word = c.load_closing-word.result.word in
    let r = c.in-Some.ensures.rule in (
      word,
      (
        reads-once c.args.seat.now old.pass.table_id old.word_seat.table_id pass.table_id
            word_seat.table_id
            (view old.pass) (view pass) old.word_seat.me.0 word_seat.me.0 word
            (c.in-Some.reference ∷ []) c.seat.view_is r.0
            (ap (λ x. x.0) c.load_closing-word.ensures.notes_are),
        r.1,
        r.2,
      ),
    )

pub returns-then-get-self-clause-pop_answers : goal.returns-then-get-self-clause-pop_answers
returns-then-get-self-clause-pop_answers g c =
    let old = c.seat.inside in
    let word_seat = c.load_closing-word.new.seat in
    let pass = c.pop_entry.new.pass in
    let word = c.load_closing-word.result.word in
    let r = c.in_default.ensures.rule in (
      word,
      (
        read-none c.args.seat.now old.pass.table_id old.word_seat.table_id pass.table_id
            word_seat.table_id
            (view old.pass) (view pass) old.word_seat.me.0 word_seat.me.0 word c.seat.view_is r.0
            (ap (λ x. x.0) c.load_closing-word.ensures.notes_are),
        record {
          word_is = search rules;
          has_closer = c.load_closing-word.ensures.closed (let e = c.if-get-self.true in omega
              (arith, e));
          was_empty = empty-again g.W.World.handles (view old.pass) (view pass) _ r.0 refl r.1;
        },
      ),
    )

pub returns-clause-pop_answers : goal.returns-clause-pop_answers
returns-clause-pop_answers g c =
    let old = c.seat.inside in
    let word_seat = c.load_closing-word.new.seat in
    let pass = c.pop_entry.new.pass in
    let word = c.load_closing-word.result.word in
    let r = c.in_default.ensures.rule in (
      word,
      (
        read-none c.args.seat.now old.pass.table_id old.word_seat.table_id pass.table_id
            word_seat.table_id
            (view old.pass) (view pass) old.word_seat.me.0 word_seat.me.0 word c.seat.view_is r.0
            (ap (λ x. x.0) c.load_closing-word.ensures.notes_are),
        search rules,
        empty-again g.W.World.handles (view old.pass) (view pass) _ r.0 refl r.1,
      ),
    )
