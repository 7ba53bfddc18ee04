use Rattle.std.proofs.Common.{subst, sym}
use Rattle.std.specs.Prelude.{IfSome}
use Rattle.std.proofs.lemmas.List.{get_or_default, get_or-set_same}
use Rattle.scan_rounds.specs.Progress.{HasClosed}
use Rattle.scan_rounds.specs.declared.backend.Backend.{Backend}
use Rattle.scan_rounds.proofs.QueueClosed.{all_stand, first_options}
use Rattle.scan_rounds.proofs.rounds.close_queue.Goals as goal

pub returns-clause-backends : goal.returns-clause-backends
returns-clause-backends g c =
    let r = c.close.ensures.rest in
    all_stand _ _ _ _ c.args.backends.now _ c.close.new.self c.requires.some c.requires.backends
    (get_or_default _ 0 _ _ c.requires.some) r.0 r.1 r.3 c.close.ensures.seat
    c.close.ensures.seat_kept

pub returns-clause-options : goal.returns-clause-options
returns-clause-options g c how all =
    let r = c.close.ensures.rest in
    first_options c.args.backends.now _ c.close.new.self
    (get_or_default _ 0 _ _ c.requires.some) c.requires.some r.1 r.2 how all

pub returns-clause-closed : goal.returns-clause-closed
returns-clause-closed g c = record {
  seat = λ b. subst (λ (x : Backend _ _). IfSome x.seat (HasClosed c.args.shared.now.queue))
      (sym (get_or-set_same c.args.backends.now 0 c.close.new.self b c.requires.some))
      c.close.ensures.closed;
}
