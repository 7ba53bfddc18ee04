use Rattle.std.proofs.Common.{rules, sym, subst}
use Rattle.std.specs.List.{All}
use Rattle.std.proofs.lemmas.List.Elements.{All-push}
use Rattle.scan_rounds.specs.OpenedScan.{IsDeskFor}
use Rattle.scan_rounds.proofs.assembly.PartsGiven.{desk_for}
use Rattle.scan_rounds.proofs.memory.open_desks.Goals as goal

pub loop-preserved : goal.loop-preserved
loop-preserved g c =
    let desk = c.in_ok-open.field-0 in
    let as_said = desk_for c.args.settings.now c.stream_settings-streams.result desk
    c.in_ok-open.ensures.free c.in_ok-open.ensures.settings c.loop.invariant.streams in record {
      so_far = search rules;
      capacity = search rules;
      desks = subst (λ ds. All (IsDeskFor c.args.settings.now) ds)
          (sym c.push_reserved.ensures.items)
          (All-push (IsDeskFor c.args.settings.now) c.loop.desks.items desk
          c.loop.invariant.desks as_said);
      streams = c.loop.invariant.streams;
    }
