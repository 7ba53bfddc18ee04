use Rattle.std.proofs.Common.{◌≡◌, rules, sym, subst}
use Rattle.std.specs.Prelude.{None}
use Rattle.std.specs.List.{All}
use Rattle.std.proofs.lemmas.List.Elements.{All-push}
use Rattle.handoff.specs.HandoffViews.{ClientView, HandoffView, IsClientOf}
use Rattle.scan_rounds.specs.declared.share.RunTerms.{RunTerms}
use Rattle.scan_rounds.specs.declared.share.Share.{Share}
use Rattle.scan_rounds.proofs.ListPairs.{zip-append}
use Rattle.scan_rounds.proofs.run_memory.RunMemory.open.Goals as goal

pub loop-preserved : goal.loop-preserved
loop-preserved g c =
    let K = RunTerms g.row.W.Denot in
    let Q = Share g.row.W.Denot g.row.D.Denot in
    let was = c.loop.invariant in
    let handoffs = c.push_reserved.ensures.items in
    let clients = c.push_reserved-in-loop.ensures.items in
    let HasKey : HandoffView K → Type 0 = λ h. h.key ≡ c.args.terms.now in
    let IsIdle : ClientView K Q → Type 0 = λ s. s.requested ≡ None in
    record {
      so_far = search rules;
      capacity = search rules;
      clients_so_far = search rules;
      clients_capacity = search rules;
      keys_are = subst (All HasKey) (sym handoffs)
          (All-push HasKey c.loop.handoffs.items c.in_ok-handoff.handoff was.keys_are
          c.in_ok-handoff.ensures.key);
      clients_are = rw (handoffs, clients)
          (zip-append (λ (h : HandoffView K) (s : ClientView K Q). IsClientOf h s)
          c.loop.handoffs.items _ c.loop.clients.items _ was.clients_are
          (c.in_ok-handoff.ensures.client, tt));
      idle = subst (All IsIdle) (sym clients)
          (All-push IsIdle c.loop.clients.items c.in_ok-handoff.client was.idle
          c.in_ok-handoff.ensures.idle);
    }
