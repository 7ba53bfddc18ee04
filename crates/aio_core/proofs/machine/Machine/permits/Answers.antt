use Rattle.std.proofs.Common.{◌≡◌, ◌<◌, ◌/◌, ◌==◌, ℕ, [], length, get_or, sym, ap, ◌∙◌, subst}
use Rattle.std.proofs.Common.{⊎_elim, arith}
use Rattle.std.proofs.lemmas.List.{get_or_read}
use Rattle.std.proofs.lemmas.Option.{slice_get-get_or, slice_get_within}
use Rattle.aio_core.specs.Allowed.{permits, HasStep}
use Rattle.aio_core.proofs.PermitsByClaimer.{IsClaimerStep, io, shared, is-owner-step}
use Rattle.aio_core.proofs.PermitsByClaimer.{owner-permits}
use Rattle.aio_core.proofs.PermitsByClaimer.{claimer-permits}
use Rattle.aio_core.proofs.machine.Machine.permits.Goals as goal

pub returns-in-Io : goal.returns-in-Io
returns-in-Io c =
    let inside = c.self.inside in
    let has = subst (λ z. HasStep z.machine c.args.event) (sym c.self.view_is) c.requires in
    let lt : c.args.event.actor < length inside.lists.items =
    grind (arith, c.len.ensures, c.if-event-len.false, inside.lists.ok) in
    let list = slice_get-get_or inside.lists.items c.args.event.actor [] lt in
    let kind : IsClaimerStep c.args.event.step =
    ⊎_elim (λ (class, e). subst IsClaimerStep (sym e) (io class))
    (λ e. subst IsClaimerStep (sym e) shared) c.in-Io.is in
    let last : c.index.result.now ≡ get_or inside.last_claimers.items c.args.event.handle 0 =
    get_or_read inside.last_claimers.items c.args.event.handle c.index.result.now
    (let in-words = slice_get_within inside.words.items c.args.event.handle has.w has.word in
    let one_per_handle = c.self.invariant.lawful_machine.words_match_lists.one_per_handle in let wide' = c.self.invariant.one_per_handle in
    omega arith)
    c.index.ensures 0 in
    ap (λ (n : ℕ). c.args.event.actor == n) last
    ∙ subst (λ z. (c.args.event.actor == get_or inside.last_claimers.items c.args.event.handle 0)
    ≡ permits z.config z.machine c.args.event) c.self.view_is
    (claimer-permits inside.config record {
      words = inside.words.items;
      lists =
          inside.lists.items;
    } inside.last_claimers.items c.self.invariant c.args.event
    (get_or inside.lists.items c.args.event.actor []) has list kind)

pub returns-in_default : goal.returns-in_default
returns-in_default c =
    let inside = c.self.inside in
    let lt : c.args.event.actor < length inside.lists.items =
    grind (arith, c.len.ensures, c.if-event-len.false, inside.lists.ok) in
    let list = slice_get-get_or inside.lists.items c.args.event.actor [] lt in
    let d = c.in_default in
    subst (λ z. (c.args.event.actor == (c.args.event.handle / inside.config.per_backend))
    ≡ permits z.config z.machine c.args.event) c.self.view_is
    (owner-permits inside.config record {
      words = inside.words.items;
      lists =
          inside.lists.items;
    } c.args.event (get_or inside.lists.items c.args.event.actor []) list
    (is-owner-step c.args.event.step d.not-HandOut d.not-Claim d.not-Io d.not-Shared))
