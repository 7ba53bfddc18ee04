use Rattle.std.proofs.Common.{◌≡◌, ◌≢◌, ◌<◌, true, false, length, refl, sym, subst, arith, Some}
use Rattle.std.proofs.Common.{slice_get}
use Rattle.std.proofs.lemmas.Option.{slice_get_read}
use mathlib.Core.Logic.{dite}
use native.Mathlib.Decide.{ℕ_discrete}
use Rattle.aio_word.specs.declared.State.TheVariants.{HandedOut}
use Rattle.aio_word.specs.declared.Word.{Word}
use Rattle.aio_word.specs.Events.{has_handed_out_from}
use Rattle.aio_core.proofs.HandedOutByOwnWords.{none-here, out-here, owned-by, within-all}
use Rattle.aio_core.proofs.HandedOutByOwnWords.{same-word}
use Rattle.aio_core.proofs.machine.Machine.has_handed_out.Goals.{in-HandedOut, in_default}
use Rattle.aio_core.proofs.machine.Machine.has_handed_out.Goals as goal

pub returns-then-matches : goal.returns-then-matches
returns-then-matches c =
    let config = c.self.inside.config in
    let backends : c.args.backend < config.backends =
    subst (λ z. c.args.backend < z.config.backends) (sym c.self.view_is) c.requires in
    let lo = c.loop-handle.auto.handle in
    let hi = c.loop-handle-test.true in
    let one_per_handle = c.self.invariant.lawful_machine.words_match_lists.one_per_handle in
    let all = within-all c.args.backend config.backends config.per_backend c.loop-handle.handle
    backends hi in
    let inside : c.loop-handle.handle < length c.self.inside.words.items = omega arith in
    let at = slice_get_read c.self.inside.words.items
    (length c.self.inside.words.items) c.loop-handle.handle c.index.result.now refl inside
    c.index.ensures in
    let out : c.index.result.now.state ≡ HandedOut =
    elim c.match-matches.branch [
      | in-HandedOut w ↦ w.in-HandedOut.is
      | in_default w ↦ absurd
          (let x = w.matches-is in let y = c.if-matches.true in cc)
    ] in
    subst (λ z. true ≡ has_handed_out_from z.config c.args.backend 0 z.machine.words) c.self.view_is
    (sym (out-here config c.args.backend c.loop-handle.handle c.self.inside.words.items
    c.index.result.now at
    (owned-by c.loop-handle.handle c.args.backend config.per_backend lo hi) out))

pub loop-handle-preserved : goal.loop-handle-preserved
loop-handle-preserved c = λ i w lo hi at. dite (ℕ_discrete i c.loop-handle.handle)
    (λ same.
    let config = c.self.inside.config in
    let backends : c.args.backend < config.backends =
    subst (λ z. c.args.backend < z.config.backends) (sym c.self.view_is) c.requires in
    let end = c.loop-handle-test.true in
    let one_per_handle = c.self.invariant.lawful_machine.words_match_lists.one_per_handle in
    let all = within-all c.args.backend config.backends config.per_backend c.loop-handle.handle
    backends end in
    let inside : c.loop-handle.handle < length c.self.inside.words.items = omega arith in
    let here = slice_get_read c.self.inside.words.items
    (length c.self.inside.words.items) c.loop-handle.handle c.index.result.now refl inside
    c.index.ensures in
    let there : slice_get c.args.self.now.machine.words c.loop-handle.handle
    ≡ Some c.index.result.now =
    subst (λ z. slice_get z.machine.words c.loop-handle.handle
    ≡ Some c.index.result.now) c.self.view_is here in
    let word : w ≡ c.index.result.now =
    same-word c.args.self.now.machine.words i c.loop-handle.handle w c.index.result.now same at
    there in
    let other : c.index.result.now.state ≢ HandedOut =
    elim c.match-matches.branch [
      | in-HandedOut w ↦ absurd (let x = w.matches-is in
          let y = c.if-matches.false in cc)
      | in_default w ↦ w.in_default.not-HandedOut
    ] in
    subst (λ (z : Word). z.state ≢ HandedOut) (sym word) other)
    (λ ne. c.loop-handle.invariant i w lo (omega arith) at)

pub returns : goal.returns
returns c =
    let end = c.loop-handle-test.false in
    subst (λ z. false ≡ has_handed_out_from z.config c.args.backend 0 z.machine.words)
    c.self.view_is
    (sym (none-here c.self.inside.config c.args.backend c.self.inside.words.items
    c.self.invariant.bounds.some_handles
    (λ i w lo hi at. c.loop-handle.invariant i w lo (omega arith)
    (subst (λ z. slice_get z.machine.words i ≡ Some w) c.self.view_is at))))
