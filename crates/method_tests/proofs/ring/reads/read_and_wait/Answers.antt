use Rattle.std.proofs.Common.{[], ◌∷◌}
use Rattle.aio_word.specs.declared.Known.{Known}
use Rattle.aio_word.specs.declared.WaitRef.{WaitRef}
use Rattle.aio_fixtures.proofs.UnreclaimedIos.{none-at-rest, rests-with-none, taken-up-unreclaimed}
use Rattle.aio_fixtures.proofs.UnreclaimedIos.{reclaimed-unreclaimed}
use Rattle.method_tests.proofs.ring.reads.read_and_wait.Goals as goal

pub returns-clause-no_owner_tokens : goal.returns-clause-no_owner_tokens
returns-clause-no_owner_tokens g c _ =
    let t : WaitRef = c.in-Some.token in
    let p : Known = c.args.actor.now.known in
    let q : Known = c.submit_read.new.actor.known in
    let r : Known = c.wait_own-local.new.actor.known in
    let s : Known = c.reclaim.new.actor.known in
    let waited = c.wait_own-local.ensures.result_taken in
    let back = c.reclaim.ensures.event in
    let one = c.in-Some.ensures.submitted.unreclaimed [] (none-at-rest p c.requires.no_owner_tokens) in
    let two = taken-up-unreclaimed (t ∷ []) q waited.between _ _ _ _ waited.execution one in
    rests-with-none s (reclaimed-unreclaimed t _ [] back.0 _ waited.between r s waited.result_taken
    c.wait_own-local.ensures.token.0 back.1 two)
