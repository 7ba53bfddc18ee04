use Rattle.record_tests.proofs.UntoldAnswers.{answered_untold}
use Rattle.record_tests.proofs.reads.completed.Goals as goal

pub complete_shared-requires-clause-answered : goal.complete_shared-requires-clause-answered
complete_shared-requires-clause-answered g c =
    answered_untold g.W.World.told c.args.io.now c.answer.new.self 4 c.args.answer
    c.requires.told c.requires.pending c.requires.answer c.answer.ensures
