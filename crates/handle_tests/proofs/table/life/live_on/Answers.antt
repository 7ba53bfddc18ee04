use Rattle.handle_tests.proofs.table.life.live_on.Goals as goal

pub end_own-requires-clause-unreclaimed : goal.end_own-requires-clause-unreclaimed
end_own-requires-clause-unreclaimed g c =
    c.submit_acquired-token.ensures.unreclaimed c.requires.all_reclaimed
