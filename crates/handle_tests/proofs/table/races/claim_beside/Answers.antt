use Rattle.handle_tests.proofs.table.races.claim_beside.Goals as goal

pub returns-clause-no_owner_tokens : goal.returns-clause-no_owner_tokens
returns-clause-no_owner_tokens g c = c.claim_and_complete-won.ensures.no_owner_tokens c.requires.no_owner_tokens
