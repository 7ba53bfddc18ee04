use Rattle.aio_handle.proofs.TokensStay.{unchanged-elsewhere, unchanged-unused}
use Rattle.aio_handle.proofs.laws.events_keep_other_tokens.Goals as goal

pub returns-clause-elsewhere : goal.returns-clause-elsewhere
returns-clause-elsewhere c = unchanged-elsewhere

pub returns-clause-unused : goal.returns-clause-unused
returns-clause-unused c = unchanged-unused
