use Rattle.std.proofs.Common.{rules}
use Rattle.method_worker.proofs.StepsKeepClosingWord.{closes}
use Rattle.method_worker.proofs.words.close_under.Goals as goal

pub fetch_max-requires : goal.fetch_max-requires
fetch_max-requires c = (c.requires.same_table.0, search rules, closes _ _ _ _)
