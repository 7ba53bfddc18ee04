use Rattle.std.proofs.Common.{rules}
use Rattle.method_worker.proofs.StepsKeepClosingWord.{opens}
use Rattle.method_worker.proofs.words.open_under.Goals as goal

pub store-requires : goal.store-requires
store-requires c = (c.requires.same_table.0, search rules, opens _ _ _ _)
