use Rattle.std.proofs.Common.{rules}
use Rattle.method_worker.proofs.StepsKeepClosingWord.{loads}
use Rattle.method_worker.proofs.words.load_closing.Goals as goal

pub load-requires : goal.load-requires
load-requires c = (c.requires.same_table.0, search rules, loads _ _ _)
