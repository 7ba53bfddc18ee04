use Rattle.std.proofs.Common.{rules}
use Rattle.method_worker.proofs.StepsKeepClosingWord.{splits}
use Rattle.method_worker.proofs.words.split_word_seat.Goals as goal

pub split_seat-requires : goal.split_seat-requires
split_seat-requires c = (c.requires.same_table.0, search rules, splits _ _)
