use Rattle.aio_word.proofs.EventRows.{row-with-mark, row-without-mark}
use Rattle.aio_word.proofs.laws.each_mark_is_the_next_one.Goals as goal

pub returns-clause-marked : goal.returns-clause-marked
returns-clause-marked c = λ w after s k lawful last row mark. let m =
    row-with-mark w after s k record { lawful = lawful; last = last } row mark in (m.place, m.rank)

pub returns-clause-unmarked : goal.returns-clause-unmarked
returns-clause-unmarked c =
    λ w after s lawful last row none. (row-without-mark w after s record {
      lawful = lawful;
      last =
          last;
    } row none).rank
