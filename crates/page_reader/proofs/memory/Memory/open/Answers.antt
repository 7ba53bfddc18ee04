use Rattle.std.proofs.Common.{sym, subst}
use Rattle.aio_word.specs.Words.{last_generation}
use Rattle.aio_handle.specs.ContractViews.{ActorView}
use Rattle.aio_handle.specs.FreeHandles.{IsRoom}
use Rattle.page_reader.specs.Readers.{IsAtRest}
use Rattle.page_reader.proofs.NewBackend.{new_lives, new_rests, only_actor}
use Rattle.page_reader.proofs.memory.Memory.open.Goals as goal

pub returns-clause-at_rest : goal.returns-clause-at_rest
returns-clause-at_rest g c =
    let made = c.in_ok-table.ensures in
    subst (λ (a : ActorView). IsAtRest c.in_ok-table.table a)
    (sym (only_actor _ _ _ _ c.in-Some.ensures.items made.count made.actors))
    (new_rests c.in_ok-table.table made.table)

pub returns-clause-room : goal.returns-clause-room
returns-clause-room g c =
    let made = c.in_ok-table.ensures in
    subst (λ (a : ActorView). IsRoom a.known.config a.known last_generation)
    (sym (only_actor _ _ _ _ c.in-Some.ensures.items made.count made.actors))
    (new_lives c.in_ok-table.table made.table)
