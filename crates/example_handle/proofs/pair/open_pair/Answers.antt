use Rattle.std.proofs.Common.{◌≡◌, ◌+◌, length, ap, ◌∙◌, arith}
use Rattle.aio_word.specs.declared.Config.{Config}
use Rattle.aio_handle.specs.ContractViews.{ActorView}
use Rattle.example_handle.proofs.ActorsAtRest.{idle-new}
use Rattle.example_handle.proofs.pair.open_pair.Goals as goal

pub returns : goal.returns
returns g c =
    let t = c.in_ok-table.table in
    let all = length c.in_ok-table.actors.items in
    let some = length c.last_actor.new.actors.items in
    let none = length c.last_actor-2.new.actors.items in
    let count : all ≡ 2 = c.in_ok-table.ensures.count in
    let by_first : some + 1 ≡ all = c.last_actor.ensures.number (omega arith) in
    let by_second : none + 1 ≡ some = c.last_actor-2.ensures.number (omega arith) in
    let empty : none ≡ 0 = omega arith in
    let config = c.in_ok-table.ensures.table in
    let backend = c.in-Some-last_actor.ensures.actor in
    record {
      idle = (idle-new t _ _ backend, idle-new t _ _ c.in-Some.ensures.actor);
      numbers = (
        ap (λ (x : Config). x.backends) config,
        ap (λ (x : Config). x.runners) config,
      );
      first = ap (λ (x : ActorView). x.known.number) backend ∙ empty;
    }
