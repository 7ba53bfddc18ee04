use Rattle.std.proofs.Common.{◌≡◌, length, vec_capacity}
use Rattle.std.specs.List.{All}
use Rattle.scan_rounds.proofs.run_memory.open_lists.Given as goal

abbrev pub invariant-loop : goal.invariant-loop
invariant-loop l = record {
  so_far : length l.lists.items ≡ l.counter;
  capacity : vec_capacity l.lists ≡ l.count;
  places : All (λ j. length j.items ≡ l.places) l.lists.items;
}
