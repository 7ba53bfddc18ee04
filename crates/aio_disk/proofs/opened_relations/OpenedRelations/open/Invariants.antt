use Rattle.std.proofs.Common.{◌≡◌, map, take, length}
use Rattle.std.specs.Prelude.{string_bytes}
use Rattle.aio_disk.proofs.opened_relations.OpenedRelations.open.Given as goal

abbrev pub invariant-loop-name : goal.invariant-loop-name
invariant-loop-name g l = record {
  named : map string_bytes l.opened_names.items ≡ map string_bytes (take l.name-index l.names);
  one_each : length l.opened_names.items ≡ length l.relations.items;
}
