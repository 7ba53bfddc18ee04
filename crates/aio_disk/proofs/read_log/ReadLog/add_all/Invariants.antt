use Rattle.std.proofs.Common.{◌≡◌, ◌++◌, take, vec_capacity}
use Rattle.aio_disk.proofs.read_log.ReadLog.add_all.Given as goal

abbrev pub invariant-loop-entry : goal.invariant-loop-entry
invariant-loop-entry l = record {
  room : vec_capacity l.self-inside.reads ≡ vec_capacity l.initial.self-inside.reads;
  reads : l.self-inside.reads.items ≡ take (vec_capacity l.initial.self-inside.reads)
      (l.initial.self-inside.reads.items ++ take l.entry-index l.entries);
}
