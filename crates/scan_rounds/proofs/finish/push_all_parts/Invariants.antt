use Rattle.std.proofs.Common.{◌≡◌, ◌+◌, ◌++◌, length, map, Some, vec_len, vec_capacity}
use Rattle.scan_rounds.specs.Scans.{actor_of, disk_of}
use Rattle.scan_rounds.proofs.finish.push_all_parts.Given as goal

abbrev pub invariant-loop-each : goal.invariant-loop-each
invariant-loop-each g l = record {
  actors : l.actors.items ≡ l.fn.actors.items ++ map actor_of (map g.A.HasDiskActor.disk_actor l.yielded);
  disks : map Some l.disks.items
      ≡ map Some l.fn.disks.items ++ map disk_of (map g.A.HasDiskActor.disk_actor l.yielded);
  lengths : (vec_len l.actors ≡ vec_len l.fn.actors + length l.yielded)
      × (vec_len l.disks ≡ vec_len l.fn.disks + length l.yielded);
  capacities : (vec_capacity l.actors ≡ vec_capacity l.fn.actors)
      × (vec_capacity l.disks ≡ vec_capacity l.fn.disks);
}
