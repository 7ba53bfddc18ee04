use Rattle.std.proofs.Common.{◌≡◌, length}
use Rattle.request_list.specs.RemainingRequests.{IsFileRange, remaining_parts}
use Rattle.request_list.proofs.cutter.next_range.Given as goal

abbrev pub invariant-loop-next : goal.invariant-loop-next
invariant-loop-next l = record {
  same : remaining_parts l.asked l.fn.rest l.fn.file ≡ remaining_parts l.asked l.rest l.next;
  within : IsFileRange (length l.asked.relations.now) l.rest;
}
