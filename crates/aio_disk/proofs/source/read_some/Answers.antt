use Rattle.std.proofs.Common.{◌≡◌, arith, rules, length, ◌-◌, ◌+◌}
use Rattle.aio_disk.specs.Source.{GivesBytes}
use Rattle.aio_disk.proofs.SourceCalls.{none_failed_both, then_one_failed, told_still, parts_held}
use Rattle.aio_disk.proofs.SourceCalls.{parts_end}
use Rattle.aio_disk.proofs.source.read_some.Goals as goal

pub returns-in-Ok-eq0-clause-bytes : goal.returns-in-Ok-eq0-clause-bytes
returns-in-Ok-eq0-clause-bytes g c =
    let room = length c.loop-done.bytes - c.loop-done.done in
    let size : length c.read_part.new.bytes ≡ room = search rules in (
      none_failed_both _ _ _ c.loop-done.invariant.passed c.in-Ok-eq0.ensures.bytes.0,
      parts_end _ c.loop-done.bytes c.read_part.new.bytes c.args.offset c.loop-done.done
          c.in-Ok-eq0.field-0 room (omega arith) size (omega arith) (omega arith)
          c.loop-done.invariant.bytes_held
          (told_still _ _
          (λ bytes. GivesBytes bytes (c.args.offset + c.loop-done.done) c.in-Ok-eq0.field-0
          c.read_part.new.bytes) c.loop-done.invariant.passed c.in-Ok-eq0.ensures.bytes.1),
    )

pub loop-done-preserved : goal.loop-done-preserved
loop-done-preserved g c =
    let room = length c.loop-done.bytes - c.loop-done.done in
    let size : length c.read_part.new.bytes ≡ room = search rules in record {
      within = search rules;
      passed = none_failed_both _ _ _ c.loop-done.invariant.passed c.in-Ok.ensures.bytes.0;
      bytes_held = parts_held _ c.loop-done.bytes c.read_part.new.bytes c.args.offset c.loop-done.done
          c.in-Ok.count room (omega arith) size
          (omega (arith, size, c.in-Ok.ensures.few))
          c.loop-done.invariant.bytes_held
          (told_still _ _
          (λ bytes. GivesBytes bytes (c.args.offset + c.loop-done.done) c.in-Ok.count
          c.read_part.new.bytes) c.loop-done.invariant.passed c.in-Ok.ensures.bytes.1);
    }

pub returns-in-Err-clause-bytes : goal.returns-in-Err-clause-bytes
returns-in-Err-clause-bytes g c =
    then_one_failed _ _ _ c.loop-done.invariant.passed c.in-Err.ensures.bytes
