use Rattle.std.proofs.Common.{◌∙◌, ◌+◌, ◌-◌, ap, arith, length, sym, ℕ}
use Rattle.std.specs.Prelude.{Option, Some}
use Rattle.request_list.specs.RemainingRequests.{file_range}
use Rattle.request_list.specs.declared.cutter.JobRange.{JobRange}
use Rattle.request_list.proofs.MapPageCount.{first_file, none_asked, some_asked}
use Rattle.request_list.proofs.cutter.ResolvedCommand.greatest.Goals as goal

pub range_of-range-requires-clause-file : goal.range_of-range-requires-clause-file
range_of-range-requires-clause-file c =
    let (skip, map) = c.requires.map in omega (arith, ap length map.of.one_file)

pub returns-then-range-eq0-clause-block : goal.returns-then-range-eq0-clause-block
returns-then-range-eq0-clause-block c =
    let (skip, map) = c.requires.map in
    let range = c.range_of-range.ensures.range
    ∙ ap (file_range c.args.self.now) (first_file c.args.self.now map.of.file map.of.one_file) in
    sym (none_asked c.args.self.now map.of.file map.of.one_file _
    (ap (λ (r : JobRange). r.count) range) (omega arith))

pub returns-else-range-eq0-clause-block : goal.returns-else-range-eq0-clause-block
returns-else-range-eq0-clause-block c =
    let (skip, map) = c.requires.map in
    let range = c.range_of-range.ensures.range
    ∙ ap (file_range c.args.self.now) (first_file c.args.self.now map.of.file map.of.one_file) in
    ap {B = Option ℕ} (λ (n : ℕ). Some (n + (c.range_of-range.result.count - 1)))
    (ap (λ (r : JobRange). r.first) range)
    ∙ sym (some_asked c.args.self.now map.of.file map.of.one_file _
    (ap (λ (r : JobRange). r.count) range) (omega arith))
