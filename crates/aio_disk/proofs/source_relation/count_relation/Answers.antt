use Rattle.std.proofs.Common.{◌≡◌, ◌-◌, ◌<◌, length, map, get_or, [], arith}
use Rattle.std.proofs.Common.{subst, sym, ap, ◌∙◌}
use Rattle.std.specs.Prelude.{IfSome, Option}
use Rattle.std.specs.Option.{option_map}
use Rattle.std.proofs.lemmas.List.{length-map}
use Rattle.page_check.specs.Told.{block_count}
use Rattle.aio_disk.specs.Source.{Source, with_failures}
use Rattle.aio_disk.proofs.OneSegmentCalled.{count_joined, tells_at, tell_length, told_new}
use Rattle.aio_disk.proofs.OneSegmentCalled.{told_old, told_other}
use Rattle.aio_disk.proofs.source_relation.count_relation.Goals as goal

pub returns-in-Ok-clause-blocks : goal.returns-in-Ok-clause-blocks
returns-in-Ok-clause-blocks g c = λ bytes tell.
    let told = g.S.ByteSource.told in
    let segments = c.args.segments.now in
    let last = length segments - 1 in
    let blocks = c.in-Ok.blocks in
    let some : last < length segments = omega (arith, c.requires.some) in
    let P : Option Source → Type 0 = λ source.
    IfSome source (λ s. blocks ≡ block_count s.bytes) in
    let size = length-map segments told in
    let here : blocks ≡ block_count (get_or bytes last []) =
    tells_at (map told segments) bytes last (λ l. blocks ≡ block_count l) tell
    (omega (arith, some, size))
    (subst P (sym (told_old told segments last c.index-segments-last.result some))
    c.in-Ok.ensures.1) in
    let all = count_joined c.args.size (map told segments) bytes last c.requires.size
    c.requires.whole tell
    (omega (arith, some, size, tell_length (map told segments) bytes tell)) in
    omega (
      arith,
      all,
      here,
      c.blocks_before-before.ensures,
      c.min.ensures,
      c.from-in-Ok.ensures,
      c.from.ensures,
      c.saturating_add-all.ensures,
    )

pub returns-in-Ok-clause-called : goal.returns-in-Ok-clause-called
returns-in-Ok-clause-called g c =
    let told = g.S.ByteSource.told in
    let segments = c.args.segments.now in
    let some : length segments - 1 < length segments = omega (arith, c.requires.some) in
    told_new told segments (length segments - 1) _ some
    ∙ c.in-Ok.ensures.0
    ∙ sym (told_old told segments (length segments - 1) c.index-segments-last.result some)

pub returns-in-Ok-clause-others : goal.returns-in-Ok-clause-others
returns-in-Ok-clause-others g c = λ other differs.
    told_other g.S.ByteSource.told c.args.segments.now (length c.args.segments.now - 1) _ other
    differs

pub returns-in-Err-clause-called : goal.returns-in-Err-clause-called
returns-in-Err-clause-called g c =
    let told = g.S.ByteSource.told in
    let segments = c.args.segments.now in
    let some : length segments - 1 < length segments = omega (arith, c.requires.some) in
    told_new told segments (length segments - 1) _ some
    ∙ c.in-Err.ensures
    ∙ ap (option_map (with_failures 1 0))
    (sym (told_old told segments (length segments - 1) c.index-segments-last.result some))

pub returns-in-Err-clause-others : goal.returns-in-Err-clause-others
returns-in-Err-clause-others g c = λ other differs.
    told_other g.S.ByteSource.told c.args.segments.now (length c.args.segments.now - 1) _ other
    differs
