use Rattle.std.proofs.Common.{◌≡◌, ◌-◌, ◌*◌, ◌<◌, length, map}
use Rattle.std.proofs.Common.{arith, rules, subst, drop, refl, sym}
use Rattle.std.specs.Prelude.{IfSome, Option}
use Rattle.std.proofs.lemmas.List.{length-map}
use Rattle.page_check.specs.Told.{segments_joined}
use Rattle.aio_disk.specs.Disk.{ReadsBlocks}
use Rattle.aio_disk.specs.Source.{Source, NoneFailed, OneFailed}
use Rattle.aio_disk.specs.Segments.{segment_index}
use Rattle.aio_disk.proofs.GivenPages.{no_block}
use Rattle.aio_disk.proofs.OneSegmentCalled.{reads_joined, reads_in_front, tells_at, tell_length}
use Rattle.aio_disk.proofs.OneSegmentCalled.{told_old, told_other, called_at, place_of}
use Rattle.aio_disk.proofs.source_relation.read_relation.Goals as goal

pub returns-then-room-eq0-clause-pages : goal.returns-then-room-eq0-clause-pages
returns-then-room-eq0-clause-pages g c = λ bytes tell. record {
  within = omega arith;
  some = λ below.
      absurd (no_block (segments_joined c.args.size bytes) c.args.first
      (omega (arith, c.requires.some, c.min-room.ensures, c.if-room-eq0.true)) below);
  told_pages = refl;
}

pub returns-in-Ok-clause-pages : goal.returns-in-Ok-clause-pages
returns-in-Ok-clause-pages g c = λ bytes tell.
    let told = g.S.ByteSource.told in
    let segments = c.args.segments.now in
    let index = c.segment_of-index.result in
    let inside = c.args.first - c.blocks_before.result in
    let pages = c.read_blocks.new.pages in
    let room : length pages ≡ c.min-room.result = search rules in
    let below : index < length segments =
    omega (arith, c.segment_of-index.ensures, c.requires.segments) in
    let place = place_of c.args.size c.args.first (length segments) index c.requires.least
    c.requires.segments c.segment_of-index.ensures in
    let before : c.blocks_before.result ≡ c.args.size * index =
    omega (arith, c.blocks_before.ensures, place.0, c.ranges.first.fits) in
    let size = length-map segments told in
    let sizes = tell_length (map told segments) bytes tell in
    let P : Option Source → Type 0 = λ source.
    IfSome source (λ s. ReadsBlocks s.bytes inside c.in-Ok.count pages) in
    let here = tells_at (map told segments) bytes index
    (λ l. ReadsBlocks l inside c.in-Ok.count pages) tell (omega (arith, below, size))
    (subst P (sym (told_old told segments index c.index-segments-index.result below))
    c.in-Ok.ensures.pages.1) in
    reads_in_front (segments_joined c.args.size bytes) c.args.first c.in-Ok.count pages
    (drop c.min-room.result c.args.pages.now) c.in-Ok.ensures.few
    (reads_joined c.args.size (map told segments) bytes c.args.first index inside c.in-Ok.count
    pages c.requires.most c.requires.whole tell (
      omega (arith, below, size, sizes),
      omega (arith, before, place.0),
      λ behind. omega (arith, before, place.1 (omega (arith, behind, size, sizes))),
    )
    (omega (arith, c.in-Ok.ensures.few, room, c.min-room.ensures)) here)

pub returns-in-Ok-clause-called : goal.returns-in-Ok-clause-called
returns-in-Ok-clause-called g c =
    let segments = c.args.segments.now in
    let told = g.S.ByteSource.told in
    called_at told segments c.segment_of-index.result
    (segment_index c.args.size (map told segments) c.args.first)
    c.read_blocks.new.source c.index-segments-index.result
    (λ before now. NoneFailed before now)
    (omega (arith, c.segment_of-index.ensures, c.requires.segments))
    (omega (arith, c.segment_of-index.ensures, length-map segments told))
    c.in-Ok.ensures.pages.0

pub returns-in-Ok-clause-others : goal.returns-in-Ok-clause-others
returns-in-Ok-clause-others g c = λ other differs.
    let segments = c.args.segments.now in
    let told = g.S.ByteSource.told in
    told_other told segments c.segment_of-index.result c.read_blocks.new.source other
    (λ same. differs (omega (arith, same, c.segment_of-index.ensures, length-map segments told)))

pub returns-in-Err-clause-called : goal.returns-in-Err-clause-called
returns-in-Err-clause-called g c =
    let segments = c.args.segments.now in
    let told = g.S.ByteSource.told in
    called_at told segments c.segment_of-index.result
    (segment_index c.args.size (map told segments) c.args.first)
    c.read_blocks.new.source c.index-segments-index.result (λ before now. OneFailed before now)
    (omega (arith, c.segment_of-index.ensures, c.requires.segments))
    (omega (arith, c.segment_of-index.ensures, length-map segments told))
    c.in-Err.ensures.pages

pub returns-in-Err-clause-others : goal.returns-in-Err-clause-others
returns-in-Err-clause-others g c = λ other differs.
    let segments = c.args.segments.now in
    let told = g.S.ByteSource.told in
    told_other told segments c.segment_of-index.result c.read_blocks.new.source other
    (λ same. differs (omega (arith, same, c.segment_of-index.ensures, length-map segments told)))
