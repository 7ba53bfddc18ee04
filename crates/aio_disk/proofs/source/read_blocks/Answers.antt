use Rattle.std.proofs.Common.{◌≡◌, ◌*◌, ◌/◌, ℕ, [], length, subst, arith, rules, refl, ◌∙◌}
use Rattle.std.specs.Prelude.{IfSome}
use Rattle.std.proofs.lemmas.List.{drop_all}
use Rattle.aio_disk.specs.Source.{GivesBlock}
use Rattle.aio_disk.proofs.GivenPages.{row_given}
use Rattle.aio_disk.proofs.source.read_blocks.Goals as goal

pub returns-in-Ok-clause-pages : goal.returns-in-Ok-clause-pages
returns-in-Ok-clause-pages g c =
    let told = g.S.ByteSource.told c.args.source.now in
    let pages = c.args.pages.now in
    let given = c.read_some.new.bytes in
    let size : length given ≡ length pages * 8192 = search rules in
    let none : c.split_bytes-bytes.result.1.now ≡ [] =
    c.split_bytes-bytes.ensures.rest ∙ drop_all (length pages) pages (omega arith) in
    let Q : ℕ → Type 0 = λ block.
    IfSome told (λ s. GivesBlock s.bytes (8192 * block) c.in-Ok.got given) in (
      c.in-Ok.ensures.bytes.0,
      row_given told given c.split_bytes-bytes.result.1.now (length pages) c.args.first
          c.in-Ok.got (c.in-Ok.got / 8192) c.requires.some size none c.in-Ok.ensures.few refl
          c.requires.blocks (subst Q c.from.ensures c.in-Ok.ensures.bytes.1),
    )
