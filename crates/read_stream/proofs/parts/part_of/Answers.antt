use Rattle.std.proofs.Common.{◌≡◌, ◌-◌, arith, sym, ◌∙◌, ap}
use Rattle.page_check.specs.declared.rules.DamagedPages.{DamagedPages}
use Rattle.page_check.specs.declared.rules.DamagedPages.TheVariants.{Refuse}
use Rattle.aio_result.specs.declared.AioResult.{AioResult}
use Rattle.read_callbacks.specs.GoodPages.{HasBadPage}
use Rattle.aio_callback.specs.ReadIoView.{ReadIoView}
use Rattle.aio_callback.specs.StreamOutcomes.{stream_ids}
use Rattle.read_stream.proofs.PartCases.{part_rest, part_invalid, part_unread, part_past}
use Rattle.read_stream.proofs.parts.part_of.Goals as goal

pub returns-then-index-good-clause-part : goal.returns-then-index-good-clause-part
returns-then-index-good-clause-part g c =
    let io : ReadIoView = c.args.io.now in
    let law = c.stream_records_end_in_six_ways.ensures in
    let good = c.good-good.ensures.value in
    let first = c.first.ensures in
    let below = c.if-index-good.true in (
      omega arith,
      λ damaged ids. law.marks g.W.World.told g.W.World.relations io damaged c.requires.reads_fit
          c.requires.has_ended ids (c.args.block - io.first),
    )

pub returns-then-result-eq2-clause-part : goal.returns-then-result-eq2-clause-part
returns-then-result-eq2-clause-part g c =
    let io : ReadIoView = c.args.io.now in
    let law = c.stream_records_end_in_six_ways.ensures in
    let good = c.good-good.ensures.value in
    let first = c.first.ensures in
    let is : c.result-result.result ≡ io.result = c.result-result.ensures in
    let id : c.result-result.result.id ≡ io.result.id = ap (λ (z : AioResult). z.id) is in
    let two = c.if-result-eq2.true in
    let below = c.if-index-good.false in
    let above = c.if-index-good-2.false in
    let stops : (damaged : DamagedPages) → io.ids ≡ stream_ids damaged
    → (damaged ≡ Refuse) × HasBadPage g.W.World.told io.checksums io.relation c.args.block =
    λ damaged ids.
    (let case = law.case g.W.World.told g.W.World.relations io damaged c.requires.reads_fit
    c.requires.has_ended ids in
    let given = law.given io damaged ids in
    part_invalid damaged g.W.World.told io c.args.block c.requires.covers_block case
    (omega arith)
    (ap (λ (z : AioResult). z.status) (sym is) ∙ c.in-Error.is) (omega arith)) in
    let (damaged, ids) = c.requires.ids in
    (λ other same. (stops other same).0, (stops damaged ids).1)

pub returns-then-result-eq1-clause-part : goal.returns-then-result-eq1-clause-part
returns-then-result-eq1-clause-part g c =
    let io : ReadIoView = c.args.io.now in
    let law = c.stream_records_end_in_six_ways.ensures in
    let (damaged, ids) = c.requires.ids in
    let case = law.case g.W.World.told g.W.World.relations io damaged c.requires.reads_fit
    c.requires.has_ended ids in
    let given = law.given io damaged ids in
    let good = c.good-good.ensures.value in
    let first = c.first.ensures in
    let is : c.result-result.result ≡ io.result = c.result-result.ensures in
    let id : c.result-result.result.id ≡ io.result.id = ap (λ (z : AioResult). z.id) is in
    let er : c.result-result.result.error ≡ io.result.error = ap (λ (z : AioResult). z.error) is in
    let two = c.if-result-eq2.false in
    let one = c.if-result-eq1.true in
    let below = c.if-index-good.false in
    let above = c.if-index-good-2.false in
    let both = part_unread damaged g.W.World.told io c.args.block c.requires.covers_block case
    (omega arith)
    (ap (λ (z : AioResult). z.status) (sym is) ∙ c.in-Error.is) (λ e. two (id ∙ e))
    (omega arith) in
    both

pub returns-else-result-eq1-clause-part : goal.returns-else-result-eq1-clause-part
returns-else-result-eq1-clause-part g c =
    let io : ReadIoView = c.args.io.now in
    let law = c.stream_records_end_in_six_ways.ensures in
    let (damaged, ids) = c.requires.ids in
    let case = law.case g.W.World.told g.W.World.relations io damaged c.requires.reads_fit
    c.requires.has_ended ids in
    let given = law.given io damaged ids in
    let good = c.good-good.ensures.value in
    let first = c.first.ensures in
    let is : c.result-result.result ≡ io.result = c.result-result.ensures in
    let id : c.result-result.result.id ≡ io.result.id = ap (λ (z : AioResult). z.id) is in
    let er : c.result-result.result.error ≡ io.result.error = ap (λ (z : AioResult). z.error) is in
    let two = c.if-result-eq2.false in
    let one = c.if-result-eq1.false in
    let below = c.if-index-good.false in
    let above = c.if-index-good-2.false in
    part_past damaged g.W.World.told io c.args.block c.requires.covers_block case (omega arith)
    (ap (λ (z : AioResult). z.status) (sym is) ∙ c.in-Error.is) (λ e. two (id ∙ e))
    (λ e. one (er ∙ e))

pub returns-in_default-clause-rest : goal.returns-in_default-clause-rest
returns-in_default-clause-rest g c =
    let io : ReadIoView = c.args.io.now in
    let law = c.stream_records_end_in_six_ways.ensures in
    let (damaged, ids) = c.requires.ids in
    let case = law.case g.W.World.told g.W.World.relations io damaged c.requires.reads_fit
    c.requires.has_ended ids in
    let given = law.given io damaged ids in
    let good = c.good-good.ensures.value in
    let first = c.first.ensures in
    let is : c.result-result.result ≡ io.result = c.result-result.ensures in
    let below = c.if-index-good.false in
    part_rest damaged g.W.World.told io c.args.block c.requires.covers_block case (omega arith)
    (λ e. c.in_default.not-Error (ap (λ (z : AioResult). z.status) is ∙ e))
