use Rattle.std.proofs.Common.{◌≡◌, ap, ◌∙◌, arith}
use Rattle.aio_callback.specs.ReadIoView.{ReadIoView}
use Rattle.aio_callback.specs.contracts.record.ReadIo.{the_view}
use Rattle.aio_callback.proofs.FinishesGrow.{one_told, grew_by_all}
use Rattle.aio_callback.proofs.record.ReadIo.finish_all.Goals as goal

pub loop-index-preserved : goal.loop-index-preserved
loop-index-preserved g c =
    one_told _ _ _ (the_view c.self.inside) c.args.self.now c.good-good.result c.loop-index.index _
    c.self.view_is c.good-good.ensures.value c.page_if-page.ensures c.loop-index.invariant
    c.finish.ensures.finished

pub returns : goal.returns
returns g c =
    let low = c.loop-index.auto.index-end in
    let high = c.loop-index-test.false in
    let here : c.loop-index.index ≡ c.self.inside.count = omega arith in
    grew_by_all _ _ c.args.self.now c.loop-index.index
    (here ∙ ap (λ (r : ReadIoView). r.count) c.self.view_is) c.loop-index.invariant
