use Rattle.std.proofs.Common.{◌∙◌, sym, ap, subst, arith, length}
use Rattle.read_stream.specs.Desks.{IsFreeDesk, desk_settings}
use Rattle.read_stream.specs.StreamViews.{StreamView}
use Rattle.example_stream.proofs.items.count_items.Goals as goal

pub open-stream-requires-clause-room : goal.open-stream-requires-clause-room
open-stream-requires-clause-room g c =
    let (room, is, enough) = c.requires.room in
    let many = c.new.ensures.count in
    (room, is, omega arith)

pub count_all-counted-requires-clause-few : goal.count_all-counted-requires-clause-few
count_all-counted-requires-clause-few g c =
    let blocks = ap (λ (z : StreamView (Unit {0})). length z.blocks) c.open-stream.ensures.stream in
    let many = c.new.ensures.count in
    omega arith

pub returns-clause-desk : goal.returns-clause-desk
returns-clause-desk g c =
    let opened = c.count_all-counted.ensures.stream in
    let name = c.close-desk.ensures.desk.0
    ∙ (ap (λ (z : StreamView (Unit {0})). z.desk) opened
    ∙ ap (λ (z : StreamView (Unit {0})). z.desk) c.open-stream.ensures.stream) in
    let settings = c.close-desk.ensures.desk.2
    ∙ (ap (λ (z : StreamView (Unit {0})). z.settings) opened
    ∙ ap (λ (z : StreamView (Unit {0})). z.settings) c.open-stream.ensures.stream) in
    let same = c.desk-1.given.1 (sym name) ∙ c.end_borrow.ensures in (
      subst (λ d. IsFreeDesk d) (sym same) c.close-desk.ensures.desk.1,
      ap desk_settings same ∙ settings,
    )
