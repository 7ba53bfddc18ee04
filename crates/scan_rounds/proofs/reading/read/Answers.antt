use Rattle.std.proofs.Common.{sym, ap, ◌∙◌, subst, arith, length}
use Rattle.aio_word.specs.Events.{lives_ended}
use Rattle.stream_answer.specs.StreamAnswers.{stream_entries}
use Rattle.read_stream.specs.StreamViews.{StreamView}
use Rattle.read_stream.specs.Desks.{IsFreeDesk}
use Rattle.read_stream.specs.declared.desk.Desk.{Desk}
use Rattle.read_stream.specs.declared.desk.Settings.{Settings}
use Rattle.read_stream.specs.ActorProgress.{local_mark_count}
use Rattle.read_stream.proofs.ActorAdvancedLaws.{advanced_then}
use Rattle.scan_jobs.specs.BlockFilter.{filter_of_skipping}
use Rattle.scan_rounds.proofs.WiderAnswers.{given_moved}
use Rattle.scan_jobs.proofs.SourceEntries.{source_count, source_entries, source_few}
use Rattle.scan_rounds.proofs.reading.read.Goals as goal

pub open-stream-requires-clause-room : goal.open-stream-requires-clause-room
open-stream-requires-clause-room g c =
    let (room, is, enough) = c.requires.room in
    let few = source_few (filter_of_skipping c.args.blocks.by_map) c.args.blocks.first
    c.args.blocks.count in
    let same = ap length c.new-source.ensures in
    (room, is, omega arith)

pub take_all-ending-requires-clause-few : goal.take_all-ending-requires-clause-few
take_all-ending-requires-clause-few g c =
    let few = source_few (filter_of_skipping c.args.blocks.by_map) c.args.blocks.first
    c.args.blocks.count in
    let same = ap length (ap (λ (z : StreamView (Unit {0})). z.blocks) c.open-stream.ensures.stream
    ∙ c.new-source.ensures) in
    let most = c.requires.few in
    omega arith

pub returns-clause-actor_advanced : goal.returns-clause-actor_advanced
returns-clause-actor_advanced g c =
    advanced_then _ _ _ _ _ _ _ _ _ c.take_all-ending.ensures.advanced.actor_advanced
    c.close-desk.ensures.advanced.actor_advanced

pub returns-clause-desk : goal.returns-clause-desk
returns-clause-desk g c =
    let later = c.take_all-ending.ensures.stream in
    let opened = c.open-stream.ensures.stream in
    let name = c.close-desk.ensures.desk.0 ∙ (ap (λ (z : StreamView (Unit {0})). z.desk) later
    ∙ ap (λ (z : StreamView (Unit {0})). z.desk) opened) in
    let settings = c.close-desk.ensures.desk.2
    ∙ (ap (λ (z : StreamView (Unit {0})). z.settings) later
    ∙ (ap (λ (z : StreamView (Unit {0})). z.settings) opened
    ∙ ap (λ (d : Desk _ (Unit {0})). d.settings) c.expect.ensures.expecting)) in
    let same = c.desk-1.given.1 (sym name) ∙ c.end_borrow.ensures in (
      subst (λ d. IsFreeDesk d) (sym same) c.close-desk.ensures.desk.1,
      ap (λ (d : Desk _ (Unit {0})). d.settings.rules) same
          ∙ ap (λ (z : Settings). z.rules) settings,
    )

pub returns-clause-lives_bound : goal.returns-clause-lives_bound
returns-clause-lives_bound g c h =
    let later = c.take_all-ending.ensures.stream in
    let opened = c.open-stream.ensures.stream in
    let few = source_few (filter_of_skipping c.args.blocks.by_map) c.args.blocks.first
    c.args.blocks.count in
    let long = ap length (ap (λ (z : StreamView (Unit {0})). z.blocks) later
    ∙ (ap (λ (z : StreamView (Unit {0})). z.blocks) opened ∙ c.new-source.ensures)) in
    let taken = c.close-desk.ensures.few in
    let marks = ap (λ (z : StreamView (Unit {0})). lives_ended h z.actor_was.known.marks) later
    ∙ ap (λ (z : StreamView (Unit {0})). lives_ended h z.actor_was.known.marks) opened in
    let ended = c.close-desk.ensures.lives_bound h in
    omega arith

pub returns-clause-results_bound : goal.returns-clause-results_bound
returns-clause-results_bound g c =
    let later = c.take_all-ending.ensures.stream in
    let opened = c.open-stream.ensures.stream in
    let many = source_count (filter_of_skipping c.args.blocks.by_map) c.args.blocks.relation
    c.args.blocks.first c.args.blocks.count in
    let long = ap length (ap (λ (z : StreamView (Unit {0})). z.blocks) later
    ∙ (ap (λ (z : StreamView (Unit {0})). z.blocks) opened ∙ c.new-source.ensures)) in
    let marks = ap (λ (z : StreamView (Unit {0})). local_mark_count z.actor_was.known.marks) later
    ∙ ap (λ (z : StreamView (Unit {0})). local_mark_count z.actor_was.known.marks) opened in
    let taken = c.close-desk.ensures.few in
    let count = c.close-desk.ensures.count in
    omega arith

pub returns-clause-given : goal.returns-clause-given
returns-clause-given g c =
    let opened = c.open-stream.ensures.stream in
    given_moved _ _ _ _ _ _ _ _ _ _ _ _ _ _ _
    (ap (λ (z : StreamView (Unit {0})). z.settings.rules) opened
    ∙ ap (λ (d : Desk _ (Unit {0})). d.settings.rules) c.expect.ensures.expecting)
    (ap (λ (z : StreamView (Unit {0})). z.actor_was) opened)
    (ap (stream_entries c.args.blocks.relation)
    (ap (λ (z : StreamView (Unit {0})). z.blocks) opened ∙ c.new-source.ensures)
    ∙ source_entries (filter_of_skipping c.args.blocks.by_map) c.args.blocks.relation
    c.args.blocks.first
    c.args.blocks.count)
    c.close-desk.ensures.advanced.actor_advanced c.take_all-ending.ensures.given
