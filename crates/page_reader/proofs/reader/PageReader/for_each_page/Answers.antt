use Rattle.std.proofs.Common.{◌≡◌, ℕ, length, ap, ◌∙◌, subst, arith}
use Rattle.stream_answer.specs.StreamAnswers.{stream_entries}
use Rattle.page_reader.specs.PagesTaken.{PagesTaken, UnreadHasCause}
use Rattle.page_reader.specs.Readers.{ReaderView, faults_of}
use Rattle.page_reader.proofs.FailedReadCounts.{read_has_failed}
use Rattle.page_reader.proofs.LivesLeft.{lives_after}
use Rattle.page_reader.proofs.UnreadBlocks.{taken_wider, unread_has_cause}
use Rattle.page_reader.proofs.reader.PageReader.for_each_page.Goals as goal

pub returns-clause-taken : goal.returns-clause-taken
returns-clause-taken g c =
    subst (λ (r : ReaderView). PagesTaken (g.C.PageConsumer.holds c.read_pages-ended.new.consumer)
    r.rules g.W.World.told (stream_entries c.args.relation (g.S.BlockSource.left c.args.source))
    c.read_pages-ended.result) c.self.view_is
    (taken_wider _ _ (λ e may. tt) _ _ _ _ _ c.read_pages-ended.ensures.taken)

pub returns-clause-unread : goal.returns-clause-unread
returns-clause-unread g c =
    let before : g.D.Disk.faults c.in-Some.disk ≡ c.args.self.now.faults =
    ap (faults_of g.D.Disk) c.in-Some.ensures.value
    ∙ ap (λ (r : ReaderView). r.faults) c.self.view_is in
    subst (λ (n : ℕ). UnreadHasCause n (g.D.Disk.faults c.read_pages-ended.new.runner.disk)
    c.read_pages-ended.result) before
    (unread_has_cause _ _ _ (λ e may. read_has_failed _ _ _ _ _ _ e c.self.invariant.at_rest.alone
    c.read_pages-ended.ensures.advanced may) _ _ _ _ _ c.read_pages-ended.ensures.taken)

pub returns-clause-room : goal.returns-clause-room
returns-clause-room g c =
    let same = c.read_pages-ended.ensures.same in
    let before = ap (λ (r : ReaderView). r.room) c.self.view_is in
    let after = lives_after c.self.inside.memory.actor.known c.read_pages-ended.new.actor.known
    c.self.inside.room c.room-self-inside.result (length (g.S.BlockSource.left c.args.source)) same.2
    same.1 c.self.invariant.at_rest.backend c.self.invariant.lives c.room-self-inside.ensures
    c.read_pages-ended.ensures.lives_bound in
    omega arith
