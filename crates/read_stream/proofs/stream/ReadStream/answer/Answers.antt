use Rattle.read_stream.proofs.StopIsNextAnswer.{first-in}
use Rattle.read_stream.proofs.stream.ReadStream.answer.Goals as goal

pub lent_block-asked-requires : goal.lent_block-asked-requires
lent_block-asked-requires g c =
    let (block, f, good) = rw c.in-Pinned.is at c.requires.is_open.between.right in
    (f.asked, f.first)

pub lent_block-asked-requires-in-Lent : goal.lent_block-asked-requires-in-Lent
lent_block-asked-requires-in-Lent g c =
    let (block, o) = rw c.in-Lent.is at c.requires.is_open.between.right in
    (o.in_front.asked, o.in_front.first)

pub page-page-requires-in-Lent-clause-ended : goal.page-page-requires-in-Lent-clause-ended
page-page-requires-in-Lent-clause-ended g c =
    (c.requires.is_open.between.invariant.records.issued.records.ended_records
    c.oldest-oldest.result.now (first-in _ c.oldest-oldest.result.now
    c.oldest-oldest.ensures)).has_ended
