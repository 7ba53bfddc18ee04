use Rattle.std.proofs.Common.{refl}
use Rattle.aio_disk.proofs.OneSegmentCalled.{none_tell}
use Rattle.aio_disk.proofs.file_relation.FileRelation.blocks.Goals as goal

pub count_relation-requires-clause-whole : goal.count_relation-requires-clause-whole
count_relation-requires-clause-whole c = none_tell _ 131072 _ (λ file. refl)
