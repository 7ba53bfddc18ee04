use Rattle.std.proofs.Common.{refl}
use Rattle.aio_disk.proofs.OneSegmentCalled.{none_tell}
use Rattle.aio_disk.proofs.file_relation.FileRelation.read.Goals as goal

pub read_relation-requires-clause-whole : goal.read_relation-requires-clause-whole
read_relation-requires-clause-whole c = none_tell _ 131072 _ (λ file. refl)
