use Rattle.std.proofs.Common.{refl}
use Rattle.aio_disk.proofs.OneSegmentCalled.{none_tell}
use Rattle.disk_tests.proofs.sources.read_of.Goals as goal

pub read_relation-requires-clause-whole : goal.read_relation-requires-clause-whole
read_relation-requires-clause-whole c = none_tell _ 4 _ (λ segment. refl)
