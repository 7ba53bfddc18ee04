use Rattle.std.proofs.Common.{refl}
use Rattle.aio_disk.proofs.OneSegmentCalled.{none_tell}
use Rattle.disk_tests.proofs.sources.count_of.Goals as goal

pub count_relation-requires-clause-whole : goal.count_relation-requires-clause-whole
count_relation-requires-clause-whole c = none_tell _ 4 _ (λ segment. refl)
