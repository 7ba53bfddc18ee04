use Rattle.std.proofs.Common.{◌≡◌, take}
use Rattle.aio_disk.specs.OpenFiles.{open_files}
use Rattle.aio_disk.proofs.opened_relations.OpenedRelations.share.Given as goal

abbrev pub invariant-loop-relation : goal.invariant-loop-relation
invariant-loop-relation l =
    open_files l.shared.items
    ≡ open_files (take l.relation-index l.self.relations.items)
