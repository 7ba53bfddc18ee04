-- Real files that are open.
use Rattle.std.specs.Prelude.{List, map}
use Rattle.std.specs.Arc.{arc_value}
use Rattle.std.specs.declared.fs.File.{File}
use Rattle.aio_disk.specs.declared.file_relation.FileRelation.{FileRelation}

-- those of each relation, in their order
abbrev pub open_files : List FileRelation → List (List File)
open_files relations = map (λ relation. map arc_value relation.segments.items) relations
