use Rattle.std.proofs.Common.{◌≡◌, map, take}
use Rattle.std.specs.Prelude.{string_bytes}
use Rattle.command_line.specs.Command.{without_duplicates}
use Rattle.request_list.proofs.relations.distinct_names.Given as goal

abbrev pub invariant-loop-file : goal.invariant-loop-file
invariant-loop-file l =
    map string_bytes l.names.items ≡ without_duplicates (map (λ file. file.now) (take l.file-index
    l.files))
