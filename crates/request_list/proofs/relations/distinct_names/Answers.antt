use Rattle.std.proofs.Common.{arith, ap, length, map, take}
use Rattle.std.specs.Prelude.{string_bytes}
use Rattle.std.proofs.lemmas.List.{length-map, length-take}
use Rattle.request_list.proofs.DistinctNames.{distinct-length}
use Rattle.request_list.proofs.relations.distinct_names.Goals as goal

pub returns-clause-few : goal.returns-clause-few
returns-clause-few c =
    let taken = take c.loop-file.file-index c.args.files.now in
    omega (
      arith,
      length-map c.loop-file.names.items string_bytes,
      ap length c.loop-file.invariant,
      distinct-length (map (λ file. file.now) taken),
      length-map taken (λ file. file.now),
      length-take c.loop-file.file-index c.args.files.now,
    )
