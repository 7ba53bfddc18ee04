use Rattle.std.proofs.Common.{◌∙◌, ap, length}
use Rattle.std.specs.Prelude.{string_bytes, unwrap_or}
use Rattle.std.specs.Str.{bytes_eq}
use Rattle.request_list.proofs.DistinctNames.{place_found}
use Rattle.request_list.proofs.relations.number_of.Goals as goal

pub returns-clause-number : goal.returns-clause-number
returns-clause-number c =
    c.unwrap_or.ensures
    ∙ ap (λ place. unwrap_or place (length c.args.names.now)) c.place_of.ensures
    ∙ place_found string_bytes (λ other. bytes_eq other c.args.name.now) c.args.names.now
