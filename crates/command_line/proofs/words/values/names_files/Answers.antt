use Rattle.std.proofs.Common.{◌∙◌, map, sym, ap}
use Rattle.std.specs.Option.{option_map}
use Rattle.command_line.proofs.WordValues.{valid_file_names-found}
use Rattle.command_line.proofs.words.values.names_files.Goals as goal

pub returns : goal.returns
returns c =
    let texts = option_map (λ s. map (λ v. v.now) s.now) in
    let found = sym c.texts_of.ensures ∙ ap texts c.in-Some.is in
    valid_file_names-found _ c.in-Some.words.now _ found c.are_files.ensures
