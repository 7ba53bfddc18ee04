use Rattle.std.proofs.Common.{rules, ◌≡◌, subst, true, false}
use Rattle.clap.specs.Words.{rows_of, found_of}
use Rattle.command_line.specs.PageOptions.{HasPageOptions}
use Rattle.command_line.specs.RefusedOptions.{are_refused}
use Rattle.command_line.specs.Words.{given_options}
use Rattle.command_line.specs.declared.words.given_options.GivenOptions.{GivenOptions}
use Rattle.command_line.proofs.GivenTogether.{no_range_of_words}
use Rattle.command_line.proofs.MapWords.{map_of_words}
use Rattle.command_line.proofs.words.Command.from_matches.Goals as goal

pub invariant_of-result : goal.invariant_of-result
invariant_of-result c =
    let rows = rows_of (found_of c.args.matches) in
    let right : c.is_source.result ≡ true = search rules in
    let refused : are_refused c.given_options-given.result ≡ false = search rules in
    let has : HasPageOptions c.given_options-given.result c.in_ok-settings.settings = search rules in
    let taken : are_refused (given_options rows) ≡ false =
    subst (λ (g : GivenOptions). are_refused g ≡ false) c.given_options-given.ensures refused in
    let options : HasPageOptions (given_options rows) c.in_ok-settings.settings =
    subst (λ (g : GivenOptions). HasPageOptions g c.in_ok-settings.settings)
    c.given_options-given.ensures has in (
      search rules,
      search rules,
      search rules,
      no_range_of_words rows _ _ _ _ taken options (search rules) (search rules) (search rules)
          (search rules),
      search rules,
      map_of_words rows _ _ _ _ _ c.is_source.ensures.source right taken options (search rules),
    )
