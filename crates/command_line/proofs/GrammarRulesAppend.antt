-- Arguments that are added to a command one by one.
use Rattle.std.proofs.Common.{◌≡◌, ◌∙◌, ℕ, ◌+◌, ◌<◌, List, [], ◌∷◌, ◌++◌, map, take, length, get_or}
use Rattle.std.proofs.Common.{ap, refl, add-one, append_assoc}
use Rattle.std.proofs.Math.Seq.{take-suc}
use Rattle.std.proofs.lemmas.List.{map-append}
use Rattle.clap.specs.Words.{App, Rule, with_rule}
use Rattle.command_line.specs.Grammar.{with_rules}

-- the command with one more of the arguments
pub with_rules-more : {X : Type 0} (start old new : App) (rule : X → Rule) (names : List X) (k : ℕ)
    (other : X) → k < length names
    → old ≡ with_rules start (map rule (take k names))
    → new ≡ with_rule old (rule (get_or names k other))
    → new ≡ with_rules start (map rule (take (k + 1) names))
with_rules-more start old new rule names k other inside before added =
    let next : take (k + 1) names ≡ take k names ++ (get_or names k other ∷ [])
    = rw (add-one k) (take-suc names k other inside) in
    let mapped = map-append rule (take k names) (get_or names k other ∷ []) in
    let joined = append_assoc start.top.rules (map rule (take k names))
    (rule (get_or names k other) ∷ []) in
    added ∙ ap (λ a. with_rule a (rule (get_or names k other))) before
    ∙ rw (next, mapped, joined) refl
