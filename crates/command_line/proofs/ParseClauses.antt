-- What the clauses of a parse say of the command.
use Rattle.std.proofs.Common.{◌≡◌, true, List, [], ◌∷◌, refl, subst, ⊎_elim}
use Rattle.std.specs.Prelude.{Option, None}
use Rattle.clap.specs.Words.{App, Text, fault_of, is_simple, is_simple_and_free}
use Rattle.clap.specs.Words.{HasMatchesOf, HasKind, IsAmong, Kinds, kind_of, rows_of, found_of}
use Rattle.clap.specs.declared.error.Error.{Error}
use Rattle.clap.specs.declared.error.kind.ErrorKind.{ErrorKind}
use Rattle.clap.specs.declared.error.kind.ErrorKind.TheVariants as kind
use Rattle.clap.specs.declared.parser.matches.ArgMatches.{ArgMatches}
use Rattle.command_line.specs.Grammar.{the_command}
use Rattle.command_line.specs.Words.{command_of, parsed_command, if_accepted}

is_plain : is_simple_and_free the_command ≡ true
unfolding the_command
is_plain = refl

is_simple_command : is_simple the_command ≡ true
unfolding the_command
is_simple_command = refl

-- words that were parsed have no fault, and what was found is what the definition finds
pub taken : (a : App) (ws : List Text) (m : ArgMatches) → a ≡ the_command
    → (is_simple_and_free a ≡ true → fault_of a ws ≡ [])
    → HasMatchesOf a ws m
    → command_of ws ≡ parsed_command (rows_of (found_of m))
taken a ws m same no_fault found =
    let P : App → Type 0 = λ b. (is_simple_and_free b ≡ true → fault_of b ws ≡ []) in
    let Q : App → Type 0 = λ b. HasMatchesOf b ws m in
    let no_fault' : P the_command = subst P same no_fault in
    let found' : Q the_command = subst Q same found in
    rw (no_fault' is_plain, (found' is_simple_command).0) refl

none_among : (k : ErrorKind) (ks : Kinds) → IsAmong k ks → ks ≡ [] → ⊥
none_among k [] a e = a
none_among k (x ∷ xs) a e = cc

no_command : {F X : Type 0} (faults : List F) (found : Option X) → ¬ (faults ≡ [])
    → if_accepted faults found ≡ None
no_command [] found fault = absurd (fault refl)
no_command (fault ∷ faults) found _ = refl

faulty : (ws : List Text) → ¬ (fault_of the_command ws ≡ []) → command_of ws ≡ None
faulty ws fault = no_command (fault_of the_command ws) _ fault

-- words that were refused are no command, where memory was not wanted
pub refused : (a : App) (ws : List Text) (e : Error) → a ≡ the_command
    → (is_simple_and_free a ≡ true → HasKind (fault_of a ws) e)
    → ¬ (kind_of e ≡ kind.OutOfMemory)
    → command_of ws ≡ None
refused a ws e same fault memory =
    let P : App → Type 0 = λ b. (is_simple_and_free b ≡ true → HasKind (fault_of b ws) e) in
    let fault' : P the_command = subst P same fault in
    faulty ws (λ took. ⊎_elim (λ is. memory is)
    (λ among. none_among (kind_of e) (fault_of the_command ws) among took) (fault' is_plain))
