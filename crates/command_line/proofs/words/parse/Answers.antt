use Rattle.std.proofs.Common.{◌∙◌}
use Rattle.command_line.proofs.ParseClauses.{taken, refused}
use Rattle.command_line.proofs.words.parse.Goals as goal

pub returns-in-Ok-try_get_matches_from-clause-ok :
    goal.returns-in-Ok-try_get_matches_from-clause-ok
returns-in-Ok-try_get_matches_from-clause-ok c =
    let clauses = c.in-Ok-try_get_matches_from.ensures in
    taken _ _ _ c.in-Ok.ensures clauses.kinds clauses.matches

pub returns-in_default-kind : goal.returns-in_default-kind
returns-in_default-kind c = record {
  ok = tt;
  err = λ _. refused _ _ c.in-Err.error c.in-Ok.ensures c.in-Err.ensures.kinds
      (λ is. c.in_default-kind.not-OutOfMemory (c.kind-kind.ensures ∙ is));
}
