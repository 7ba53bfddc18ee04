use Rattle.std.proofs.Common.{◌≡◌, length}
use Rattle.page_fixtures.proofs.files.names_of.Given as goal

abbrev pub invariant-loop-word : goal.invariant-loop-word
invariant-loop-word l = length l.names.items ≡ l.word-index
