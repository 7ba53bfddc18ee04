-- The tokens of a batch.
use Rattle.std.specs.Prelude.{List}
use Rattle.aio_word.specs.declared.Known.{Known}
use Rattle.aio_word.specs.declared.WaitRef.{WaitRef}
use Rattle.aio_word.specs.Tokens.{IsStaged}
use Rattle.aio_handle.specs.TokenLists.{AreDistinctTokens}

-- each is staged in this actor's list, and no two are of one incarnation
abbrev pub AreStagedTokens : {R : Type 0} → Known → List (WaitRef × R) → Type 0
AreStagedTokens {R} p ts = AreDistinctTokens (λ (t : WaitRef × R). t.0) IsStaged p ts
