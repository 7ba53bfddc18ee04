-- What an actor has seen of the incarnations that it was to claim.
use Rattle.std.specs.Prelude.{◌≡◌, ◌≢◌, ◌⊎◌, List, ◌++◌}
use Rattle.aio_word.specs.declared.Known.{Known}
use Rattle.aio_word.specs.declared.Kind.TheVariants as kind
use Rattle.aio_word.specs.declared.Look.{Look}
use Rattle.aio_word.specs.declared.Mark.{Mark}
use Rattle.aio_word.specs.declared.WaitRef.{WaitRef}
use Rattle.aio_word.specs.declared.Word.{Word}
use Rattle.aio_word.specs.Words.{IsLawful, packed_word}
use Rattle.aio_word.specs.Stands.{IsIn}
use Rattle.aio_word.specs.Tokens.{make_mark}
use Rattle.aio_handle.specs.KnownChanges.{look}
use Rattle.aio_handle.specs.LifeWords.{unclaimed_word}

-- between p and q the actor appended the Claimed mark of the incarnation
pub record AppendsClaim (t : WaitRef) (p q : Known) : Type 0 where
  pub more : List Mark
  pub marks : q.marks ≡ p.marks ++ more
  pub has_claim : IsIn (make_mark t kind.Claimed) more

-- between p and q a look of the actor at the handle found a word that was not Submitted, unclaimed,
-- of that generation
pub record FindsUnclaimable (t : WaitRef) (p q : Known) : Type 0 where
  pub more : List Look
  pub looks : q.looks ≡ p.looks ++ more
  pub word : Word
  pub lawful : IsLawful word
  pub look_found : IsIn (look t.handle (packed_word word)) more
  pub not_claimable : word ≢ unclaimed_word t.generation

-- the actor claimed the incarnation, or found that it could not be claimed
abbrev pub ClaimsOrFindsUnclaimable : Known → Known → WaitRef → Type 0
ClaimsOrFindsUnclaimable p q t = AppendsClaim t p q ⊎ FindsUnclaimable t p q
