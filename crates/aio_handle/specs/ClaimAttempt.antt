-- What comes of trying to claim an I/O and executing it where the claim was won.
use Rattle.std.specs.Prelude.{◌≢◌, ℕ, ◌+◌, ◌*◌, ◌<◌, ◌≤◌, List, [], ◌∷◌}
use Rattle.aio_word.specs.declared.Word.{Word}
use Rattle.aio_word.specs.declared.Known.{Known}
use Rattle.aio_word.specs.declared.WaitRef.{WaitRef}
use Rattle.aio_word.specs.declared.Kind.TheVariants as kind
use Rattle.aio_word.specs.declared.Step.TheVariants.{Claim}
use Rattle.aio_word.specs.Events.{mark_count}
use Rattle.aio_word.specs.Stands.{seen_rank}
use Rattle.aio_word.specs.Tokens.{make_mark}
use Rattle.aio_handle.specs.LifeWords.{unclaimed_word, claimed_word}
use Rattle.aio_handle.specs.CallEvents.{EventMade, WordLoaded}
use Rattle.aio_handle.specs.Execution.{ExecutesAll}

-- the claim was won, and the executor ended what was claimed
pub record ClaimWon (t : WaitRef) (p q : Known) (reads reads' faults faults' : ℕ) : Type 0 where
  pub aim : List ℕ
  pub between : Known
  pub event_made : EventMade Claim t.handle (unclaimed_word t.generation)
      (claimed_word t.generation) aim p between
  pub ended : ExecutesAll (make_mark t kind.Claimed ∷ []) between q reads reads' faults faults'

-- the claim was lost to a word that was not submitted and unclaimed under that generation
pub record ClaimLost (t : WaitRef) (p q : Known) : Type 0 where
  pub found : Word
  pub word_load : WordLoaded t.handle found p q
  pub other : found ≢ unclaimed_word t.generation

-- the actor has seen the incarnation claimed (place 4) or further, or a later one of its handle
abbrev pub KnowsClaimed : Known → WaitRef → Type 0
KnowsClaimed p t = 8 * t.generation + 4 ≤ seen_rank p t.handle

-- where its Submitted mark stood in the actor's list
abbrev pub OwnerKnowsClaimed : WaitRef → Known → Known → Type 0
OwnerKnowsClaimed t p q = 0 < mark_count t kind.Submitted p.marks → KnowsClaimed q t
