-- What an actor keeps of the tokens that it does not use.
use Rattle.std.specs.Prelude.{ℕ, List}
use Rattle.aio_word.specs.declared.Step.{Step as Event}
use Rattle.aio_word.specs.declared.Step.TheVariants as step
use Rattle.aio_word.specs.declared.Known.{Known}
use Rattle.aio_word.specs.declared.WaitRef.{WaitRef}
use Rattle.aio_word.specs.Stands.{IsIn}
use Rattle.aio_word.specs.declared.Class.{Class}
use Rattle.aio_word.specs.Tokens.{IsDefined, IsStaged, IsInFlight, IsLocal, IsClaimed, IsExecuted}

-- a token of t stands in the list where it stood, and the aim of t is noted as it was
pub record TokenUnchanged (t : WaitRef) (p q : Known) : Type 0 where
  pub defined : IsDefined p t → IsDefined q t
  pub staged : IsStaged p t → IsStaged q t
  pub in_flight : IsInFlight p t → IsInFlight q t
  pub local : IsLocal p t → IsLocal q t
  pub aims : (aim : List ℕ) → IsIn (t, aim) p.aims → IsIn (t, aim) q.aims

-- the same of a claimer's tokens: a claimed I/O stays claimed, and an executed one executed
pub record ClaimUnchanged (t : WaitRef) (p q : Known) : Type 0 where
  pub claimed : IsClaimed p t → IsClaimed q t
  pub executed : (class : Class) → IsExecuted class p t → IsExecuted class q t
  pub aims : (aim : List ℕ) → IsIn (t, aim) p.aims → IsIn (t, aim) q.aims

-- the events that take a token of their incarnation and give the next one, or none
abbrev pub UsesToken : Event → Type 0
UsesToken step.Define = Unit {0}
UsesToken step.Stage = Unit {0}
UsesToken step.Submit = Unit {0}
UsesToken step.Local = Unit {0}
UsesToken step.Reclaim = Unit {0}
UsesToken _ = ⊥
