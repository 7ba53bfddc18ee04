-- The word of a handle as a number, the place of its generation in a life, and when an incarnation
-- is done.
use Rattle.std.specs.Prelude.{◌≡◌, ◌≢◌, ℕ, ◌+◌, ◌*◌, ◌^◌, ◌<◌, ◌≤◌, ◌⊎◌, Bool, true, false, cond}
use Rattle.aio_word.specs.declared.State.{State}
use Rattle.aio_word.specs.declared.State.TheVariants.{Idle, HandedOut, Defined, Staged, Submitted}
use Rattle.aio_word.specs.declared.State.TheVariants.{CompletedIo, CompletedShared, CompletedLocal}
use Rattle.aio_word.specs.declared.Class.{Class}
use Rattle.aio_word.specs.declared.Class.TheVariants.{Unended, Whole, Short, Failed}
use Rattle.aio_word.specs.declared.Word.{Word}

-- the states in the order of PgAioHandleState (aio_internal.h)
abbrev pub number_of_state : State → ℕ
number_of_state Idle = 0
number_of_state HandedOut = 1
number_of_state Defined = 2
number_of_state Staged = 3
number_of_state Submitted = 4
number_of_state CompletedIo = 5
number_of_state CompletedShared = 6
number_of_state CompletedLocal = 7

-- how an I/O ended, by this project's own numbers
abbrev pub number_of_class : Class → ℕ
number_of_class Unended = 0
number_of_class Whole = 1
number_of_class Short = 2
number_of_class Failed = 3

-- the claim is set in CompletedIo, free in Submitted and clear elsewhere
abbrev pub ClaimFits : State → Bool → Type 0
ClaimFits Submitted claimed = Unit {0}
ClaimFits CompletedIo claimed = claimed ≡ true
ClaimFits _ claimed = claimed ≡ false

-- there is a class exactly in the last three states
abbrev pub ClassFits : State → Class → Type 0
ClassFits CompletedIo class = class ≢ Unended
ClassFits CompletedShared class = class ≢ Unended
ClassFits CompletedLocal class = class ≢ Unended
ClassFits _ class = class ≡ Unended

-- the greatest generation that the word has room for: 2 ^ 58 - 1
abbrev pub last_generation : ℕ
last_generation = 288230376151711743

-- the words that a handle can have
pub record IsLawful (w : Word) : Type 0 where
  pub bound : w.generation < 2 ^ 58
  pub claim : ClaimFits w.state w.claimed
  pub class : ClassFits w.state w.class

-- the word as a number: state in bits 0 to 2, claim in bit 3, class in bits 4 and 5, generation
-- from bit 6 on; this packing is the project's own
abbrev pub packed_word : Word → ℕ
packed_word w =
    number_of_state w.state + 8 * cond w.claimed 1 0 + 16 * number_of_class w.class
    + 64 * w.generation

-- no lawful word packs to the number
abbrev pub IsNoPackedWord : ℕ → Type 0
IsNoPackedWord number = (w : Word) → IsLawful w → packed_word w ≢ number

-- how many marks of a life an incarnation has in this state
abbrev pub state_place : State → Bool → ℕ
state_place Idle claimed = 0
state_place HandedOut claimed = 0
state_place Defined claimed = 1
state_place Staged claimed = 2
state_place Submitted claimed = cond claimed 4 3
state_place CompletedIo claimed = 5
state_place CompletedShared claimed = 6
state_place CompletedLocal claimed = 7

-- how many marks of a life the word's generation has
abbrev pub word_place : Word → ℕ
word_place w = state_place w.state w.claimed

-- the pair of generation and place, as one number that grows as the pair does
abbrev pub word_rank : Word → ℕ
word_rank w = 8 * w.generation + word_place w

-- a pair of generation and place is not above another one: the generation is compared first
abbrev pub IsNotAbove : ℕ → ℕ → ℕ → ℕ → Type 0
IsNotAbove g p g' p' = (g < g') ⊎ ((g ≡ g') × (p ≤ p'))

-- the states of an incarnation whose result is there for everyone
abbrev pub IsEnded : State → Type 0
IsEnded CompletedShared = Unit {0}
IsEnded CompletedLocal = Unit {0}
IsEnded _ = ⊥

-- the handle's incarnation of that generation is done, by this word: the word is past it, or has it
-- completed (pgaio_wref_check_done in aio.c)
abbrev pub IsDone : Word → ℕ → Type 0
IsDone w generation = (generation < w.generation) ⊎ ((w.generation ≡ generation) × IsEnded w.state)
