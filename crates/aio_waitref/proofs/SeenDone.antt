-- What shows that an incarnation was seen done.
use Rattle.std.proofs.Common.{◌≡◌, ℕ, ◌+◌, ◌*◌, ◌≤◌, Bool, true, [], ⊎_elim, arith}
use Rattle.aio_word.specs.declared.State.{State}
use Rattle.aio_word.specs.declared.State.TheVariants as state
use Rattle.aio_word.specs.declared.Word.{Word}
use Rattle.aio_word.specs.declared.Known.{Known}
use Rattle.aio_word.specs.declared.WaitRef.{WaitRef}
use Rattle.aio_word.specs.Words.{IsDone, IsEnded, state_place, word_rank}
use Rattle.aio_word.specs.Tokens.{AppendsMarks, HasSeenDone}
use Rattle.aio_handle.specs.CallEvents.{CheckAnswer, WordLoaded}
use Rattle.aio_handle.proofs.ListsGrow.{look-on, appends-then}

ended-place : (s : State) (b : Bool) → IsEnded s → 6 ≤ state_place s b
ended-place state.Idle b e = absurd e
ended-place state.HandedOut b e = absurd e
ended-place state.Defined b e = absurd e
ended-place state.Staged b e = absurd e
ended-place state.Submitted b e = absurd e
ended-place state.CompletedIo b e = absurd e
ended-place state.CompletedShared b e = omega arith
ended-place state.CompletedLocal b e = omega arith

-- a word that shows an incarnation done has its rank, or a greater one
done-rank : (w : Word) (g : ℕ) → IsDone w g → 8 * g + 6 ≤ word_rank w
done-rank w g d = ⊎_elim (λ past. omega arith)
    (λ at_it. let e = at_it.0 in let p = ended-place w.state w.claimed at_it.1 in omega arith) d

-- a look that found the incarnation done
pub checked_seen : (t : WaitRef) (b : Bool) (p q : Known) → CheckAnswer t b p q → b ≡ true
    → HasSeenDone q t
checked_seen t b p q c is_true = let a = done-rank c.word t.generation (c.exact.0 is_true) in
    let b = c.word_load.now in omega arith

-- an actor that only looked and looks again
pub checks_on : (t : WaitRef) (b : Bool) (p q r : Known) → AppendsMarks p q [] → CheckAnswer t b q r
    → AppendsMarks p r []
checks_on t b p q r g c = appends-then p q r [] [] g (look-on t.handle c.word q r c.word_load)

pub looks_on : (h : ℕ) (w : Word) (p q r : Known) → AppendsMarks p q [] → WordLoaded h w q r
    → AppendsMarks p r []
looks_on h w p q r g l = appends-then p q r [] [] g (look-on h w q r l)
