-- The owner's I/O in flight, while the owner waits for it, and once it was seen done.
use Rattle.std.proofs.Common.{◌≡◌, ℕ, ◌+◌, ◌*◌, ◌≤◌, List, [], ◌∷◌, ◌++◌, ap, subst, inl, inr}
use Rattle.std.proofs.Common.{⊎_elim, arith}
use Rattle.aio_word.specs.declared.Config.{Config}
use Rattle.aio_word.specs.declared.Word.{Word}
use Rattle.aio_word.specs.declared.Known.{Known}
use Rattle.aio_word.specs.declared.WaitRef.{WaitRef}
use Rattle.aio_word.specs.Words.{word_rank}
use Rattle.aio_word.specs.StandsByRank.{StandsByRank}
use Rattle.aio_word.specs.Stands.{IsIn, AtMoment}
use Rattle.aio_word.specs.Tokens.{IsInFlight, HasSeenDone}
use Rattle.aio_word.proofs.EventEffect.{get-at}
use Rattle.aio_word.proofs.OwnMarksBoundWord.{own-mark, owner-below}
use Rattle.aio_word.proofs.RanksAgree.{stands-by-rank}
use Rattle.aio_word.proofs.StateByPlace.{state-at}
use Rattle.aio_word.proofs.AppendKeepsHandle.{place-small, rank-in-bounds}
use Rattle.aio_handle.specs.Execution.{ExecutesAll}
use Rattle.aio_handle.specs.CallEvents.{WordLoaded, IsCompleted}
use Rattle.aio_handle.proofs.TokensStay.{unchanged-by-execution}

-- what an actor takes up leaves its own I/Os in flight
pub in_flight_taken_up : (t : WaitRef) (p q : Known) (reads reads' faults faults' : ℕ)
    → ExecutesAll [] p q reads reads' faults faults' → IsInFlight p t → IsInFlight q t
in_flight_taken_up t p q reads reads' faults faults' a =
    (unchanged-by-execution t [] p q reads reads' faults faults' a).in_flight

-- where an element lies in a list
record ListPosition {A : Type 0} (x : A) (xs : List A) : Type 0 where
  pub front : List A
  pub back : List A
  pub now : xs ≡ front ++ x ∷ back

list-position : {A : Type 0} (x : A) (xs : List A) → IsIn x xs → ListPosition x xs
list-position x [] i = absurd i
list-position {A} x (y ∷ xs) i = ⊎_elim
    (λ e. record { front = []; back = xs; now = ap (λ (z : A). z ∷ xs) e })
    (λ j. let l = list-position x xs j in
    record { front = y ∷ l.front; back = l.back; now = ap (λ (z : List A). y ∷ z) l.now }) i

-- the word of an I/O that its owner has not taken is not past CompletedShared
not-past : (c : Config) (p : Known) (w : Word) (t : WaitRef) → AtMoment c p t.handle w
    → IsInFlight p t → word_rank w ≤ 8 * t.generation + 6
not-past c p w t m f =
    let h : ℕ = t.handle in
    let l = list-position p m.parts m.here in
    let r : StandsByRank c m.machine.words (l.front ++ p ∷ l.back) =
    subst (λ (z : List Known). StandsByRank c m.machine.words z) l.now
    (stands-by-rank c m.machine.words m.parts m.words_match_lists) in
    let here : IsIn p (l.front ++ p ∷ l.back) =
    subst (λ (z : List Known). IsIn p z) l.now m.here in
    let s = r.each_handle h w (get-at m.machine.words h w m.word) in
    let own = own-mark c p h t.generation 2 (r.each_list p here) (omega arith) (inl (omega arith))
    f.since in
    let lo = (rank-in-bounds c (l.front ++ p ∷ l.back) h w s p here
    (8 * t.generation + 2) f.since).0 in
    let until = f.until in
    owner-below c l.front l.back p h w s r.each_list (r.distinct_numbers p.number) own t.generation 6
    (omega arith) (inr (omega arith)) (omega arith) (omega arith)

-- a look at one's own I/O in flight that was seen done finds it completed, and not taken
pub in_flight-completed : (t : WaitRef) (w : Word) (p q : Known) → WordLoaded t.handle w p q
    → IsInFlight p t → HasSeenDone p t → IsCompleted w t.generation
in_flight-completed t w p q l f d =
    let above = l.before in
    let below = not-past p.config p w t l.moment f in
    let small = place-small w.state w.claimed in
    (state-at 6 w.state w.claimed (omega arith) (omega arith), omega arith)

-- so the result is there, once the owner has waited
pub in_flight_taken : (t u : WaitRef) (w : Word) (p q r : Known) (reads reads' faults faults' : ℕ)
    → u ≡ t → ExecutesAll [] p q reads reads' faults faults' → IsInFlight p t → HasSeenDone q u
    → WordLoaded t.handle w q r → (IsCompleted w t.generation → ⊥) → ⊥
in_flight_taken t u w p q r reads reads' faults faults' same a f d l not_there =
    not_there (in_flight-completed t w q r l
    (in_flight_taken_up t p q reads reads' faults faults' a f)
    (subst (λ (z : WaitRef). HasSeenDone q z) same d))
