-- What an actor has seen once it has tried to claim an I/O.
use Rattle.std.proofs.Common.{◌≡◌, ◌≢◌, ℕ, ◌+◌, ◌*◌, ◌<◌, Bool, true, false, List, [], ◌∷◌, ◌++◌}
use Rattle.std.proofs.Common.{refl, ap, subst, inl, arith}
use Rattle.aio_word.specs.declared.Class.{Class}
use Rattle.aio_word.specs.declared.Class.TheVariants.{Unended}
use Rattle.aio_word.specs.declared.State.{State}
use Rattle.aio_word.specs.declared.State.TheVariants.{Idle, HandedOut, Defined, Staged, Submitted}
use Rattle.aio_word.specs.declared.State.TheVariants.{CompletedIo, CompletedShared, CompletedLocal}
use Rattle.aio_word.specs.declared.Word.{Word}
use Rattle.aio_word.specs.declared.WaitRef.{WaitRef}
use Rattle.aio_word.specs.declared.Known.{Known}
use Rattle.aio_word.specs.Words.{IsLawful, ClassFits, state_place, word_rank}
use Rattle.aio_word.specs.declared.Kind.TheVariants as kind
use Rattle.aio_word.specs.declared.Mark.{Mark}
use Rattle.aio_word.specs.Events.{mark_count, make_word}
use Rattle.aio_word.specs.Stands.{seen_rank}
use Rattle.aio_word.specs.Tokens.{MarksOnceAndSeen, HasSeenDone, make_mark}
use Rattle.aio_word.proofs.MoreMarksKeep.{mark_count-more, mark_count-place}
use Rattle.aio_word.proofs.AppendKeepsHandle.{place-small, counted-in}
use Rattle.aio_handle.specs.Execution.{ExecutesAll}
use Rattle.aio_handle.specs.LifeWords.{unclaimed_word}
use Rattle.aio_handle.specs.CallEvents.{WordLoaded}
use Rattle.aio_handle.specs.ClaimAttempt.{OwnerKnowsClaimed}

-- place 3 is that of an I/O that nobody has claimed
at-three : (s : State) (b : Bool) (class : Class) → ClassFits s class → state_place s b ≡ 3
    → (s ≡ Submitted) × (b ≡ false) × (class ≡ Unended)
at-three Idle b class f e = absurd (omega arith)
at-three HandedOut b class f e = absurd (omega arith)
at-three Defined b class f e = absurd (omega arith)
at-three Staged b class f e = absurd (omega arith)
at-three Submitted true class f e = absurd (omega arith)
at-three Submitted false class f e = (refl, refl, f)
at-three CompletedIo b class f e = absurd (omega arith)
at-three CompletedShared b class f e = absurd (omega arith)
at-three CompletedLocal b class f e = absurd (omega arith)

is-unclaimed : (w : Word) (g : ℕ) → IsLawful w → word_rank w ≡ 8 * g + 3 → w ≡ unclaimed_word g
is-unclaimed w g l e =
    let small = place-small w.state w.claimed in
    let three = at-three w.state w.claimed w.class l.class (omega arith) in
    let same : w.generation ≡ g = omega arith in
    (λ k. make_word (three.0 k) (three.1 k) (three.2 k) (same k))

-- an actor that finds its own submitted I/O claimed by another has seen it claimed
pub lost-is-known : (t : WaitRef) (w : Word) (p q : Known) → MarksOnceAndSeen (seen_rank p) p.marks
    → WordLoaded t.handle w p q → w ≢ unclaimed_word t.generation → OwnerKnowsClaimed t p q
lost-is-known t w p q k l ne submitted =
    let below = k.below t.handle (8 * t.generation + 2) submitted in
    let before = l.before in
    let now = l.now in
    let other : word_rank w ≢ 8 * t.generation + 3 = λ e. ne
    (is-unclaimed w t.generation l.lawful e) in omega arith

-- whoever has executed an incarnation that it had claimed has seen it done
pub executed_is_known : (t u : WaitRef) (p q : Known) (reads reads' faults faults' : ℕ) → u ≡ t
    → ExecutesAll (make_mark u kind.Claimed ∷ []) p q reads reads' faults faults'
    → MarksOnceAndSeen (seen_rank q) q.marks → HasSeenDone q t
executed_is_known t u p q reads reads' faults faults' same a k =
    let held : List Mark = make_mark u kind.Claimed ∷ [] in
    let here : 0 < mark_count u kind.Claimed held = counted-in (make_mark u kind.Claimed) held
    (inl refl) in
    let other : mark_count u kind.Shared held ≡ 0 = mark_count-place u u 5 kind.Claimed []
    (λ e. omega arith)
    (omega arith) in
    let even = a.claims_completed.shared u in
    let three = mark_count-more u 3 held a.more in
    let five = mark_count-more u 5 held a.more in
    let whole : mark_count u kind.Shared q.marks ≡ mark_count u kind.Shared (p.marks ++ a.more) =
    ap (λ (z : List Mark). mark_count u kind.Shared z) a.grows.marks in
    let parts = mark_count-more u 5 p.marks a.more in
    let below = k.below u.handle (8 * u.generation + 5) (omega arith) in
    subst (λ (z : WaitRef). HasSeenDone q z) same (omega arith)
