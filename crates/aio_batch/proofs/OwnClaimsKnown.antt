-- What an owner has seen of its I/Os that it tried to claim, one after the other.
use Rattle.std.proofs.Common.{◌≡◌, ℕ, ◌+◌, ◌<◌, List, [], ◌++◌, length, take, sym, ap, subst, arith}
use Rattle.std.specs.Prelude.{get_or}
use Rattle.std.specs.List.{All}
use Rattle.std.proofs.lemmas.List.{take_more}
use Rattle.std.proofs.lemmas.List.Elements.{All-push}
use Rattle.aio_word.specs.declared.Kind.TheVariants as kind
use Rattle.aio_word.specs.declared.Known.{Known}
use Rattle.aio_word.specs.declared.Mark.{Mark}
use Rattle.aio_word.specs.declared.WaitRef.{WaitRef}
use Rattle.aio_word.specs.Events.{mark_count}
use Rattle.aio_word.proofs.MoreMarksKeep.{mark_count-more}
use Rattle.aio_handle.specs.Execution.{ExecutesAll}
use Rattle.aio_handle.specs.ClaimAttempt.{OwnerKnowsClaimed}

later : (t : WaitRef) (p q r : Known) (a b c d : ℕ) → ExecutesAll [] q r a b c d
    → OwnerKnowsClaimed t p q → OwnerKnowsClaimed t p r
later t p q r a b c d next known submitted =
    let before = known submitted in let grows = next.grows.seen t.handle in omega arith

before : (t : WaitRef) (p q r : Known) (a b c d : ℕ) → ExecutesAll [] p q a b c d
    → OwnerKnowsClaimed t q r → OwnerKnowsClaimed t p r
before t p q r a b c d first known submitted =
    let whole : mark_count t kind.Submitted q.marks
    ≡ mark_count t kind.Submitted (p.marks ++ first.more) =
    ap (λ (z : List Mark). mark_count t kind.Submitted z) first.grows.marks in
    let parts = mark_count-more t 2 p.marks first.more in
    known (omega arith)

-- one more of the references was tried
pub claimed-more : (refs : List WaitRef) (i : ℕ) (d : WaitRef) (p q r : Known)
    (a b c a' b' c' : ℕ) → i < length refs → ExecutesAll [] p q a b a' b'
    → ExecutesAll [] q r b c b' c' → All (λ t. OwnerKnowsClaimed t p q) (take i refs)
    → OwnerKnowsClaimed (get_or refs i d) q r
    → All (λ t. OwnerKnowsClaimed t p r) (take (i + 1) refs)
claimed-more refs i d p q r a b c a' b' c' less first next all one =
    subst (λ (z : List WaitRef). All (λ t. OwnerKnowsClaimed t p r) z)
    (sym (take_more refs i d less))
    (All-push (λ (t : WaitRef). OwnerKnowsClaimed t p r) (take i refs) (get_or refs i d)
    (λ k e within. later _ p q r b c b' c' next (all k e within))
    (before _ p q r a b a' b' first one))
