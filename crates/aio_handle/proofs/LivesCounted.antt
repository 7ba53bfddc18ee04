-- The lives of a handle in a list: one more with each Reclaimed mark.
use Rattle.std.proofs.Common.{◌≡◌, ◌≢◌, ℕ, ◌+◌, ◌&&◌, List, [], ◌∷◌, ◌++◌, ◌==◌, arith}
use Rattle.std.proofs.lemmas.List.Sums.{sum_by_push}
use Rattle.std.proofs.lemmas.Bool.Decides.{nat_tests}
use Rattle.aio_word.specs.declared.Kind.{Kind}
use Rattle.aio_word.specs.declared.Kind.TheVariants as kind
use Rattle.aio_word.specs.declared.Mark.{Mark}
use Rattle.aio_word.specs.Events.{kind_place, lives_ended}
use Rattle.aio_word.specs.Stands.{one_if}
use Rattle.aio_word.proofs.AppendKeepsHandle.{mark_by_parts}
use Rattle.std.proofs.Common.{◌<◌, ◌≤◌, sym, ◌∙◌, ⊎_elim}
use mathlib.Core.Logic.{dite}
use native.Mathlib.Decide.{dec_le}
use Rattle.aio_word.specs.declared.Config.{Config}
use Rattle.aio_word.specs.declared.Known.{Known}
use Rattle.aio_word.specs.Words.{last_generation}
use Rattle.aio_word.specs.Events.{wait_ref}
use Rattle.aio_handle.specs.declared.actor.AcquireRefusal.{AcquireRefusal}
use Rattle.aio_handle.specs.declared.actor.AcquireRefusal.TheVariants as refusal
use Rattle.aio_handle.specs.EndStates.{HasNoOwnerTokens}
use Rattle.aio_handle.specs.FreeHandles.{IsRoom, IsCause}
use Rattle.aio_handle.specs.CallEvents.{generation_of}

pub other-life : (i h : ℕ) (k : Kind) → i ≢ h → one_if ((h == i) && (kind_place k == 7)) ≡ 0
other-life i h k ne = grind (arith, nat_tests)

pub lives_ended-push : (i h g : ℕ) (k : Kind) (ms : List Mark)
    → lives_ended i (ms ++ mark_by_parts h g k ∷ []) ≡ lives_ended i ms + one_if
    ((h == i) && (kind_place k == 7))
lives_ended-push i h g k ms =
    sum_by_push (λ m. one_if ((m.handle == i) && (kind_place m.kind == 7))) ms
    (mark_by_parts h g k)

no-life : (i h o : ℕ) → o ≢ 7 → one_if ((h == i) && (o == 7)) ≡ 0
no-life i h o ne = grind (arith, nat_tests)

one-life : (h : ℕ) → one_if ((h == h) && (7 == 7)) ≡ 1
one-life h = grind (arith, nat_tests)

pub lives_ended-same : (i h g : ℕ) (k : Kind) (ms : List Mark) → kind_place k ≢ 7
    → lives_ended i (ms ++ mark_by_parts h g k ∷ []) ≡ lives_ended i ms
lives_ended-same i h g k ms ne = let a = lives_ended-push i h g k ms in
    let b = no-life i h (kind_place k) ne in
    omega arith

pub lives_ended-more : (h g : ℕ) (ms : List Mark)
    → lives_ended h (ms ++ mark_by_parts h g kind.Reclaimed ∷ []) ≡ lives_ended h ms + 1
lives_ended-more h g ms = let a = lives_ended-push h h g kind.Reclaimed ms in let b = one-life h in
    omega arith

room-below : (c : Config) (p : Known) (room other : ℕ) → p.number < c.backends → IsRoom c p room
    → IsRoom c p other → other ≤ room
room-below c p room other backend r s =
    let (h, lt, own, is) = r.exact backend in
    let each = s.for_each h lt own in omega arith

pub room-is-one : (c : Config) (p : Known) (room other : ℕ) → IsRoom c p room → IsRoom c p other
    → room ≡ other
room-is-one c p room other r s = dite (dec_le c.backends p.number)
    (λ runner. r.of_runner runner ∙ sym (s.of_runner runner))
    (λ backend.
    let below = room-below c p room other (omega arith) r s in
    let above = room-below c p other room (omega arith) s r in omega arith)

pub room-bounded : (c : Config) (p : Known) (room : ℕ) → IsRoom c p room → room ≤ last_generation
room-bounded c p room r = dite (dec_le c.backends p.number)
    (λ runner. let none = r.of_runner runner in omega arith)
    (λ backend. let (h, lt, own, is) = r.exact (omega arith) in omega arith)

pub backend-is-served : (c : Config) (p q : Known) (room ended : ℕ) (why : AcquireRefusal)
    → p.number < c.backends → IsRoom c p room → ended < room → q.number ≡ p.number
    → ((h : ℕ) → lives_ended h q.marks ≤ lives_ended h p.marks + ended) → HasNoOwnerTokens q
    → IsCause c q why → ⊥
backend-is-served c p q room ended refusal.OneIsOut backend r lt same own_generation rests out =
    let none = rests.0 in let some = out.1 in absurd (cc)
backend-is-served c p q room ended refusal.NoneFree backend r lt same own_generation rests none =
    let (h, range, own, is) = r.exact backend in
    let few = own_generation h in
    ⊎_elim (λ last. omega arith)
    (λ amid.
    let past_marks = rests.1 (wait_ref h (generation_of c q h)) in
    let (defined, kept) = amid in omega arith) (none.1 h range (same ∙ own))
