-- What is reclaimed lies below the generations of own handles, over each mark.
use Rattle.std.proofs.Common.{◌≡◌, ◌≢◌, ℕ, ◌+◌, ◌*◌, ◌<◌, ◌≤◌, ◌==◌, ◌&&◌, Bool, true, false, List}
use Rattle.std.proofs.Common.{[], ◌∷◌, ◌++◌, refl, sym, ap, ◌∙◌, subst, arith}
use Rattle.std.proofs.lemmas.Bool.Decides.{nat_tests}
use mathlib.Core.Logic.{dite}
use native.Mathlib.Decide.{ℕ_discrete}
use Rattle.aio_word.specs.declared.Config.{Config}
use Rattle.aio_word.specs.declared.Kind.{Kind}
use Rattle.aio_word.specs.declared.Kind.TheVariants as kind
use Rattle.aio_word.specs.declared.Mark.{Mark}
use Rattle.aio_word.specs.declared.Known.{Known}
use Rattle.aio_word.specs.Events.{owner, kind_place, count_at_rank, lives_ended}
use Rattle.aio_word.specs.Stands.{one_if}
use Rattle.aio_word.proofs.AppendKeepsHandle.{mark_by_parts, count_at_rank-push}
use Rattle.aio_handle.specs.CallEvents.{generation_of}
use Rattle.aio_handle.specs.OwnHandleCache.{OnlyPastReclaimed}
use Rattle.aio_handle.proofs.LivesCounted.{lives_ended-same, lives_ended-more, lives_ended-push}

pub rank-else : (b : Bool) (r n : ℕ) → r ≢ n → one_if (b && (r == n)) ≡ 0
rank-else true r n ne = grind (arith, nat_tests)
rank-else false r n ne = refl

pub handle-else : (i h : ℕ) (b : Bool) → i ≢ h → one_if ((h == i) && b) ≡ 0
handle-else i h b ne = grind (arith, nat_tests)

pub only-past-same : (c : Config) (p q : Known) → q.number ≡ p.number → q.marks ≡ p.marks
    → OnlyPastReclaimed c p → OnlyPastReclaimed c q
only-past-same c p q en em u i g own-i le = ap (count_at_rank i (8 * g + 7)) em ∙
    u i g (sym en ∙ own-i) (subst (λ (z : List Mark). c.start + lives_ended i z ≤ g) em le)

pub only-past-marked : (c : Config) (p q : Known) (h g' : ℕ) (k : Kind) → kind_place k < 7
    → q.number ≡ p.number → q.marks ≡ p.marks ++ mark_by_parts h g' k ∷ [] → OnlyPastReclaimed c p
    → OnlyPastReclaimed c q
only-past-marked c p q h g' k hi en em u i g own-i le =
    let same : lives_ended i q.marks ≡ lives_ended i p.marks = ap (lives_ended i) em ∙
    lives_ended-same i h g' k p.marks (λ x. omega arith) in
    let old : count_at_rank i (8 * g + 7) p.marks ≡ 0 = u i g (sym en ∙ own-i) (omega arith) in
    let push = count_at_rank-push i (8 * g + 7) p.marks (mark_by_parts h g' k) in
    let no = rank-else (h == i) (8 * g' + kind_place k) (8 * g + 7) (λ x. omega arith) in
    ap (count_at_rank i (8 * g + 7)) em ∙ (push ∙ (omega arith))

pub only-past-reclaimed : (c : Config) (p q : Known) (h g' : ℕ) → q.number ≡ p.number
    → q.marks ≡ p.marks ++ mark_by_parts h g' kind.Reclaimed ∷ [] → g' ≡ generation_of c p h
    → OnlyPastReclaimed c p → OnlyPastReclaimed c q
only-past-reclaimed c p q h g' en em gen u i g own-i le = dite (ℕ_discrete i h)
    (λ e.
    let own-h : q.number ≡ owner c h = subst (λ (z : ℕ). q.number ≡ owner c z) e own-i in
    let le-h : c.start + lives_ended h q.marks ≤ g =
    subst (λ (z : ℕ). c.start + lives_ended z q.marks ≤ g) e le in
    let more : lives_ended h q.marks ≡ lives_ended h p.marks + 1 = ap (lives_ended h) em ∙
    lives_ended-more h g' p.marks in
    let old : count_at_rank h (8 * g + 7) p.marks ≡ 0 = u h g (sym en ∙ own-h) (omega arith) in
    let push = count_at_rank-push h (8 * g + 7) p.marks (mark_by_parts h g' kind.Reclaimed) in
    let no = rank-else (h == h) (8 * g' + 7) (8 * g + 7) (λ x. omega arith) in
    let here : count_at_rank h (8 * g + 7) q.marks ≡ 0 = ap (count_at_rank h (8 * g + 7)) em ∙
    (push ∙ (omega arith)) in
    subst (λ (z : ℕ). count_at_rank z (8 * g + 7) q.marks ≡ 0) (sym e) here)
    (λ ne.
    let same : lives_ended i q.marks ≡ lives_ended i p.marks = ap (lives_ended i) em ∙
    (let push = lives_ended-push i h g' kind.Reclaimed p.marks in
    let no = handle-else i h (7 == 7) ne in push ∙ (omega arith)) in
    let old : count_at_rank i (8 * g + 7) p.marks ≡ 0 = u i g (sym en ∙ own-i) (omega arith) in
    let push = count_at_rank-push i (8 * g + 7) p.marks (mark_by_parts h g' kind.Reclaimed) in
    let no = handle-else i h (8 * g' + 7 == 8 * g + 7) ne in
    ap (count_at_rank i (8 * g + 7)) em ∙ (push ∙ (omega arith)))
