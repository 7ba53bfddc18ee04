-- In each list as many Io marks as Claimed marks stand once nothing is out, and each Local mark
-- has its Io mark.
use Rattle.std.proofs.Common.{◌≡◌, ℕ, ◌+◌, ◌*◌, ◌<◌, ◌≤◌, ◌==◌, ◌&&◌, nat_lt, List, [], ◌∷◌, sum_by}
use Rattle.std.proofs.Common.{refl, sym, ap, ◌∙◌, subst, inl, inr, ⊎_elim, arith}
use Rattle.std.specs.Prelude.{count_by}
use Rattle.std.proofs.lemmas.List.Sums.{sum_by-cons}
use Rattle.std.proofs.lemmas.Bool.Decides.{nat_tests}
use mathlib.Core.Logic.{dite}
use native.Mathlib.Decide.{ℕ_discrete, dec_le}
use Rattle.aio_word.specs.declared.Config.{Config}
use Rattle.aio_word.specs.declared.Class.{Class}
use Rattle.aio_word.specs.declared.Class.TheVariants.{Unended}
use Rattle.aio_word.specs.declared.Kind.TheVariants as kind
use Rattle.aio_word.specs.declared.Mark.{Mark}
use Rattle.aio_word.specs.declared.WaitRef.{WaitRef}
use Rattle.aio_word.specs.declared.Word.{Word}
use Rattle.aio_word.specs.declared.Known.{Known}
use Rattle.aio_word.specs.Words.{word_place}
use Rattle.aio_word.specs.Events.{handle_count, kind_place, count_at_rank, wait_ref, is_mark}
use Rattle.aio_word.specs.Events.{make_mark}
use Rattle.aio_word.specs.Stands.{IsIn, one_if, mark_total, StandsForHandle, Stands}
use Rattle.aio_word.specs.Tokens.{io_mark_count, claimed_mark_count}
use Rattle.aio_word.proofs.ReplacedElement.{sum-in}
use Rattle.aio_word.proofs.AppendKeepsHandle.{mark_by_parts, place-small, counted-in}
use Rattle.aio_word.proofs.OwnMarksBoundWord.{has-counted, is-that, kind_place-small}
use Rattle.aio_word.proofs.TotalsAgree.{sum_below, sum_below-same, buckets, sum-same}
use Rattle.aio_handle.specs.EndStates.{EndState, IsExecutedIn}
use Rattle.aio_handle.proofs.SeatLists.{entry-at}
use Rattle.aio_handle.proofs.SoleActorLife.{is-io, mark-is}
use Rattle.aio_handle.proofs.ListsOfAllActors.{idle-place}

mark-at-place : (o h g : ℕ) (m : Mark) → o < 8 → kind_place m.kind < 8
    → one_if (((kind_place m.kind == o) && (m.handle == h)) && (m.generation == g)) ≡ one_if
    (is_mark h (8 * g + o) m)
mark-at-place o h g m lt small = grind (arith, nat_tests)

-- the marks of one place, counted by handle and generation
spread : (o : ℕ) → o < 8 → (ms : List Mark) (H G : ℕ)
    → ((m : Mark) → IsIn m ms → (m.handle < H) × (m.generation < G))
    → count_by (λ m. kind_place m.kind == o) ms ≡ sum_below
    (λ h. sum_below (λ g. count_at_rank h (8 * g + o) ms) G) H
spread o lt ms H G bound =
    buckets (λ (m : Mark). kind_place m.kind == o) (λ m. m.handle) H ms (λ m i _. (bound m i).0)
    ∙ sum_below-same (λ h. count_by (λ (m : Mark). (kind_place m.kind == o) && (m.handle == h)) ms)
    (λ h. sum_below (λ g. count_at_rank h (8 * g + o) ms) G) H (λ h _.
    buckets (λ (m : Mark). (kind_place m.kind == o) && (m.handle == h)) (λ m. m.generation) G ms
    (λ m i _. (bound m i).1)
    ∙ sum_below-same (λ g. count_by
    (λ (m : Mark). ((kind_place m.kind == o) && (m.handle == h)) && (m.generation == g)) ms)
    (λ g. count_at_rank h (8 * g + o) ms) G (λ g _.
    sum-same (λ (m : Mark). one_if
    (((kind_place m.kind == o) && (m.handle == h)) && (m.generation == g)))
    (λ m. one_if (is_mark h (8 * g + o) m)) ms
    (λ m _. mark-at-place o h g m lt (kind_place-small m.kind))))

pub sum-le : {A : Type 0} (f g : A → ℕ) (xs : List A) → ((x : A) → IsIn x xs → f x ≤ g x)
    → sum_by f xs ≤ sum_by g xs
sum-le f g [] le = omega arith
sum-le f g (x ∷ xs) le = let a = le x (inl refl) in let b = sum-le f g xs (λ y i. le y (inr i)) in
    let d = sum_by-cons f x xs in let e = sum_by-cons g x xs in omega arith

-- where each is at most the other and the sums are the same, each is the other
each-same : {A : Type 0} (f g : A → ℕ) (xs : List A) → ((x : A) → IsIn x xs → f x ≤ g x)
    → sum_by f xs ≡ sum_by g xs → (x : A) → IsIn x xs → f x ≡ g x
each-same f g [] le e x i = absurd i
each-same {A} f g (y ∷ ys) le e x i =
    let a = sum_by-cons f y ys in
    let b = sum_by-cons g y ys in
    let head : f y ≤ g y = le y (inl refl) in
    let tail : sum_by f ys ≤ sum_by g ys = sum-le f g ys (λ z j. le z (inr j)) in
    ⊎_elim (λ same. subst (λ (z : A). f z ≡ g z) same (omega arith))
    (λ j. each-same f g ys (λ z k. le z (inr k)) (omega arith) x j) i

less-none : (n : ℕ) → one_if (nat_lt n 0) ≡ 0
less-none n = grind (arith, nat_tests)

-- over all lists as many Io marks as Claimed marks of an incarnation stand, where its handle is
-- free
io-claimed : (c : Config) (parts : List Known) (h : ℕ) (w : Word) → StandsForHandle c parts h w
    → word_place w ≡ 0 → (g : ℕ)
    → mark_total (wait_ref h g) (kind.Io Unended) parts ≡ mark_total
    (wait_ref h g) kind.Claimed parts
io-claimed c parts h w s free g = dite (dec_le c.start g)
    (λ lo. dite (ℕ_discrete g w.generation)
    (λ same. subst
    (λ (z : ℕ). mark_total (wait_ref h z) (kind.Io Unended) parts
    ≡ mark_total (wait_ref h z) kind.Claimed parts)
    (sym same)
    (s.now (kind.Io Unended) ∙
    (ap (λ (n : ℕ). one_if (nat_lt 4 n)) free ∙
    (less-none 4 ∙ sym
    (s.now kind.Claimed ∙ (ap (λ (n : ℕ). one_if (nat_lt 3 n)) free ∙ less-none 3))))))
    (λ ne. dite (dec_le g w.generation)
    (λ le. s.past_marks g lo (omega arith) (kind.Io Unended) ∙ sym
    (s.past_marks g lo (omega arith) kind.Claimed))
    (λ more. s.none g (inr (omega arith)) (kind.Io Unended) ∙ sym
    (s.none g (inr (omega arith)) kind.Claimed))))
    (λ low. s.none g (inl (omega arith)) (kind.Io Unended) ∙ sym
    (s.none g (inl (omega arith)) kind.Claimed))

pub balance : (c : Config) (parts : List Known) → EndState c parts → (p : Known) → IsIn p parts
    → io_mark_count p.marks ≡ claimed_mark_count p.marks
balance c parts e p i =
    let G : ℕ = sum_by (λ (m : Mark). m.generation) p.marks + 1 in
    let bound : (m : Mark) → IsIn m p.marks → (m.handle < handle_count c) × (m.generation < G) =
    λ m j. (
      (e.words_match_lists.each_list p i).in_range m j,
      (let le = sum-in (λ (x : Mark). x.generation) p.marks m j in omega arith),
    ) in
    let same : (h : ℕ) → h < handle_count c → (g : ℕ)
    → count_at_rank h (8 * g + 4) p.marks ≡ count_at_rank h (8 * g + 3) p.marks = λ h lt g.
    let (w, word) = entry-at e.words h (let one_per_handle = e.words_match_lists.one_per_handle in omega arith) in
    let s = e.words_match_lists.each_handle h w word in
    each-same (λ (q : Known). count_at_rank h (8 * g + 4) q.marks)
    (λ q. count_at_rank h (8 * g + 3) q.marks) parts
    (λ q j. (s.claimed q j g).0)
    (io-claimed c parts h w s (idle-place w (e.idle h w word)) g) p i in
    spread 4 (omega arith) p.marks (handle_count c) G bound
    ∙ (sum_below-same (λ h. sum_below (λ g. count_at_rank h (8 * g + 4) p.marks) G)
    (λ h. sum_below (λ g. count_at_rank h (8 * g + 3) p.marks) G) (handle_count c)
    (λ h lt. sum_below-same (λ g. count_at_rank h (8 * g + 4) p.marks)
    (λ g. count_at_rank h (8 * g + 3) p.marks) G
    (λ g _. same h lt g))
    ∙ sym (spread 3 (omega arith) p.marks (handle_count c) G bound))

local-last : (p : ℕ) → p < 8 → 0 < one_if (nat_lt 6 p) → one_if (nat_lt 4 p) ≡ 1
local-last p lt more = grind (arith, nat_tests)

-- an incarnation whose result was taken was executed, with the class of the Local mark
pub executed-in : (c : Config) (words : List Word) (parts : List Known) → Stands c words parts
    → (p : Known) → IsIn p parts → (t : WaitRef) (class : Class)
    → IsIn (make_mark t (kind.Local class)) p.marks → IsExecutedIn parts t class
executed-in c words parts s p i t class j =
    let h : ℕ = t.handle in
    let g : ℕ = t.generation in
    let (w, word) = entry-at words h
    (let one_per_handle = s.one_per_handle in let range =
    (s.each_list p i).in_range (make_mark t (kind.Local class)) j in omega arith) in
    let hs = s.each_handle h w word in
    let F : Known → ℕ = λ q. count_at_rank h (8 * g + 6) q.marks in
    let E : Known → ℕ = λ q. count_at_rank h (8 * g + 4) q.marks in
    let here : 0 < F p = counted-in (make_mark t (kind.Local class)) p.marks j in
    let some' : F p ≤ sum_by F parts = sum-in F parts p i in
    let local-at : mark_total (wait_ref h g) (kind.Local class) parts ≡ sum_by F parts = refl in
    let one : sum_by E parts ≡ 1 = dite (dec_le c.start g)
    (λ lo. dite (ℕ_discrete g w.generation)
    (λ same. subst (λ (z : ℕ). mark_total (wait_ref h z) (kind.Io class) parts ≡ 1) (sym same)
    (hs.now (kind.Io class) ∙ local-last (word_place w) (place-small w.state w.claimed)
    (subst (λ (z : ℕ). 0 < z)
    (subst (λ (z : ℕ). mark_total (wait_ref h z) (kind.Local class) parts ≡ one_if
    (nat_lt 6 (word_place w))) (sym same) (hs.now (kind.Local class))) (omega arith))))
    (λ ne. dite (dec_le g w.generation)
    (λ le. hs.past_marks g lo (omega arith) (kind.Io class))
    (λ more. absurd
    (let none = hs.none g (inr (omega arith)) (kind.Local class) in omega arith))))
    (λ low. absurd
    (let none = hs.none g (inl (omega arith)) (kind.Local class) in omega arith)) in
    let q = has-counted E parts (omega arith) in
    let m = has-counted (λ (x : Mark). one_if (is_mark h (8 * g + 4) x)) q.it.marks q.more in
    let (eh, er) = is-that h (8 * g + 4) m.it m.more in
    let small = kind_place-small m.it.kind in
    let four : kind_place m.it.kind ≡ 4 = omega arith in
    let same-generation : m.it.generation ≡ g = omega arith in
    let (x, ek) = is-io m.it.kind four in
    let io : IsIn (mark_by_parts h g (kind.Io x)) q.it.marks =
    subst (λ (z : Mark). IsIn z q.it.marks)
    (mark-is m.it h g (kind.Io x) eh same-generation ek) m.within in
    let ex : x ≡ class = hs.class_of_local q.it p q.within i g x class io j in (
      q.it,
      q.within,
      subst (λ (z : Class). IsIn (mark_by_parts h g (kind.Io z)) q.it.marks) ex io,
    )
