-- Where all words are Idle, the owners have taken as many results as I/Os were executed.
use Rattle.std.proofs.Common.{◌≡◌, ℕ, ◌+◌, ◌*◌, ◌/◌, ◌<◌, ◌≤◌, ◌==◌, ◌&&◌, nat_lt, cond, List, []}
use Rattle.std.proofs.Common.{◌∷◌, sum_by, count_by, refl, sym, ap, ◌∙◌, subst, inl, inr, arith}
use Rattle.std.proofs.Common.{lit<}
use Rattle.std.proofs.lemmas.Nat.{div_below}
use Rattle.std.proofs.lemmas.List.Sums.{sum_by-cons}
use Rattle.std.proofs.lemmas.Bool.Decides.{nat_tests}
use mathlib.Core.Logic.{dite}
use native.Mathlib.Decide.{ℕ_discrete, dec_le}
use Rattle.aio_word.specs.declared.Class.TheVariants.{Failed}
use Rattle.aio_word.specs.declared.Config.{Config}
use Rattle.aio_word.specs.declared.Kind.{Kind}
use Rattle.aio_word.specs.declared.Kind.TheVariants as kind
use Rattle.aio_word.specs.declared.Known.{Known}
use Rattle.aio_word.specs.declared.Mark.{Mark}
use Rattle.aio_word.specs.declared.Word.{Word}
use Rattle.aio_word.specs.Words.{word_place}
use Rattle.aio_word.specs.Events.{handle_count, kind_place, is_mark, count_at_rank, wait_ref}
use Rattle.aio_word.specs.Stands.{IsIn, IsOwnerKind, one_if, StandsForHandle, IsLawfulList}
use Rattle.aio_word.specs.Stands.{mark_total}
use Rattle.aio_word.specs.Tokens.{io_mark_count, claimed_mark_count}
use Rattle.aio_word.specs.Totals.{by_backends, by_runners}
use Rattle.aio_word.proofs.OwnMarksBoundWord.{has-counted, kind_place-small}
use Rattle.aio_word.proofs.ReplacedElement.{sum-in}
use Rattle.aio_word.proofs.TotalsAgree.{sum_below, sum_below-same, buckets, sums-swapped, sum-same}
use Rattle.aio_handle.specs.EndStates.{EndState}
use Rattle.aio_handle.proofs.IoMarksMatchClaims.{balance}
use Rattle.aio_handle.proofs.ListsOfAllActors.{idle-place}
use Rattle.aio_handle.proofs.SeatLists.{entry-at}
use Rattle.read_stream.specs.ActorProgress.{local_mark_count}

mark-at-place : (o h g : ℕ) (m : Mark) → o < 8 → kind_place m.kind < 8
    → one_if (((kind_place m.kind == o) && (m.handle == h)) && (m.generation == g))
    ≡ one_if (is_mark h (8 * g + o) m)
mark-at-place o h g m few small = grind (arith, nat_tests)

-- the marks of one place in a life, by handle and generation
module _ (o : ℕ) (few : o < 8) (H G : ℕ) (parts : List Known)
    (bound : (p : Known) → IsIn p parts → (m : Mark) → IsIn m p.marks
    → (m.handle < H) × (m.generation < G)) where
  spread-one : (p : Known) → IsIn p parts → count_by (λ (m : Mark). kind_place m.kind == o) p.marks
      ≡ sum_below (λ h. sum_below (λ g. count_at_rank h (8 * g + o) p.marks) G) H
  spread-one p i =
      buckets (λ (m : Mark). kind_place m.kind == o) (λ m. m.handle) H p.marks
      (λ m j _. (bound p i m j).0)
      ∙ sum_below-same (λ h. count_by (λ (m : Mark). (kind_place m.kind == o)
      && (m.handle == h)) p.marks)
      (λ h. sum_below (λ g. count_at_rank h (8 * g + o) p.marks) G) H (λ h _.
      buckets (λ (m : Mark). (kind_place m.kind == o) && (m.handle == h))
      (λ m. m.generation) G p.marks
      (λ m j _. (bound p i m j).1)
      ∙ sum_below-same (λ g. count_by
      (λ (m : Mark). ((kind_place m.kind == o) && (m.handle == h)) && (m.generation == g)) p.marks)
      (λ g. count_at_rank h (8 * g + o) p.marks) G (λ g _.
      sum-same (λ (m : Mark). one_if
      (((kind_place m.kind == o) && (m.handle == h)) && (m.generation == g)))
      (λ m. one_if (is_mark h (8 * g + o) m)) p.marks
      (λ m _. mark-at-place o h g m few (kind_place-small m.kind))))

  spread-all : sum_by (λ (p : Known). count_by (λ (m : Mark). kind_place m.kind == o) p.marks) parts
      ≡ sum_below (λ h. sum_below
      (λ g. sum_by (λ (p : Known). count_at_rank h (8 * g + o) p.marks) parts) G) H
  spread-all =
      sum-same (λ (p : Known). count_by (λ (m : Mark). kind_place m.kind == o) p.marks)
      (λ p. sum_below (λ h. sum_below (λ g. count_at_rank h (8 * g + o) p.marks) G) H) parts
      spread-one
      ∙ (sums-swapped (λ (p : Known) h. sum_below (λ g. count_at_rank h (8 * g + o) p.marks) G) H
      parts
      ∙ sum_below-same (λ h. sum_by (λ (p : Known). sum_below
      (λ g. count_at_rank h (8 * g + o) p.marks) G) parts)
      (λ h. sum_below (λ g. sum_by (λ (p : Known). count_at_rank h (8 * g + o) p.marks) parts) G) H
      (λ h _. sums-swapped (λ (p : Known) g. count_at_rank h (8 * g + o) p.marks) G parts))

less-none : (n : ℕ) → one_if (nat_lt n 0) ≡ 0
less-none n = grind (arith, nat_tests)

-- each incarnation has both marks, or neither
both-stand : (c : Config) (parts : List Known) (h : ℕ) (w : Word) → StandsForHandle c parts h w
    → word_place w ≡ 0 → (g : ℕ)
    → mark_total (wait_ref h g) (kind.Io Failed) parts ≡ mark_total (wait_ref h g)
    (kind.Local Failed) parts
both-stand c parts h w s free g = dite (dec_le c.start g)
    (λ lo. dite (ℕ_discrete g w.generation)
    (λ same. subst
    (λ (z : ℕ). mark_total (wait_ref h z) (kind.Io Failed) parts
    ≡ mark_total (wait_ref h z) (kind.Local Failed) parts) (sym same)
    (s.now (kind.Io Failed)
    ∙ (ap (λ (n : ℕ). one_if (nat_lt 4 n)) free ∙ (less-none 4 ∙ sym
    (s.now (kind.Local Failed) ∙ (ap (λ (n : ℕ). one_if (nat_lt 6 n)) free ∙ less-none 6))))))
    (λ ne. dite (dec_le g w.generation)
    (λ le. s.past_marks g lo (omega arith) (kind.Io Failed)
    ∙ sym (s.past_marks g lo (omega arith) (kind.Local Failed)))
    (λ more. s.none g (inr (omega arith)) (kind.Io Failed)
    ∙ sym (s.none g (inr (omega arith)) (kind.Local Failed)))))
    (λ low. s.none g (inl (omega arith)) (kind.Io Failed)
    ∙ sym (s.none g (inl (omega arith)) (kind.Local Failed)))

split-claims : (c : Config) (p : Known)
    → cond (nat_lt p.number c.backends) (claimed_mark_count p.marks) 0
    + cond (nat_lt p.number c.backends) 0 (claimed_mark_count p.marks) ≡ claimed_mark_count p.marks
split-claims c p = grind (arith, nat_tests)

-- each claim is a backend's or a runner's
all-claims : (c : Config) (parts : List Known) → by_backends c parts + by_runners c parts
    ≡ sum_by (λ (p : Known). claimed_mark_count p.marks) parts
all-claims c [] = refl
all-claims c (p ∷ ps) =
    let f : Known → ℕ = λ q. cond (nat_lt q.number c.backends) (claimed_mark_count q.marks) 0 in
    let g : Known → ℕ = λ q. cond (nat_lt q.number c.backends) 0 (claimed_mark_count q.marks) in
    let h : Known → ℕ = λ q. claimed_mark_count q.marks in
    let rest : sum_by f ps + sum_by g ps ≡ sum_by h ps = all-claims c ps in
    let here : f p + g p ≡ h p = split-claims c p in
    let a : sum_by f (p ∷ ps) ≡ f p + sum_by f ps = sum_by-cons f p ps in
    let b : sum_by g (p ∷ ps) ≡ g p + sum_by g ps = sum_by-cons g p ps in
    let d : sum_by h (p ∷ ps) ≡ h p + sum_by h ps = sum_by-cons h p ps in
    let goal : sum_by f (p ∷ ps) + sum_by g (p ∷ ps) ≡ sum_by h (p ∷ ps) = omega arith in goal

module _ (c : Config) (parts : List Known) (e : EndState c parts) where
  -- as many incarnations as I/Os that were executed
  pub executed : by_backends c parts + by_runners c parts
      ≡ sum_by (λ (p : Known). io_mark_count p.marks) parts
  executed = all-claims c parts ∙ sym
      (sum-same (λ (p : Known). io_mark_count p.marks) (λ p. claimed_mark_count p.marks) parts
      (balance c parts e))

  pub executed_as_taken : sum_by (λ (p : Known). io_mark_count p.marks) parts
      ≡ sum_by (λ (p : Known). local_mark_count p.marks) parts
  executed_as_taken =
      let G : ℕ = sum_by (λ (p : Known). sum_by (λ (m : Mark). m.generation) p.marks) parts + 1 in
      let bound : (p : Known) → IsIn p parts → (m : Mark) → IsIn m p.marks
      → (m.handle < handle_count c) × (m.generation < G) = λ p i m j. (
        (e.words_match_lists.each_list p i).in_range m j,
        (let a = sum-in (λ (x : Mark). x.generation) p.marks m j in
            let b = sum-in (λ (x : Known). sum_by (λ (m : Mark). m.generation) x.marks) parts p i in
            omega arith),
      ) in
      spread-all 4 (lit< tt) (handle_count c) G parts bound
      ∙ (sum_below-same
      (λ h. sum_below (λ g. sum_by (λ (p : Known). count_at_rank h (8 * g + 4) p.marks) parts) G)
      (λ h. sum_below (λ g. sum_by (λ (p : Known). count_at_rank h (8 * g + 6) p.marks) parts) G)
      (handle_count c)
      (λ h lt. sum_below-same
      (λ g. sum_by (λ (p : Known). count_at_rank h (8 * g + 4) p.marks) parts)
      (λ g. sum_by (λ (p : Known). count_at_rank h (8 * g + 6) p.marks) parts) G (λ g _.
      (let (w, word) = entry-at e.words h (let wide = e.words_match_lists.one_per_handle in omega arith) in
      both-stand c parts h w (e.words_match_lists.each_handle h w word) (idle-place w (e.idle h w word)) g)))
      ∙ sym (spread-all 6 (lit< tt) (handle_count c) G parts bound))

local-owned : (k : Kind) → kind_place k ≡ 6 → IsOwnerKind k
local-owned kind.Defined e = tt
local-owned kind.Staged e = tt
local-owned kind.Submitted e = tt
local-owned kind.Claimed e = absurd (omega arith)
local-owned (kind.Io class) e = absurd (omega arith)
local-owned kind.Shared e = absurd (omega arith)
local-owned (kind.Local class) e = tt
local-owned kind.Reclaimed e = tt

is-local : (k : ℕ) → 0 < one_if (k == 6) → k ≡ 6
is-local k more = grind (arith, nat_tests)

-- a runner owns no handle, so it takes no result
pub runners_take_none : (c : Config) (p : Known) → IsLawfulList c p → c.backends ≤ p.number
    → local_mark_count p.marks ≡ 0
runners_take_none c p s runner = dite (ℕ_discrete (local_mark_count p.marks) 0) (λ none. none)
    (λ some. absurd
    (let m = has-counted (λ (x : Mark). one_if (kind_place x.kind == 6)) p.marks (omega arith) in
    let inside : m.it.handle < c.backends * c.per_backend = s.in_range m.it m.within in
    let own : p.number ≡ m.it.handle / c.per_backend =
    s.in_owner_list m.it m.within (local-owned m.it.kind (is-local (kind_place m.it.kind) m.more)) in
    dite (ℕ_discrete c.per_backend 0)
    (λ zero. let x : m.it.handle < c.backends * 0 =
    subst (λ (z : ℕ). m.it.handle < c.backends * z) zero inside in omega arith)
    (λ more. let d = div_below m.it.handle c.per_backend c.backends (omega arith) inside in
    omega arith)))
