-- The marks of an I/O that was taken in and reclaimed.
use Rattle.std.proofs.Common.{◌≡◌, ℕ, ◌+◌, ◌<◌, ◌≤◌, List, [], ◌∷◌, ◌++◌, false, refl, sym, ap}
use Rattle.std.proofs.Common.{◌∙◌, arith, subst, inl}
use Rattle.std.proofs.lemmas.Bool.Decides.{nat_tests}
use Rattle.std.specs.Prelude.{◌==◌, ◌&&◌}
use Rattle.aio_word.specs.declared.Class.{Class}
use Rattle.aio_word.specs.declared.Kind.TheVariants as kind
use Rattle.aio_word.specs.declared.Mark.{Mark}
use Rattle.aio_word.specs.declared.WaitRef.{WaitRef}
use Rattle.aio_word.specs.Events.{lives_ended, make_mark}
use Rattle.aio_word.specs.Stands.{one_if}
use Rattle.aio_word.proofs.MoreMarksKeep.{count_at_place, mark_count-place}
use Rattle.aio_word.proofs.ReplacedElement.{in-right}
use Rattle.aio_word.proofs.AppendKeepsHandle.{counted-in}
use Rattle.aio_handle.proofs.LivesCounted.{lives_ended-push}
use Rattle.read_stream.specs.ActorProgress.{local_mark_count}
use Rattle.read_stream.proofs.OwnerCountsKept.{locals-more}

pub is-one : (h : ℕ) → one_if ((h == h) && (7 == 7)) ≡ 1
is-one h = grind (arith, nat_tests)

at-most-one : (h i : ℕ) → one_if ((h == i) && (7 == 7)) ≤ 1
at-most-one h i = grind (arith, nat_tests)

module _ (t : WaitRef) (class : Class) (p before q : List Mark)
    (both : q ≡ (before ++ make_mark t (kind.Local class) ∷ []) ++ make_mark t kind.Reclaimed ∷ [])
  where
    abbrev local-mark : Mark
    local-mark = make_mark t (kind.Local class)

    abbrev last-mark : Mark
    last-mark = make_mark t kind.Reclaimed

    -- what was defined, and what is over
    pub same-defined : ((x : WaitRef) → count_at_place x 0 before ≡ count_at_place x 0 p)
        → (x : WaitRef)
        → count_at_place x 0 q ≡ count_at_place x 0 p
    same-defined defined x = ap (count_at_place x 0) both
        ∙ (mark_count-place x t 0 kind.Reclaimed (before ++ local-mark ∷ []) (λ n. omega arith)
        (omega arith)
        ∙ (mark_count-place x t 0 (kind.Local class) before (λ n. omega arith) (omega arith)
        ∙ defined x))

    pub own-reclaimed : 0 < count_at_place t 7 q
    own-reclaimed = subst (λ (z : List Mark). 0 < count_at_place t 7 z) (sym both)
        (counted-in last-mark ((before ++ local-mark ∷ []) ++ last-mark ∷ [])
        (in-right last-mark (before ++ local-mark ∷ []) (last-mark ∷ []) (inl refl)))

    pub one-local : local_mark_count before ≡ local_mark_count p → local_mark_count q
        ≡ local_mark_count p + 1
    one-local locals =
        let g : local_mark_count q ≡ local_mark_count
        ((before ++ local-mark ∷ []) ++ last-mark ∷ []) =
        ap local_mark_count both in
        let s = locals-more (before ++ local-mark ∷ []) (last-mark ∷ []) in
        let u = locals-more before (local-mark ∷ []) in
        let none : local_mark_count (last-mark ∷ []) ≡ 0 = refl in
        let one : local_mark_count (local-mark ∷ []) ≡ 1 = refl in omega arith

    pub one-life : ((h : ℕ) → lives_ended h before ≡ lives_ended h p) → (h : ℕ)
        → lives_ended h q ≤ lives_ended h p + 1
    one-life lived h =
        let g : lives_ended h q ≡ lives_ended h ((before ++ local-mark ∷ []) ++ last-mark ∷ []) =
        ap (lives_ended h) both in
        let s = lives_ended-push h t.handle t.generation kind.Reclaimed
        (before ++ local-mark ∷ []) in
        let u = lives_ended-push h t.handle t.generation (kind.Local class) before in
        let i = lived h in
        let x = at-most-one t.handle h in
        let none : one_if ((t.handle == h) && false) ≡ 0 = grind (arith, nat_tests) in
        omega arith
