-- The lists that all seats carry, one after another.
use Rattle.std.proofs.Common.{◌≡◌, ℕ, zero, suc, ◌<◌, List, [], ◌∷◌, ◌++◌}
use Rattle.std.proofs.Common.{length, get_or, set, refl, sym, ap, ◌∙◌, arith, append_assoc}
use mathlib.Core.Option.{some, some-injective, some-ne-none}
use lib.ListN.{get_elem?}
use Rattle.aio_handle.specs.TableInvariant.{lists_joined}
use Rattle.std.proofs.Common.{◌≤◌, ◌==◌}
use Rattle.std.proofs.Common.{sum_by, subst, inl, inr, ⊎_elim}
use Rattle.std.proofs.Common.{Option}
use Rattle.std.proofs.lemmas.List.Sums.{sum_by-cons}
use mathlib.Core.Logic.{dite}
use mathlib.Core.Option.{none}
use native.Mathlib.Decide.{ℕ_discrete}
use Rattle.atomic_table.specs.Table.{State, Me, step, keeps as stays, Allows}
use Rattle.atomic_table.proofs.Lists.{at_map, set_again}
use Rattle.aio_word.specs.declared.Config.{Config}
use Rattle.aio_word.specs.declared.Kind.{Kind}
use Rattle.aio_word.specs.declared.Kind.TheVariants as kind
use Rattle.aio_word.specs.declared.WaitRef.{WaitRef}
use Rattle.aio_word.specs.declared.Word.{Word}
use Rattle.aio_word.specs.declared.Known.{Known}
use Rattle.aio_word.specs.Words.{packed_word}
use Rattle.aio_word.specs.Events.{handle_count, owner, mark_count}
use Rattle.aio_word.specs.Stands.{IsIn, one_if, Stands, mark_total}
use Rattle.aio_word.proofs.MarksDue.{number-itself}
use Rattle.aio_word.proofs.LivesOfHandle.{mark-once, earlier-mark-total}
use Rattle.aio_word.proofs.ListWithMark.{other-number}
use Rattle.aio_word.proofs.OwnMarksBoundWord.{has-counted, own-mark}
use Rattle.aio_word.proofs.ReplacedElement.{in-here, in-right, sum-in}
use Rattle.aio_word.proofs.RanksAgree.{stands-from-ranks}
use Rattle.aio_handle.specs.declared.record.Label.{Label}
use Rattle.aio_handle.specs.TableInvariant.{TableInvariant}
use Rattle.aio_handle.specs.Seats.{seat_known, rest_of, front_of}
use Rattle.aio_handle.specs.ActorPairs.{StandTogether, Compares}

-- where the lists of one seat lie among all
pub record ListIsAt {A : Type 0} (vs : List (List A)) (id : ℕ) (v : List A) : Type 0 where
  pub front : List A
  pub back : List A
  pub now : lists_joined vs ≡ front ++ (v ++ back)
  pub then : (w : List A) → lists_joined (set vs id w) ≡ front ++ (w ++ back)

module _ {A : Type 0} where
  pub list-is-at : (vs : List (List A)) (id : ℕ) (v : List A) → get_elem? vs id ≡ some v
      → ListIsAt vs id v
  list-is-at [] id v e = absurd (some-ne-none v (sym e))
  list-is-at (u ∷ vs) zero v e =
      record {
        front = [];
        back = lists_joined vs;
        now =
            ap (λ (z : List A). z ++ lists_joined vs) (some-injective u v e);
        then = λ w. refl;
      }
  list-is-at (u ∷ vs) (suc id) v e = let l = list-is-at vs id v e in record {
    front = u ++ l.front;
    back = l.back;
    now = ap (λ (z : List A). u ++ z) l.now ∙ sym (append_assoc u l.front (v ++ l.back));
    then = λ w. ap (λ (z : List A). u ++ z) (l.then w) ∙ sym (append_assoc u l.front (w ++ l.back));
  }

  pub get_or-at : (l : List A) (i : ℕ) (a d : A) → get_elem? l i ≡ some a → get_or l i d ≡ a
  get_or-at [] i a d e = absurd (some-ne-none a (sym e))
  get_or-at (x ∷ xs) zero a d e = some-injective x a e
  get_or-at (x ∷ xs) (suc i) a d e = get_or-at xs i a d e

  pub entry-at : (l : List A) (i : ℕ) → i < length l → (a : A) × (get_elem? l i ≡ some a)
  entry-at [] i h = absurd (omega arith)
  entry-at (x ∷ xs) zero h = (x, refl)
  entry-at (x ∷ xs) (suc i) h = entry-at xs i (omega arith)

  pub index-below : (l : List A) (i : ℕ) (a : A) → get_elem? l i ≡ some a → i < length l
  index-below [] i a e = absurd (some-ne-none a (sym e))
  index-below (x ∷ xs) zero a e = omega arith
  index-below (x ∷ xs) (suc i) a e = let s = index-below xs i a e in omega arith

module _ {R : Type 0} (label : R → Label) (aim_in : R → List ℕ) (Fits : R → Type 0)
    (c : Config) where
  together : (s : State (Option R) (List Known)) (r : TableInvariant label aim_in Fits c s) (id : ℕ)
      (p q : Known) → get_elem? s.views id ≡ some (q ∷ p ∷ []) → StandTogether p.config p q
  together s r id p q at' =
      let l = list-is-at s.views id (q ∷ p ∷ []) at' in
      let in-all : (x : Known) → IsIn x (l.front ++ q ∷ p ∷ l.back)
      → IsIn x (lists_joined s.views) =
      λ x. subst (λ (z : List Known). IsIn x z) (sym l.now) in
      let one : IsIn p (lists_joined s.views) = in-all p
      (in-right p l.front (q ∷ p ∷ l.back) (inr (inl refl))) in
      subst (λ (z : Config). StandTogether z p q) (sym (r.actor p one).config) record {
        machine = r.machine;
        parts = lists_joined s.views;
        reached = r.reached;
        is = record { words = refl; lists = r.is.lists; all = r.is.all };
        words_match_lists = subst (λ (z : List Word). Stands c z (lists_joined s.views)) (sym r.is.words)
            (stands-from-ranks c r.ws (lists_joined s.views) r.words_match_lists);
        all = r.all;
        one = one;
        other = in-all q (in-here l.front (p ∷ l.back) q);
        apart = other-number l.front (p ∷ l.back) q p
            (subst (λ (z : List Known). sum_by
            (λ (y : Known). one_if (y.number == q.number)) z ≤ 1) l.now
            (r.words_match_lists.distinct_numbers q.number)) (in-here l.front l.back p);
      }

  pub compares : (slots id : ℕ) (me : Me (Option R) (List Known)) → 0 < handle_count c
      → Allows (TableInvariant label aim_in Fits c) slots id me 0 (λ n. n)
      (Compares (step slots 0 0 0 none) me)
  compares slots id me some-handle s r one_per_handle at' _ =
      let (w, word) = entry-at r.ws 0 (let x = r.words_match_lists.one_per_handle in omega arith) in
      let first : get_elem? s.words 0 ≡ some (packed_word w) =
      ap (λ (z : List ℕ). get_elem? z 0) r.packed_words ∙ at_map packed_word r.ws 0 w word in
      let words : set s.words 0 (packed_word w) ≡ s.words =
      set_again s.words 0 (packed_word w) first in
      let views : set s.views id me.0 ≡ s.views = set_again s.views id me.0 at' in (
        me.0,
        stays,
        tt,
        subst (λ (z : ℕ). TableInvariant label aim_in Fits c
            record { words = set s.words 0 z; homes = s.homes; views = set s.views id me.0 })
            (sym (get_or-at s.words 0 (packed_word w) 0 first))
            (subst (λ (z : List ℕ × List (List Known)). TableInvariant label aim_in Fits c
            record { words = z.0; homes = s.homes; views = z.1 })
            (λ k. (sym words k, sym views k)) r),
        (refl, (λ p q e. together s r id p q (at' ∙ ap some e))),
      )

-- one seat m, and another one n whose lists are cut off, as r, and laid into the first, as m'
module _ {S : Type 0} (m n r m' : Me S (List Known)) (one : m.0 ≡ seat_known m.0 ∷ [])
    (other : n.0 ≡ seat_known n.0 ∷ []) (cut-off : r ≡ (n.0, []))
    (laid : m' ≡ (r.0 ++ m.0, m.1)) where
  pub both-lists : m'.0 ≡ seat_known n.0 ∷ seat_known m.0 ∷ []
  both-lists =
      let its : r.0 ≡ seat_known n.0 ∷ [] = ap (λ (z : Me S (List Known)). z.0) cut-off ∙ other in
      ap (λ (z : Me S (List Known)). z.0) laid ∙ (λ k. its k ++ one k)

  -- the first list goes back: both seats are as they were
  module _ (m1 : Me S (List Known)) (same : m1 ≡ m') where
    pub lists-laid : m1.0 ≡ seat_known n.0 ∷ seat_known m.0 ∷ []
    lists-laid = ap (λ (z : Me S (List Known)). z.0) same ∙ both-lists

    pub one-again : (m2 : Me S (List Known)) → m2 ≡ (rest_of m1.0, m1.1) → m2 ≡ m
    one-again m2 dealt =
        let front : m2.0 ≡ m.0 = ap (λ (z : Me S (List Known)). z.0) dealt
        ∙ (ap rest_of lists-laid ∙ sym one) in
        let slots : m2.1 ≡ m.1 = ap (λ (z : Me S (List Known)). z.1) dealt
        ∙ (ap (λ (z : Me S (List Known)). z.1) same ∙ ap (λ (z : Me S (List Known)). z.1) laid) in
        λ k. (front k, slots k)

    pub other-again : (b n1 n2 : Me S (List Known)) → b ≡ (front_of m1.0, []) → n1 ≡ ([], n.1)
        → n2 ≡ (b.0 ++ n1.0, n1.1) → n2 ≡ n
    other-again b n1 n2 back empty then =
        let front : n2.0 ≡ n.0 = ap (λ (z : Me S (List Known)). z.0) then
        ∙ ((λ k. (back k).0 ++ (empty k).0) ∙ (ap (λ (z : List Known). front_of z ++ []) lists-laid
        ∙ sym other)) in
        let slots : n2.1 ≡ n.1 = ap (λ (z : Me S (List Known)). z.1) then
        ∙ ap (λ (z : Me S (List Known)). z.1) empty in
        λ k. (front k, slots k)

-- two that count are one, where the sum is at most 1
both-one : {A : Type 0} (f : A → ℕ) (xs : List A) (x y : A) → sum_by f xs ≤ 1 → 0 < f x → 0 < f y
    → IsIn x xs → IsIn y xs → x ≡ y
both-one f [] x y le fx fy i j = absurd i
both-one f (z ∷ xs) x y le fx fy i j =
    let cons = sum_by-cons f z xs in
    ⊎_elim
    (λ ex. ⊎_elim (λ ey. sym ex ∙ ey)
    (λ jy. absurd (let a : f y ≤ sum_by f xs = sum-in f xs y jy in let b : f z ≡ f x = ap f ex in
    omega arith)) j)
    (λ ix. let a : f x ≤ sum_by f xs = sum-in f xs x ix in
    ⊎_elim (λ ey. absurd (let b : f z ≡ f y = ap f ey in omega arith))
    (λ jy. both-one f xs x y (omega arith) fx fy ix jy) j) i

module _ (c : Config) (p q : Known) (t : WaitRef) (s : StandTogether c p q) where
  pub not-both : (k : Kind) → 0 < mark_count t k p.marks → 0 < mark_count t k q.marks → ⊥
  not-both k lt lt' = s.apart (ap (λ (z : Known). z.number)
      (both-one (λ (z : Known). mark_count t k z.marks) s.parts p q
      (mark-once c s.machine.words s.parts s.words_match_lists t k) lt lt' s.one s.other))

  pub not-other : (k : Kind) → 0 < mark_count t k p.marks → mark_count t k q.marks ≡ 0
  not-other k lt = dite (ℕ_discrete (mark_count t k q.marks) 0) (λ e. e)
      (λ n. absurd (not-both k lt (omega arith)))

  pub submitted-before : q.number ≡ owner c t.handle → 0 < mark_count t kind.Claimed p.marks
      → 0 < mark_count t kind.Submitted q.marks
  submitted-before own lt =
      let f : Known → ℕ = λ z. mark_count t kind.Submitted z.marks in
      let some-claim : mark_count t kind.Claimed p.marks ≤ mark_total t kind.Claimed s.parts =
      sum-in (λ (z : Known). mark_count t kind.Claimed z.marks) s.parts p s.one in
      let earlier : mark_total t kind.Claimed s.parts ≤ mark_total t kind.Submitted s.parts =
      earlier-mark-total c s.machine.words s.parts s.words_match_lists t kind.Submitted kind.Claimed
      (omega arith) in
      let who = has-counted f s.parts (omega arith) in
      let number : who.it.number ≡ q.number =
      own-mark c who.it t.handle t.generation 2 (s.words_match_lists.each_list who.it who.within)
      (omega arith) (inl (omega arith)) who.more ∙ sym own in
      let n : Known → ℕ = λ z. one_if (z.number == q.number) in
      let mine : n q ≡ 1 = number-itself q.number in
      let its : n who.it ≡ 1 = ap (λ (z : ℕ). one_if (z == q.number)) number ∙ mine in
      let same : who.it ≡ q = both-one n s.parts who.it q (s.words_match_lists.distinct_numbers q.number)
      (omega arith) (omega arith) who.within s.other in
      subst (λ (z : Known). 0 < mark_count t kind.Submitted z.marks) same who.more
