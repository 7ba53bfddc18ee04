-- The lists go from seat to seat: a seat is split, and two are joined.
use Rattle.std.proofs.Common.{◌≡◌, ◌≢◌, ℕ, ◌+◌, ◌<◌, ◌≤◌, ◌⊎◌}
use Rattle.std.proofs.Common.{List, [], ◌∷◌, ◌++◌, length, set, sum_by}
use Rattle.std.proofs.Common.{refl, sym, ap, ◌∙◌, subst, inl, inr}
use Rattle.std.proofs.Common.{⊎_elim, arith, append_assoc, append-nil, length-append, ◌==◌, Option}
use Rattle.std.proofs.lemmas.List.Sums.{sum_by-cons, sum_by-append}
use mathlib.Core.Option.{some}
use lib.ListN.{get_elem?}
use Rattle.atomic_table.specs.Table.{State, Splits, Joins, Enters}
use Rattle.atomic_table.proofs.Lists.{set_else}
use Rattle.aio_word.specs.declared.Config.{Config}
use Rattle.aio_word.specs.declared.Word.{Word}
use Rattle.aio_word.specs.declared.Known.{Known}
use Rattle.aio_word.specs.Events.{actor_count, count_at_rank}
use Rattle.aio_word.specs.Stands.{IsIn, one_if}
use Rattle.aio_word.specs.StandsByRank.{StandsForHandleByRank, StandsByRank}
use Rattle.aio_word.proofs.ReplacedElement.{in-append, in-left, in-right}
use Rattle.aio_handle.specs.declared.record.Label.{Label}
use Rattle.aio_handle.specs.TableInvariant.{lists_joined, TableInvariant}
use Rattle.aio_handle.proofs.SeatLists.{list-is-at}

-- the same lists, in whatever order
pub record Rearranged (xs ys : List Known) : Type 0 where
  pub sums : (f : Known → ℕ) → sum_by f ys ≡ sum_by f xs
  pub members : (q : Known) → IsIn q ys → IsIn q xs
  pub long : length ys ≡ length xs

handle-again : (c : Config) (xs ys : List Known) (h : ℕ) (w : Word) → Rearranged xs ys
    → StandsForHandleByRank c xs h w → StandsForHandleByRank c ys h w
handle-again c xs ys h w r s = record {
  lawful = s.lawful;
  begun = s.begun;
  last = s.last;
  counted = λ n. r.sums (λ p. count_at_rank h n p.marks) ∙ s.counted n;
  claimed = λ p i. s.claimed p (r.members p i);
  class_of_io = λ p i. s.class_of_io p (r.members p i);
  class_of_local = λ p q i j. s.class_of_local p q (r.members p i) (r.members q j);
  seen = λ p i. s.seen p (r.members p i);
}

stands-again : (c : Config) (ws : List Word) (xs ys : List Known) → Rearranged xs ys
    → StandsByRank c ws xs → StandsByRank c ws ys
stands-again c ws xs ys r s = record {
  one_per_handle = s.one_per_handle;
  distinct_numbers = λ n. subst (λ (z : ℕ). z ≤ 1) (sym (r.sums (λ p. one_if (p.number == n))))
      (s.distinct_numbers n);
  each_handle = λ h w e. handle-again c xs ys h w r (s.each_handle h w e);
  each_list = λ p i. s.each_list p (r.members p i);
  one_out = s.one_out;
}

module _ {R : Type 0} (label : R → Label) (aim_in : R → List ℕ) (Fits : R → Type 0)
    (c : Config) where
  pub ruled-again : (s : State (Option R) (List Known)) (views' : List (List Known))
      → Rearranged (lists_joined s.views) (lists_joined views')
      → TableInvariant label aim_in Fits c s
      → TableInvariant label aim_in Fits c record {
        words = s.words;
        homes = s.homes;
        views =
            views';
      }
  ruled-again s views' m r = record {
    ws = r.ws;
    packed_words = r.packed_words;
    homes = r.homes;
    words_match_lists = stands-again c r.ws (lists_joined s.views) (lists_joined views') m r.words_match_lists;
    handle = λ h w home ew eh. let t = r.handle h w home ew eh in
        record { aim = t.aim; slot = t.slot; known = λ p i. t.known p (m.members p i) };
    actor = λ p i. r.actor p (m.members p i);
    all = m.long ∙ r.all;
    present = λ n lt. subst (λ (z : ℕ). 0 < z) (sym (m.sums (λ p. one_if (p.number == n))))
        (r.present n lt);
    machine = r.machine;
    reached = r.reached;
    is = record { words = r.is.words; lists = λ p i. r.is.lists p (m.members p i); all = r.is.all };
  }

nil-of : (xs : List Known) → length xs ≡ 0 → xs ≡ []
nil-of [] e = refl
nil-of (x ∷ xs) e = absurd (omega arith)

lists_joined-append : (xs ys : List (List Known))
    → lists_joined (xs ++ ys) ≡ lists_joined xs ++ lists_joined ys
lists_joined-append [] ys = refl
lists_joined-append (x ∷ xs) ys = ap (λ (z : List Known). x ++ z) (lists_joined-append xs ys) ∙ sym
    (append_assoc x (lists_joined xs) (lists_joined ys))

rearranged-by : (xs ys : List Known) {xs' ys' : List Known} → xs ≡ xs' → ys ≡ ys'
    → Rearranged xs' ys' → Rearranged xs ys
rearranged-by xs ys ex ey r = record {
  sums = λ f. ap (sum_by f) ey ∙ (r.sums f ∙ sym (ap (sum_by f) ex));
  members = λ q i. subst (λ (z : List Known). IsIn q z) (sym ex)
      (r.members q (subst (λ (z : List Known). IsIn q z) ey i));
  long = ap length ey ∙ (r.long ∙ sym (ap length ex));
}

moved-last : (a ps b : List Known) (p : Known)
    → Rearranged (a ++ ((p ∷ ps) ++ b)) ((a ++ (ps ++ b)) ++ (p ∷ []))
moved-last a ps b p = record {
  sums = λ f. omega (
    arith,
    sum_by-append f a ((p ∷ ps) ++ b),
    sum_by-append f
        (p ∷ ps) b,
    sum_by-cons f p ps,
    sum_by-append f (a ++ (ps ++ b)) (p ∷ []),
    sum_by-append f a
        (ps ++ b),
    sum_by-append f ps b,
    sum_by-cons f p [],
  );
  members = λ q i. ⊎_elim
      (λ l. ⊎_elim (λ x. in-left q a (p ∷ (ps ++ b)) x) (λ y. in-right q a (p ∷ (ps ++ b)) (inr y))
      (in-append q a (ps ++ b) l))
      (λ r. ⊎_elim (λ e. in-right q a (p ∷ (ps ++ b)) (inl e)) (λ x. absurd x) r)
      (in-append q (a ++ (ps ++ b)) (p ∷ []) i);
  long = omega (
    arith,
    length-append a (p ∷ (ps ++ b)),
    length-append (a ++ (ps ++ b))
        (p ∷ []),
    length-append a (ps ++ b),
  );
}

-- the first of a seat's lists goes to a new seat
pub rearranged-by-first : (vs : List (List Known)) (id : ℕ) (p : Known) (ps : List Known)
    → get_elem? vs id ≡ some (p ∷ ps)
    → Rearranged (lists_joined vs) (lists_joined (set vs id ps ++ (p ∷ []) ∷ []))
rearranged-by-first vs id p ps at =
    let l = list-is-at vs id (p ∷ ps) at in
    let now : lists_joined vs ≡ l.front ++ ((p ∷ ps) ++ l.back) = l.now in
    let then : lists_joined (set vs id ps ++ (p ∷ []) ∷ []) ≡ (l.front ++ (ps ++ l.back))
    ++ (p ∷ []) =
    lists_joined-append (set vs id ps) ((p ∷ []) ∷ []) ∙ ap (λ (z : List Known). z ++ (p ∷ []))
    (l.then ps) in
    rearranged-by (lists_joined vs) (lists_joined (set vs id ps ++ (p ∷ []) ∷ [])) now then
    (moved-last l.front ps l.back p)

module _ {R : Type 0} (label : R → Label) (aim_in : R → List ℕ) (Fits : R → Type 0)
    (c : Config) where
  pub first-list-splits : (id : ℕ) (p : Known) (ps : List Known)
      → Splits (TableInvariant label aim_in Fits c) id (p ∷ ps) ps (p ∷ [])
  first-list-splits id p ps s r at = ruled-again label aim_in Fits c s
      (set s.views id ps ++ (p ∷ []) ∷ [])
      (rearranged-by-first s.views id p ps at) r

moved-all : (a v b : List Known) → Rearranged (a ++ (v ++ b)) ((a ++ ([] ++ b)) ++ (v ++ []))
moved-all a v b = record {
  sums = λ f. omega (
    arith,
    sum_by-append f a (v ++ b),
    sum_by-append f v b,
    sum_by-append f (a ++ b)
        (v ++ []),
    sum_by-append f a b,
    sum_by-append f v [],
  );
  members = λ q i. ⊎_elim
      (λ l. ⊎_elim (λ x. in-left q a (v ++ b) x) (λ y. in-right q a (v ++ b) (in-right q v b y))
      (in-append q a b l))
      (λ r. ⊎_elim (λ x. in-right q a (v ++ b) (in-left q v b x)) (λ x. absurd x)
      (in-append q v [] r))
      (in-append q (a ++ b) (v ++ []) i);
  long = omega (
    arith,
    length-append a (v ++ b),
    length-append v b,
    length-append (a ++ b)
        (v ++ []),
    length-append a b,
    length-append v [],
  );
}

-- all lists of a seat go to a new seat
pub rearranged-by-all : (vs : List (List Known)) (id : ℕ) (v : List Known)
    → get_elem? vs id ≡ some v
    → Rearranged (lists_joined vs) (lists_joined (set vs id [] ++ v ∷ []))
rearranged-by-all vs id v at =
    let l = list-is-at vs id v at in
    rearranged-by (lists_joined vs) (lists_joined (set vs id [] ++ v ∷ [])) l.now
    (lists_joined-append (set vs id []) (v ∷ []) ∙ ap (λ (z : List Known). z ++ (v ++ []))
    (l.then [])) (moved-all l.front v l.back)

in-lists_joined : (vs : List (List Known)) (id : ℕ) (v : List Known) (q : Known)
    → get_elem? vs id ≡ some v → IsIn q v → IsIn q (lists_joined vs)
in-lists_joined vs id v q at i = let l = list-is-at vs id v at in
    subst (λ (z : List Known). IsIn q z) (sym l.now)
    (in-right q l.front (v ++ l.back) (in-left q v l.back i))

-- two seats are joined
pub rearranged-by-join : (vs : List (List Known)) (id other : ℕ) (v w u : List Known)
    → ((f : Known → ℕ) → sum_by f u ≡ sum_by f v + sum_by f w)
    → ((q : Known) → IsIn q u → IsIn q v ⊎ IsIn q w) → length u ≡ length v + length w
    → get_elem? vs id ≡ some v → other ≢ id → get_elem? (set vs id u) other ≡ some w
    → Rearranged (lists_joined vs) (lists_joined (set (set vs id u) other []))
rearranged-by-join vs id other v w u su mu lu at ne at' =
    let l = list-is-at vs id v at in
    let k = list-is-at (set vs id u) other w at' in
    let F : List Known = l.front in let B : List Known = l.back in let F2 : List Known = k.front in
    let B2 : List Known = k.back in
    let mid : F ++ (u ++ B) ≡ F2 ++ (w ++ B2) = sym (l.then u) ∙ k.now in
    let was : get_elem? vs other ≡ some w = sym (set_else vs id other u ne) ∙ at' in record {
      sums = λ f.
          let e0 : sum_by f (lists_joined vs) ≡ sum_by f (F ++ (v ++ B)) = ap (sum_by f) l.now in
          let e1 : sum_by f (F ++ (u ++ B)) ≡ sum_by f (F2 ++ (w ++ B2)) = ap (sum_by f) mid in
          let e2 : sum_by f (lists_joined (set (set vs id u) other [])) ≡ sum_by f (F2 ++ B2) = ap
          (sum_by f) (k.then []) in
          omega (
            arith,
            sum_by-append f F (v ++ B),
            sum_by-append f v B,
            sum_by-append f F
                (u ++ B),
            sum_by-append f u B,
            su f,
            sum_by-append f F2
                (w ++ B2),
            sum_by-append f w B2,
            sum_by-append f F2 B2,
          );
      members = λ q i.
          let j : IsIn q (F2 ++ B2) = subst (λ (z : List Known). IsIn q z) (k.then []) i in
          let j2 : IsIn q (F2 ++ (w ++ B2)) = ⊎_elim (λ x. in-left q F2 (w ++ B2) x)
          (λ y. in-right q F2 (w ++ B2) (in-right q w B2 y)) (in-append q F2 B2 j) in
          let j3 : IsIn q (F ++ (u ++ B)) = subst (λ (z : List Known). IsIn q z) (sym mid) j2 in
          let back : IsIn q (F ++ (v ++ B)) → IsIn q (lists_joined vs) =
          subst (λ (z : List Known). IsIn q z) (sym l.now) in
          ⊎_elim (λ x. back (in-left q F (v ++ B) x))
          (λ y. ⊎_elim (λ vw. ⊎_elim (λ a. back (in-right q F (v ++ B) (in-left q v B a)))
          (λ c. in-lists_joined vs other w q was c) (mu q vw))
          (λ b. back (in-right q F (v ++ B) (in-right q v B b))) (in-append q u B y))
          (in-append q F (u ++ B) j3);
      long =
          let e0 : length (lists_joined vs) ≡ length (F ++ (v ++ B)) = ap length l.now in
          let e1 : length (F ++ (u ++ B)) ≡ length (F2 ++ (w ++ B2)) = ap length mid in
          let e2 : length (lists_joined (set (set vs id u) other [])) ≡ length (F2 ++ B2) =
          ap length
          (k.then []) in
          omega (
            arith,
            length-append F (v ++ B),
            length-append v B,
            length-append F
                (u ++ B),
            length-append u B,
            lu,
            length-append F2
                (w ++ B2),
            length-append w B2,
            length-append F2 B2,
          );
    }

-- a new seat that carries no list
added : (vs : List (List Known)) → Rearranged (lists_joined vs) (lists_joined (vs ++ [] ∷ []))
added vs = rearranged-by (lists_joined vs) (lists_joined (vs ++ [] ∷ [])) refl
    (lists_joined-append vs ([] ∷ []) ∙ append-nil (lists_joined vs))
    record { sums = λ f. refl; members = λ q i. i; long = refl }

module _ {R : Type 0} (label : R → Label) (aim_in : R → List ℕ) (Fits : R → Type 0)
    (c : Config) where
  pub all-lists-split : (id : ℕ) (v : List Known)
      → Splits (TableInvariant label aim_in Fits c) id v [] v
  all-lists-split id v s r at = ruled-again label aim_in Fits c s (set s.views id [] ++ v ∷ [])
      (rearranged-by-all s.views id v at) r

  -- the other's lists come first
  pub lists-join : (id other : ℕ) (v w : List Known)
      → Joins (TableInvariant label aim_in Fits c) id v other w (w ++ v) []
  lists-join id other v w s r at ne at' = ruled-again label aim_in Fits c s
      (set (set s.views id (w ++ v)) other [])
      (rearranged-by-join s.views id other v w (w ++ v) (λ f. omega (arith, sum_by-append f w v))
      (λ q i. ⊎_elim inr inl (in-append q w v i)) (omega (arith, length-append w v)) at ne at') r

  pub empty-seat-enters : (slots i : ℕ) → Enters (TableInvariant label aim_in Fits c) slots i
      (λ n v. v ≡ [])
  empty-seat-enters slots i s r one_per_handle _ =
      ([], ruled-again label aim_in Fits c s (s.views ++ [] ∷ []) (added s.views) r, refl)

  -- the seat that carries as many lists as there are actors carries all
  pub all-here : (s : State (Option R) (List Known)) (id : ℕ) (v : List Known)
      → TableInvariant label aim_in Fits c s → get_elem? s.views id ≡ some v
      → length v ≡ actor_count c
      → lists_joined s.views ≡ v
  all-here s id v r at long =
      let l = list-is-at s.views id v at in
      let sum = r.all in
      let e : length (lists_joined s.views) ≡ length (l.front ++ (v ++ l.back)) = ap length l.now in
      let none-front : length l.front ≡ 0 = omega
      (arith, length-append l.front (v ++ l.back), length-append v l.back) in
      let none-back : length l.back ≡ 0 = omega
      (arith, length-append l.front (v ++ l.back), length-append v l.back) in
      l.now ∙ ((λ k. (nil-of l.front none-front) k ++
      (v ++ (nil-of l.back none-back) k)) ∙ append-nil v)
