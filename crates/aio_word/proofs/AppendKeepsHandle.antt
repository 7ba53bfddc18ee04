-- A step that appends a mark keeps what the lists say of its handle.
use Rattle.std.proofs.Common.{◌≡◌, ℕ, ◌+◌, ◌*◌, ◌<◌, ◌≤◌, ◌⊎◌, Bool, true, false, ◌&&◌, ◌==◌, List}
use Rattle.std.proofs.Common.{[], ◌∷◌, ◌++◌, sum_by, refl, sym, ap, ◌∙◌, subst, inl, inr, ⊎_elim}
use Rattle.std.proofs.Common.{arith, le_refl}
use mathlib.Core.Logic.{dite}
use native.Mathlib.Decide.{ℕ_discrete}
use Rattle.std.proofs.lemmas.List.Sums.{sum_by_push}
use Rattle.std.proofs.lemmas.Bool.Decides.{nat_tests}
use Rattle.aio_word.specs.declared.Config.{Config}
use Rattle.aio_word.specs.declared.Mark.{Mark}
use Rattle.aio_word.specs.declared.Class.{Class}
use Rattle.aio_word.specs.declared.State.{State}
use Rattle.aio_word.specs.declared.State.TheVariants.{Idle, HandedOut, Defined, Staged, Submitted}
use Rattle.aio_word.specs.declared.State.TheVariants.{CompletedIo, CompletedShared, CompletedLocal}
use Rattle.aio_word.specs.declared.Word.{Word}
use Rattle.aio_word.specs.declared.Kind.{Kind}
use Rattle.aio_word.specs.declared.Kind.TheVariants as kind
use Rattle.aio_word.specs.declared.Known.{Known}
use Rattle.aio_word.specs.Words.{state_place, word_place, word_rank}
use Rattle.aio_word.specs.Events.{kind_place, mark_rank, is_mark, count_at_rank}
use Rattle.aio_word.specs.Stands.{IsIn, one_if, total_at_rank, seen_rank}
use Rattle.aio_word.specs.StandsByRank.{is_due, StandsForHandleByRank}
use Rattle.aio_word.proofs.EventRows.{AddsMark}
use Rattle.aio_word.proofs.ReplacedElement.{in-append, in-replaced, in-here, sum-replaced, sum-in}
use Rattle.aio_word.proofs.MarksDue.{one-if-le, one-if-no, due-true, due-more, not-due}

abbrev pub mark_by_parts : ℕ → ℕ → Kind → Mark
mark_by_parts h g k = record { handle = h; generation = g; kind = k }

pub place-small : (s : State) (b : Bool) → state_place s b < 8
place-small Idle b = omega arith
place-small HandedOut b = omega arith
place-small Defined b = omega arith
place-small Staged b = omega arith
place-small Submitted true = omega arith
place-small Submitted false = omega arith
place-small CompletedIo b = omega arith
place-small CompletedShared b = omega arith
place-small CompletedLocal b = omega arith

pub count_at_rank-push : (h n : ℕ) (ms : List Mark) (m : Mark)
    → count_at_rank h n (ms ++ m ∷ []) ≡ count_at_rank h n ms + one_if (is_mark h n m)
count_at_rank-push h n ms m = sum_by_push (λ x. one_if (is_mark h n x)) ms m

is-mark-itself : (m : Mark) → one_if (is_mark m.handle (mark_rank m) m) ≡ 1
is-mark-itself m = grind (arith, nat_tests)

same-rank : (h a r n : ℕ) → a ≡ r → one_if ((h == h) && (a == n)) ≡ one_if (r == n)
same-rank h a r n e = grind (arith, nat_tests)

-- one of the two counts of the claimer, at the offset e
mine-at : (e : ℕ) → 3 < e → e < 6 → (t t' : ℕ → ℕ) (r g G q : ℕ) → r ≡ 8 * G + q → q < 8
    → t' (8 * g + 3) ≡ t (8 * g + 3) + one_if (r == 8 * g + 3)
    → t' (8 * g + e) ≡ t (8 * g + e) + one_if (r == 8 * g + e)
    → t (8 * g + e) ≤ t (8 * g + 3) → t r ≡ 0 → (3 < q → q < 6 → 0 < t (8 * G + 3))
    → t' (8 * g + e) ≤ t' (8 * g + 3)
mine-at e lo hi t t' r g G q is small t3 te was none claims = dite (ℕ_discrete r (8 * g + e))
    (λ y. let same : G ≡ g = omega arith in let q' : q ≡ e = omega arith in
    let some : 0 < t (8 * g + 3) =
    subst (λ (z : ℕ). 0 < t (8 * z + 3)) same (claims (omega arith) (omega arith)) in
    let zero' : t (8 * g + e) ≡ 0 = subst (λ (z : ℕ). t z ≡ 0) y none in
    let b : one_if (r == 8 * g + e) ≤ 1 = one-if-le (r == 8 * g + e) in omega arith)
    (λ n. let no : one_if (r == 8 * g + e) ≡ 0 = one-if-no r (8 * g + e) n in omega arith)

-- a mark that stands is counted
pub counted-in : (m : Mark) (ms : List Mark) → IsIn m ms
    → 0 < count_at_rank m.handle (mark_rank m) ms
counted-in m ms i =
    let f : Mark → ℕ = λ x. one_if (is_mark m.handle (mark_rank m) x) in
    let one : f m ≤ sum_by f ms = sum-in f ms m i in
    let here : f m ≡ 1 = is-mark-itself m in
    let goal : 0 < sum_by f ms = omega arith in goal

-- a mark that stands is due
pub rank-in-bounds : (c : Config) (parts : List Known) (h : ℕ) (w : Word)
    → StandsForHandleByRank c parts h w
    → (q : Known) → IsIn q parts → (n : ℕ) → 0 < count_at_rank h n q.marks
    → (8 * c.start ≤ n) × (n < word_rank w)
rank-in-bounds c parts h w s q i n more =
    let below : count_at_rank h n q.marks ≤ total_at_rank h n parts =
    sum-in (λ (p : Known). count_at_rank h n p.marks) parts q i in
    let all : total_at_rank h n parts ≡ one_if (is_due c.start (word_rank w) n) = s.counted n in
    due-true c.start (word_rank w) n (omega arith)

-- the same of a mark by itself
pub mark-below-word : (c : Config) (parts : List Known) (h : ℕ) (w : Word)
    → StandsForHandleByRank c parts h w
    → (q : Known) → IsIn q parts → (m : Mark) → IsIn m q.marks → m.handle ≡ h
    → mark_rank m < word_rank w
mark-below-word c parts h w s q i m j e =
    (rank-in-bounds c parts h w s q i (mark_rank m)
    (subst (λ (k : ℕ). 0 < count_at_rank k (mark_rank m) q.marks) e (counted-in m q.marks j))).1

-- none stands at the word's rank or above
pub none-above : (c : Config) (parts : List Known) (h : ℕ) (w : Word)
    → StandsForHandleByRank c parts h w
    → (q : Known) → IsIn q parts → (n : ℕ) → word_rank w ≤ n → count_at_rank h n q.marks ≡ 0
none-above c parts h w s q i n le =
    let below : count_at_rank h n q.marks ≤ total_at_rank h n parts =
    sum-in (λ (p : Known). count_at_rank h n p.marks) parts q i in
    let all : total_at_rank h n parts ≡ one_if (is_due c.start (word_rank w) n) = s.counted n in
    let no : one_if (is_due c.start (word_rank w) n) ≡ 0 = not-due c.start (word_rank w) n le in
    omega arith

-- what a step that appends the mark k to the list of p, which becomes p', does to the word w, which
-- becomes w'
pub record AppendsNextMark (h : ℕ) (p p' : Known) (w w' : Word) (k : Kind) : Type 0 where
  pub marks : p'.marks ≡ p.marks ++ mark_by_parts h w.generation k ∷ []
  pub row : AddsMark w w' k
  pub claims : 3 < word_place w → word_place w < 6 → 0 < count_at_rank h
      (8 * w.generation + 3) p.marks
  pub seen : seen_rank p' h ≤ word_rank w'

module _ (c : Config) (a b : List Known) (h : ℕ) (p p' : Known) (w w' : Word) (k : Kind)
    (s : StandsForHandleByRank c (a ++ p ∷ b) h w) (d : AppendsNextMark h p p' w w' k) where
  abbrev before : List Known
  before = a ++ p ∷ b

  abbrev r : ℕ
  r = word_rank w

  abbrev m0 : Mark
  m0 = mark_by_parts h w.generation k

  small : word_place w < 8
  small = place-small w.state w.claimed

  begun : 8 * c.start ≤ word_rank w
  begun = let e = s.begun in omega arith

  pub more-times : (n : ℕ) → count_at_rank h n p'.marks ≡ count_at_rank h n p.marks + one_if
      (r == n)
  more-times n = ap (count_at_rank h n) d.marks
      ∙ (count_at_rank-push h n p.marks m0
      ∙ ap (λ (z : ℕ). count_at_rank h n p.marks + z)
      (same-rank h (8 * w.generation + kind_place k) r n
      (ap (λ (z : ℕ). 8 * w.generation + z) d.row.place)))

  counted : (n : ℕ) → total_at_rank h n (a ++ p' ∷ b) ≡ one_if (is_due c.start (word_rank w') n)
  counted n =
      let f : Known → ℕ = λ q. count_at_rank h n q.marks in
      let swap : sum_by f (a ++ p' ∷ b) + f p ≡ sum_by f before + f p' = sum-replaced f a b p p' in
      let more : f p' ≡ f p + one_if (r == n) = more-times n in
      let was : sum_by f before ≡ one_if (is_due c.start r n) = s.counted n in
      let due : one_if (is_due c.start (r + 1) n) ≡ one_if (is_due c.start r n) + one_if (r == n) =
      due-more c.start r n begun in
      let now : sum_by f (a ++ p' ∷ b) ≡ one_if (is_due c.start (r + 1) n) = omega arith in
      now ∙ ap (λ (z : ℕ). one_if (is_due c.start z n)) (sym d.row.rank)

  mine : (g : ℕ) → (count_at_rank h (8 * g + 4) p'.marks ≤ count_at_rank h (8 * g + 3) p'.marks)
      × (count_at_rank h (8 * g + 5) p'.marks ≤ count_at_rank h (8 * g + 3) p'.marks)
  mine g =
      let t4 = more-times (8 * g + 4) in let t5 = more-times (8 * g + 5) in
      let t3 = more-times (8 * g + 3) in
      let was = s.claimed p (in-here a b p) g in
      let none : count_at_rank h r p.marks ≡ 0 =
      none-above c before h w s p (in-here a b p) r (le_refl r) in (
        mine-at 4 (omega arith) (omega arith) (λ n. count_at_rank h n p.marks)
            (λ n. count_at_rank h n p'.marks) r g w.generation
            (word_place w) refl small t3 t4 was.0 none d.claims,
        mine-at 5 (omega arith) (omega arith) (λ n. count_at_rank h n p.marks)
            (λ n. count_at_rank h n p'.marks) r g w.generation
            (word_place w) refl small t3 t5 was.1 none d.claims,
      )

  claimed : (q : Known) → IsIn q (a ++ p' ∷ b) → (g : ℕ)
      → (count_at_rank h (8 * g + 4) q.marks ≤ count_at_rank h (8 * g + 3) q.marks)
      × (count_at_rank h (8 * g + 5) q.marks ≤ count_at_rank h (8 * g + 3) q.marks)
  claimed q i g = ⊎_elim
      (λ e. subst (λ (z : Known). (count_at_rank h (8 * g + 4) z.marks
      ≤ count_at_rank h (8 * g + 3) z.marks)
      × (count_at_rank h (8 * g + 5) z.marks ≤ count_at_rank h (8 * g + 3) z.marks)) e (mine g))
      (λ old. s.claimed q old g) (in-replaced a b p p' q i)

  -- a mark of a list afterwards is the new one, or stood before
  cases : (q : Known) → IsIn q (a ++ p' ∷ b) → (m : Mark) → IsIn m q.marks
      → (m0 ≡ m) ⊎ ((o : Known) × IsIn o before × IsIn m o.marks)
  cases q i m j = ⊎_elim
      (λ e. let j' : IsIn m (p.marks ++ m0 ∷ []) =
      subst (λ (z : List Mark). IsIn m z) d.marks
      (subst (λ (z : Known). IsIn m z.marks) (sym e) j) in
      ⊎_elim (λ l. inr (p, in-here a b p, l)) (λ r'. ⊎_elim inl (λ x. absurd x) r')
      (in-append m p.marks (m0 ∷ []) j'))
      (λ old. inr (q, old, j)) (in-replaced a b p p' q i)

  -- the class of an Io mark of this generation that stood before
  io-before : (o : Known) → IsIn o before → (m : Mark) (class : Class) → IsIn m o.marks
      → m.handle ≡ h → m.generation ≡ w.generation → m.kind ≡ kind.Io class
      → (class ≡ w.class) × (4 < word_place w)
  io-before o i m class j eh eg ek =
      let lt : mark_rank m < word_rank w = mark-below-word c before h w s o i m j eh in
      let four : kind_place m.kind ≡ 4 = ap kind_place ek in
      (s.class_of_io o i m class j eh eg ek, omega arith)

  above : (o : Known) → IsIn o before → (m : Mark) → IsIn m o.marks → m.handle ≡ h
      → w.generation < m.generation → ⊥
  above o i m j eh lt = let under : mark_rank m < word_rank w =
      mark-below-word c before h w s o i m j eh in let sm = small in omega arith

  generations : (w'.generation ≡ w.generation) ⊎ (w'.generation ≡ w.generation + 1)
  generations = let e = d.row.rank in let small' : word_place w' < 8 =
      place-small w'.state w'.claimed in
      let sm = small in dite (ℕ_discrete w'.generation w.generation) inl (λ n. inr (omega arith))

  class_of_io : (q : Known) → IsIn q (a ++ p' ∷ b) → (m : Mark) (class : Class) → IsIn m q.marks
      → m.handle ≡ h → m.generation ≡ w'.generation → m.kind ≡ kind.Io class → class ≡ w'.class
  class_of_io q i m class j eh eg ek = ⊎_elim
      (λ e. d.row.io_class class (ap (λ (z : Mark). z.kind) e ∙ ek))
      (λ (o, io, jo). ⊎_elim (λ same. let was = io-before o io m class jo eh (eg ∙ same) ek in was.0
      ∙ d.row.same_class same was.1)
      (λ next. absurd (above o io m jo eh (omega arith))) generations)
      (cases q i m j)

  class_of_local : (q t : Known) → IsIn q (a ++ p' ∷ b) → IsIn t (a ++ p' ∷ b)
      → (m n : Mark) (one other : Class) → IsIn m q.marks → IsIn n t.marks → m.handle ≡ h
      → n.handle ≡ h → m.generation ≡ n.generation
      → m.kind ≡ kind.Io one → n.kind ≡ kind.Local other → one ≡ other
  class_of_local q t i i' m n one other j j' eh eh' eg ek ek' = ⊎_elim
      (λ e. ⊎_elim
      (λ e'. absurd (let x : kind_place m.kind ≡ kind_place n.kind =
      ap (λ (z : Mark). kind_place z.kind) (sym e
      ∙ e') in let y : kind_place m.kind ≡ 4 = ap kind_place ek in
      let z : kind_place n.kind ≡ 6 = ap kind_place ek' in omega arith))
      (λ (o', io', jo'). absurd (let lt : mark_rank n < word_rank w =
      mark-below-word c before h w s o' io' n jo' eh' in
      let gm : w.generation ≡ m.generation = ap (λ (z : Mark). z.generation) e in
      let km : kind_place k ≡ 4 = ap (λ (z : Mark). kind_place z.kind) e ∙ ap kind_place ek in
      let kn : kind_place n.kind ≡ 6 = ap kind_place ek' in let pl = d.row.place in omega arith))
      (cases t i' n j'))
      (λ (o, io, jo). ⊎_elim
      (λ e'. let gn : w.generation ≡ n.generation = ap (λ (z : Mark). z.generation) e' in
      let kn : k ≡ kind.Local other = ap (λ (z : Mark). z.kind) e' ∙ ek' in
      (io-before o io m one jo eh (eg ∙ sym gn) ek).0 ∙ sym (d.row.local_class other kn))
      (λ (o', io', jo'). s.class_of_local o o' io io' m n one other jo jo' eh eh' eg ek ek')
      (cases t i' n j'))
      (cases q i m j)

  pub append-keeps-handle : StandsForHandleByRank c (a ++ p' ∷ b) h w'
  append-keeps-handle = record {
    lawful = d.row.lawful;
    begun = let x = s.begun in
        ⊎_elim {C = c.start ≤ w'.generation} (λ e. omega arith) (λ e. omega arith) generations;
    last = d.row.last;
    counted = counted;
    claimed = claimed;
    class_of_io = class_of_io;
    class_of_local = class_of_local;
    seen = λ q i. ⊎_elim {C =
        seen_rank q h ≤ word_rank w'}
        (λ e. subst (λ (z : Known). seen_rank z h ≤ word_rank w') e d.seen)
        (λ old. let x = s.seen q old in let y = d.row.rank in omega arith) (in-replaced a b p p' q i);
  }
