-- An actor's seat after a step, from what the step tells.
use Rattle.std.proofs.Common.{◌≡◌, ◌≢◌, ℕ, ◌⊎◌, ◌==◌, Bool, true, false, cond, List, [], ◌∷◌}
use Rattle.std.proofs.Common.{refl, sym, ap, ◌∙◌, subst, inl, inr, ⊎_elim, arith, Option, None}
use mathlib.Core.Logic.{dite}
use native.Mathlib.Decide.{ℕ_discrete}
use Rattle.std.proofs.lemmas.Bool.Decides.{nat_tests}
use Rattle.atomic_table.specs.Table.{Me, rest}
use Rattle.aio_word.specs.declared.Config.{Config}
use Rattle.aio_word.specs.declared.Step.{Step as Event}
use Rattle.aio_word.specs.declared.Word.{Word}
use Rattle.aio_word.specs.declared.Known.{Known}
use Rattle.aio_word.specs.Stands.{IsIn, seen_rank}
use Rattle.aio_word.specs.Tokens.{MarksOnceAndSeen}
use Rattle.aio_handle.specs.MoveToFront.{insert_second, moved_to_front}
use Rattle.aio_handle.specs.CallEvents.{EventMade, WordLoaded}
use Rattle.aio_handle.specs.Seats.{SlotIsOut, IsSeated, seat_known}
use Rattle.aio_handle.proofs.TokensAfterEvent.{marks-once-on, marks-once-looked, slot-out-elsewhere}
use Rattle.aio_handle.proofs.TokensAfterEvent.{slot-out-looked}

nat-same : (a b : ℕ) → a ≡ b → (a == b) ≡ true
nat-same a b e = grind (arith, nat_tests)

nat-not : (a b : ℕ) → a ≢ b → (a == b) ≡ false
nat-not a b e = grind (arith, nat_tests)

first-now : {S : Type 0} (h : ℕ) (c : ℕ × S) (cs : List (ℕ × S)) → c.0 ≡ h → (x : S)
    × (moved_to_front h (c ∷ cs) ≡ (h, x) ∷ rest (moved_to_front h (c ∷ cs)))
first-now {S} h c cs e = subst
    (λ (b : Bool). (x : S)
    × (cond b (c ∷ cs) (insert_second c (moved_to_front h cs)) ≡ (h, x) ∷ rest
    (cond b (c ∷ cs) (insert_second c (moved_to_front h cs))))) (sym (nat-same c.0 h e))
    (c.1, ap (λ (z : ℕ). (z, c.1) ∷ cs) e)

first-later : {S : Type 0} (h : ℕ) (c : ℕ × S) (cs : List (ℕ × S)) → c.0 ≢ h → (x : S)
    → moved_to_front h cs ≡ (h, x) ∷ rest (moved_to_front h cs) → (x : S)
    × (moved_to_front h (c ∷ cs) ≡ (h, x) ∷ rest (moved_to_front h (c ∷ cs)))
first-later {S} h c cs ne x e = subst
    (λ (b : Bool). (x : S)
    × (cond b (c ∷ cs) (insert_second c (moved_to_front h cs)) ≡ (h, x) ∷ rest
    (cond b (c ∷ cs) (insert_second c (moved_to_front h cs))))) (sym (nat-not c.0 h ne))
    (subst (λ (z : List (ℕ × S)). (x : S) × (insert_second c z ≡ (h, x) ∷ rest (insert_second c z)))
    (sym e)
    (x, refl))

in-insert_second : {A : Type 0} (c z : A) (xs : List A) → (c ≡ z) ⊎ IsIn z xs
    → IsIn z (insert_second c xs)
in-insert_second c z [] i = i
in-insert_second c z (y ∷ ys) i = ⊎_elim (λ e. inr (inl e))
    (λ t. ⊎_elim (λ e. inl e) (λ u. inr (inr u)) t) i

in-chosen : {S : Type 0} (b : Bool) (h : ℕ) (c : ℕ × S) (cs : List (ℕ × S)) (z : ℕ × S)
    → IsIn z (c ∷ cs) → (c ≡ z) ⊎ IsIn z (moved_to_front h cs)
    → IsIn z (cond b (c ∷ cs) (insert_second c (moved_to_front h cs)))
in-chosen true h c cs z i j = i
in-chosen false h c cs z i j = in-insert_second c z (moved_to_front h cs) j

-- the slot h stands in the list of those that are out
pub moved_to_front-first : {S : Type 0} (h : ℕ) (y : S) (cs : List (ℕ × S)) → IsIn (h, y) cs
    → (x : S)
    × (moved_to_front h cs ≡ (h, x) ∷ rest (moved_to_front h cs))
moved_to_front-first h y [] i = absurd i
moved_to_front-first h y (c ∷ cs) i = dite (ℕ_discrete c.0 h)
    (λ e. first-now h c cs e)
    (λ ne. let r = moved_to_front-first h y cs
    (⊎_elim (λ e. absurd (ne (ap (λ (z : ℕ × _). z.0) e))) (λ t. t) i) in
    first-later h c cs ne r.0 r.1)

-- the others stay
pub moved_to_front-others : {S : Type 0} (h i : ℕ) (y : S) (cs : List (ℕ × S)) → i ≢ h
    → IsIn (i, y) cs
    → IsIn (i, y) (moved_to_front h cs)
moved_to_front-others h i y [] ne m = absurd m
moved_to_front-others h i y (c ∷ cs) ne m = in-chosen (c.0 == h) h c cs (i, y) m
    (⊎_elim (λ e. inl e) (λ t. inr (moved_to_front-others h i y cs ne t)) m)

-- behind the first the others stay, whatever comes first, where h is among them or nothing is
in-rest : {S : Type 0} (h : ℕ) (z : ℕ × S) (cs : List (ℕ × S)) (x : S) → cs ≡ (h, x) ∷ rest cs
    → z.0 ≢ h → IsIn z cs → IsIn z (rest cs)
in-rest h z cs x e ne i = ⊎_elim (λ a. absurd (ne (ap (λ (y : ℕ × _). y.0) (sym a)))) (λ t. t)
    (subst (λ (l : List (ℕ × _)). IsIn z l) e i)

rest-others : {S : Type 0} (h i : ℕ) (x y : S) (cs : List (ℕ × S))
    → moved_to_front h cs ≡ (h, x) ∷ rest (moved_to_front h cs) → i ≢ h → IsIn (i, y) cs
    → IsIn (i, y) (rest (moved_to_front h cs))
rest-others h i x y cs e ne m = in-rest h (i, y) (moved_to_front h cs) x e ne
    (moved_to_front-others h i y cs ne m)

in-chosen-was : {S : Type 0} (b : Bool) (h : ℕ) (c : ℕ × S) (cs : List (ℕ × S)) (z : ℕ × S)
    → IsIn z (cond b (c ∷ cs) (insert_second c (moved_to_front h cs))) → IsIn z (c ∷ cs)
    ⊎ IsIn z (insert_second c (moved_to_front h cs))
in-chosen-was true h c cs z i = inl i
in-chosen-was false h c cs z i = inr i

insert_second-was : {A : Type 0} (c z : A) (xs : List A) → IsIn z (insert_second c xs) → (c ≡ z)
    ⊎ IsIn z xs
insert_second-was c z [] i = i
insert_second-was c z (y ∷ ys) i = ⊎_elim (λ e. inr (inl e))
    (λ t. ⊎_elim inl (λ u. inr (inr u)) t) i

-- nothing is new in front
pub moved_to_front-was : {S : Type 0} (h : ℕ) (z : ℕ × S) (cs : List (ℕ × S))
    → IsIn z (moved_to_front h cs)
    → IsIn z cs
moved_to_front-was h z [] i = i
moved_to_front-was h z (c ∷ cs) i = ⊎_elim (λ j. j)
    (λ j. ⊎_elim inl
    (λ t. inr (moved_to_front-was h z cs t)) (insert_second-was c z (moved_to_front h cs) j))
    (in-chosen-was (c.0 == h) h c cs z i)

rest-was : {S : Type 0} (z : ℕ × S) (cs : List (ℕ × S)) → IsIn z (rest cs) → IsIn z cs
rest-was z [] i = i
rest-was z (c ∷ cs) i = inr i

-- an event whose actor's seat has these slots afterwards
seated : {R : Type 0} {c : Config} {n : ℕ} {m m' : Me (Option R) (List Known)} {e : Event}
    {h : ℕ} {w w' : Word} {aim : List ℕ} {p q : Known} → IsSeated c n m → m.0 ≡ p ∷ []
    → m'.0 ≡ q ∷ [] → EventMade e h w w' aim p q
    → (SlotIsOut q h → IsIn (h, None) m'.1)
    → ((i : ℕ) → i ≢ h → IsIn (i, None) m.1 → IsIn (i, None) m'.1)
    → ((i : ℕ) (x : Option R) → IsIn (i, x) m'.1 → x ≡ None) → IsSeated c n m'
seated {m = m} {m' = m'} {e = e} {h = h} {w = w} {w' = w'} {aim = aim} {p = p} {q = q} s mine seat
    md here else empty =
    let was : seat_known m.0 ≡ p = ap seat_known mine in
    let now : seat_known m'.0 ≡ q = ap seat_known seat in record {
      one = seat ∙ ap (λ (z : List Known). seat_known z ∷ []) (sym seat);
      number = ap (λ (z : Known). z.number) (now ∙ md.is) ∙
          (sym (ap (λ (z : Known). z.number) was) ∙ s.number);
      config = ap (λ (z : Known). z.config) (now ∙ md.is) ∙
          (sym (ap (λ (z : Known). z.config) was) ∙ s.config);
      marks_once = subst (λ (z : Known). MarksOnceAndSeen (seen_rank z) z.marks) (sym now)
          (marks-once-on e h w w' aim p q md
          (subst (λ (z : Known). MarksOnceAndSeen (seen_rank z) z.marks) was s.marks_once));
      out_slots = λ i away'. let away = subst (λ (z : Known). SlotIsOut z i) now away' in
          dite (ℕ_discrete i h)
          (λ x. subst (λ (z : ℕ). IsIn (z, None) m'.1) (sym x)
          (here (subst (λ (z : ℕ). SlotIsOut q z) x away)))
          (λ ne. else i ne
          (s.out_slots i (subst (λ (z : Known). SlotIsOut z i) (sym was)
          (slot-out-elsewhere e h w w' aim p q i md.is ne away))));
      empty = empty;
    }

module _ {R : Type 0} {c : Config} {n : ℕ} {m m' : Me (Option R) (List Known)} {e : Event}
    {h : ℕ} {w w' : Word} {aim : List ℕ} {p q : Known} (s : IsSeated c n m) (mine : m.0 ≡ p ∷ [])
    (md : EventMade e h w w' aim p q) where
  -- the slots stayed
  pub seated-same : m' ≡ (q ∷ [], m.1) → SlotIsOut (seat_known m.0) h → IsSeated c n m'
  seated-same then away =
      let slots : m'.1 ≡ m.1 = ap (λ (z : Me (Option R) (List Known)). z.1) then in
      seated s mine (ap (λ (z : Me (Option R) (List Known)). z.0) then) md
      (λ _. subst (λ (z : List (ℕ × Option R)). IsIn (h, None) z) (sym slots) (s.out_slots h away))
      (λ i ne j. subst (λ (z : List (ℕ × Option R)). IsIn (i, None) z) (sym slots) j)
      (λ i x j. s.empty i x (subst (λ (z : List (ℕ × Option R)). IsIn (i, x) z) slots j))

  -- an empty slot came first
  pub seated-more : m' ≡ (q ∷ [], (h, None) ∷ m.1) → IsSeated c n m'
  seated-more then =
      let slots : m'.1 ≡ (h, None) ∷ m.1 = ap (λ (z : Me (Option R) (List Known)). z.1) then in
      seated s mine (ap (λ (z : Me (Option R) (List Known)). z.0) then) md
      (λ _. subst (λ (z : List (ℕ × Option R)). IsIn (h, None) z) (sym slots) (inl refl))
      (λ i ne j. subst (λ (z : List (ℕ × Option R)). IsIn (i, None) z) (sym slots) (inr j))
      (λ i x j. ⊎_elim (λ a. sym (ap (λ (z : ℕ × Option R). z.1) a)) (λ t. s.empty i x t)
      (subst (λ (z : List (ℕ × Option R)). IsIn (i, x) z) slots j))

  -- the slot went home
  pub seated-less : m' ≡ (q ∷ [], rest (moved_to_front h m.1)) → SlotIsOut (seat_known m.0) h
      → (SlotIsOut q h → ⊥) → IsSeated c n m'
  seated-less then away gone =
      let slots : m'.1 ≡ rest (moved_to_front h m.1) = ap
      (λ (z : Me (Option R) (List Known)). z.1) then in
      let b = moved_to_front-first h None m.1 (s.out_slots h away) in
      seated s mine (ap (λ (z : Me (Option R) (List Known)). z.0) then) md
      (λ a. absurd (gone a))
      (λ i ne j. subst (λ (z : List (ℕ × Option R)). IsIn (i, None) z) (sym slots)
      (rest-others h i b.0 None m.1 b.1 ne j))
      (λ i x j. s.empty i x
      (moved_to_front-was h (i, x) m.1
      (rest-was (i, x) (moved_to_front h m.1)
      (subst (λ (z : List (ℕ × Option R)). IsIn (i, x) z) slots j))))

pub seated-looked : {R : Type 0} {c : Config} {n h : ℕ} {w : Word}
    {m m' : Me (Option R) (List Known)} {p q : Known} → IsSeated c n m → m.0 ≡ p ∷ []
    → m' ≡ (q ∷ [], m.1) → WordLoaded h w p q → IsSeated c n m'
seated-looked {R} {h = h} {w = w} {m = m} {m' = m'} {p = p} {q = q} s mine then lk =
    let was : seat_known m.0 ≡ p = ap seat_known mine in
    let seat : m'.0 ≡ q ∷ [] = ap (λ (z : Me (Option R) (List Known)). z.0) then in
    let slots : m'.1 ≡ m.1 = ap (λ (z : Me (Option R) (List Known)). z.1) then in
    let now : seat_known m'.0 ≡ q = ap seat_known seat in record {
      one = seat ∙ ap (λ (z : List Known). seat_known z ∷ []) (sym seat);
      number = ap (λ (z : Known). z.number) (now ∙ lk.is) ∙
          (sym (ap (λ (z : Known). z.number) was) ∙ s.number);
      config = ap (λ (z : Known). z.config) (now ∙ lk.is) ∙
          (sym (ap (λ (z : Known). z.config) was) ∙ s.config);
      marks_once = subst (λ (z : Known). MarksOnceAndSeen (seen_rank z) z.marks) (sym now)
          (marks-once-looked h w p q lk
          (subst (λ (z : Known). MarksOnceAndSeen (seen_rank z) z.marks) was s.marks_once));
      out_slots = λ i away'. subst (λ (z : List (ℕ × Option R)). IsIn (i, None) z) (sym slots)
          (s.out_slots i (subst (λ (z : Known). SlotIsOut z i) (sym was)
          (slot-out-looked h w i p (subst (λ (z : Known). SlotIsOut z i) (now ∙ lk.is) away'))));
      empty = λ i x j. s.empty i x (subst (λ (z : List (ℕ × Option R)). IsIn (i, x) z) slots j);
    }

-- an empty slot of the handle comes first when it is moved to the front
pub moved_to_front-none : {R : Type 0} {c : Config} {n h : ℕ} {m : Me (Option R) (List Known)}
    → IsSeated c n m → SlotIsOut (seat_known m.0) h
    → moved_to_front h m.1 ≡ (h, None) ∷ rest (moved_to_front h m.1)
moved_to_front-none {R} {h = h} {m = m} s away =
    let b = moved_to_front-first h None m.1 (s.out_slots h away) in
    let none' : b.0 ≡ None = s.empty h b.0
    (moved_to_front-was h (h, b.0) m.1
    (subst (λ (z : List (ℕ × Option R)). IsIn (h, b.0) z) (sym b.1) (inl refl))) in
    b.1 ∙ ap (λ (z : Option R). (h, z) ∷ rest (moved_to_front h m.1)) none'
