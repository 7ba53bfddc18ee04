-- Distinct names: which there are, one more, and their places.
use Rattle.std.proofs.Common.{◌≡◌, ℕ, ◌+◌, ◌<◌, ◌≤◌, List, [], ◌∷◌, ◌++◌, length, map, not}
use Rattle.std.proofs.Common.{get_or, refl, sym, ap, ◌∙◌, subst, arith, Bool, true, false, ◌||◌}
use Rattle.std.proofs.Common.{cond, append-nil}
use Rattle.std.specs.Prelude.{Option, Some, None, nat_lt, unwrap_or}
use Rattle.std.specs.List.{position, list_any, filter, position_or_len}
use Rattle.std.proofs.lemmas.List.{map-append}
use Rattle.std.proofs.lemmas.Bool.Decides.{nat_tests}
use Rattle.std.proofs.lemmas.List.Sums.{length-filter, count_by-le-length, prefix_len-le-length}
use Rattle.std.specs.Str.{bytes_eq}
use Rattle.std.proofs.lemmas.Slice.Eq.{bytes_eq-Decides}
use Rattle.std.proofs.lemmas.List.Elements.{filter-append}
use Rattle.std.proofs.lemmas.List.Folds.{list_any-append, list_any_at}
use Rattle.command_line.specs.Command.{MapOption, without_duplicates, relations_with}

-- whether a name is among others
abbrev pub known : List ℕ → List (List ℕ) → Bool
known name names = list_any (λ other. bytes_eq other name) names

abbrev is_not : List ℕ → List ℕ → Bool
is_not name other = not (bytes_eq other name)

same_name : (x y : List ℕ) → bytes_eq x y ≡ true → x ≡ y
same_name x y is = (bytes_eq-Decides x y).0 is

-- what is equal to one name is not equal to another
not_both : (d x y : List ℕ) → bytes_eq y x ≡ false → bytes_eq d y ≡ true → bytes_eq d x ≡ false
not_both d x y differ is =
    let P : List ℕ → Type 0 = λ n. bytes_eq n x ≡ false in
    subst P (sym (same_name d y is)) differ

known_others_by : (b : Bool) (x y d : List ℕ) (names : List (List ℕ)) → bytes_eq y x ≡ false
    → bytes_eq d y ≡ b → known x (filter (is_not y) names) ≡ known x names
    → known x (cond (not b) (d ∷ filter (is_not y) names) (filter (is_not y) names))
    ≡ known x (d ∷ names)
known_others_by true x y d names differ is rest =
    let none = not_both d x y differ is in rest ∙ sym (rw none refl)
known_others_by false x y d names differ is rest = ap (λ (b : Bool). bytes_eq d x || b) rest

-- a name is still known where another one was taken out
known_others : (x y : List ℕ) (names : List (List ℕ)) → bytes_eq y x ≡ false
    → known x (filter (is_not y) names) ≡ known x names
known_others x y [] differ = refl
known_others x y (d ∷ names) differ =
    known_others_by (bytes_eq d y) x y d names differ refl (known_others x y names differ)

known_first : (b : Bool) (x y : List ℕ) (names : List (List ℕ)) → bytes_eq y x ≡ b
    → (b || known x (filter (is_not y) names)) ≡ (b || known x names)
known_first true x y names is = refl
known_first false x y names is = known_others x y names is

-- the distinct names have the same names
pub known-distinct : (x : List ℕ) (names : List (List ℕ)) → known x (without_duplicates names)
    ≡ known x names
known-distinct x [] = refl
known-distinct x (y ∷ names) =
    known_first (bytes_eq y x) x y (without_duplicates names) refl
    ∙ ap (λ (b : Bool). bytes_eq y x || b) (known-distinct x names)

-- one more name
abbrev with_name : List (List ℕ) → List ℕ → List (List ℕ)
with_name names name = cond (known name names) names (names ++ name ∷ [])

-- equality of names is symmetric
turned_by : (b c : Bool) (x y : List ℕ) → bytes_eq x y ≡ b → bytes_eq y x ≡ c → b ≡ c
turned_by true true x y is also = refl
turned_by false false x y is also = refl
turned_by true false x y is also = absurd (
    let none : bytes_eq y y ≡ false =
    subst (λ (n : List ℕ). bytes_eq y n ≡ false) (same_name x y is) also in
    let own = (bytes_eq-Decides y y).1 refl in cc
    )
turned_by false true x y is also = absurd (
    let none : bytes_eq x x ≡ false =
    subst (λ (n : List ℕ). bytes_eq x n ≡ false) (same_name y x also) is in
    let own = (bytes_eq-Decides x x).1 refl in cc
    )

turned : (x y : List ℕ) (b : Bool) → bytes_eq y x ≡ b → bytes_eq x y ≡ b
turned x y b is = turned_by (bytes_eq x y) (bytes_eq y x) x y refl refl ∙ is

more_by : (b k : Bool) (x y : List ℕ) (ds : List (List ℕ)) → bytes_eq y x ≡ b
    → (b ≡ false → known x (filter (is_not y) ds) ≡ k)
    → y ∷ filter (is_not y) (cond k ds (ds ++ x ∷ []))
    ≡ cond (b || known x (filter (is_not y) ds)) (y ∷ filter (is_not y) ds)
    (y ∷ filter (is_not y) ds ++ x ∷ [])
more_by true true x y ds is in_it = refl
more_by true false x y ds is in_it =
    let gone = turned x y true is in
    let none : filter (is_not y) (x ∷ []) ≡ [] = rw gone refl in
    ap (λ (l : List (List ℕ)). y ∷ l)
    (filter-append (is_not y) ds (x ∷ [])
    ∙ ap (λ (l : List (List ℕ)). filter (is_not y) ds ++ l) none
    ∙ append-nil (filter (is_not y) ds))
more_by false true x y ds is in_it = let there = in_it refl in rw there refl
more_by false false x y ds is in_it =
    let absent = in_it refl in
    let kept = turned x y false is in
    let one : filter (is_not y) (x ∷ []) ≡ x ∷ [] = rw kept refl in
    ap (λ (l : List (List ℕ)). y ∷ l)
    (filter-append (is_not y) ds (x ∷ [])
    ∙ ap (λ (l : List (List ℕ)). filter (is_not y) ds ++ l) one)
    ∙ sym (rw absent refl)

pub distinct-more : (names : List (List ℕ)) (x : List ℕ)
    → without_duplicates (names ++ x ∷ []) ≡ with_name (without_duplicates names) x
distinct-more [] x = refl
distinct-more (y ∷ names) x =
    let ds = without_duplicates names in
    ap (λ (l : List (List ℕ)). y ∷ filter (is_not y) l) (distinct-more names x)
    ∙ more_by (bytes_eq y x) (known x ds) x y ds refl (known_others x y ds)

-- there are no more of them
pub distinct-length : (names : List (List ℕ)) → length (without_duplicates names) ≤ length names
distinct-length [] = omega arith
distinct-length (y ∷ names) =
    omega (
      arith,
      length-filter (is_not y) (without_duplicates names),
      count_by-le-length (is_not y) (without_duplicates names),
      distinct-length names,
    )

place_by : {X : Type 0} (b : Bool) (p : X → Bool) (x : X) (xs : List X) → p x ≡ b
    → (list_any p xs ≡ true → position_or_len p xs < length xs) → (b || list_any p xs) ≡ true
    → position_or_len p (x ∷ xs) < length (x ∷ xs)
place_by true p x xs is rest some = rw is (omega arith)
place_by false p x xs is rest some = let below = rest some in rw is (omega arith)

place_below : {X : Type 0} (p : X → Bool) (xs : List X) → list_any p xs ≡ true
    → position_or_len p xs < length xs
place_below p [] some = absurd (cc)
place_below p (x ∷ xs) some = place_by (p x) p x xs refl (place_below p xs) some

-- the name of a file is among the relations
known_relation : (x : List ℕ) (names : List (List ℕ)) (map : Option MapOption)
    → known x names ≡ true → known x (relations_with names map) ≡ true
known_relation x names None there = known-distinct x names ∙ there
known_relation x names (Some map) there =
    list_any-append (λ other. bytes_eq other x) (without_duplicates names) (map.name ∷ [])
    ∙ ap (λ (b : Bool). b || known x (map.name ∷ [])) (known-distinct x names ∙ there)

-- and has its place there
pub place_of_name : (names : List (List ℕ)) (map : Option MapOption) (k : ℕ) → k < length names
    → position_or_len (λ other. bytes_eq other (get_or names k [])) (relations_with names map)
    < length (relations_with names map)
place_of_name names map k below =
    let name = get_or names k [] in
    let here : bytes_eq name name ≡ true = (bytes_eq-Decides name name).1 refl in
    place_below (λ other. bytes_eq other name) (relations_with names map)
    (known_relation name names map
    (list_any_at (λ other. bytes_eq other name) names k [] below here))

-- names as texts of the code
module _ {X : Type 0} (text : X → List ℕ) where
  known-map : (name : List ℕ) (xs : List X)
      → known name (map text xs) ≡ list_any (λ x. bytes_eq (text x) name) xs
  known-map name [] = refl
  known-map name (x ∷ xs) = ap (λ (b : Bool). bytes_eq (text x) name || b) (known-map name xs)

  -- a name that is there is not added, and one that is not there is
  pub add_known : (xs : List X) (name : List ℕ)
      → list_any (λ x. bytes_eq (text x) name) xs ≡ true → (names : List (List ℕ))
      → map text xs ≡ without_duplicates names → map text xs ≡ without_duplicates (names ++ name ∷ [])
  add_known xs name there names same =
      let known_it : known name (map text xs) ≡ true = known-map name xs ∙ there in
      let P : List (List ℕ) → Type 0 = λ l. l ≡ with_name l name in
      same ∙ subst P same (sym (rw known_it refl)) ∙ sym (distinct-more names name)

  pub add_new : (xs : List X) (x : X) (name : List ℕ)
      → list_any (λ y. bytes_eq (text y) name) xs ≡ false → text x ≡ name → (names : List (List ℕ))
      → map text xs ≡ without_duplicates names → map text (xs ++ x ∷ []) ≡ without_duplicates (names ++ name
      ∷ [])
  add_new xs x name none is names same =
      let new : known name (map text xs) ≡ false = known-map name xs ∙ none in
      let P : List (List ℕ) → Type 0 = λ l. l ++ name ∷ [] ≡ with_name l name in
      map-append text xs (x ∷ []) ∙ ap (λ (n : List ℕ). map text xs ++ n ∷ []) is
      ∙ ap (λ (l : List (List ℕ)). l ++ name ∷ []) same
      ∙ subst P same (sym (rw new refl)) ∙ sym (distinct-more names name)

  place-map : (p : List ℕ → Bool) (xs : List X)
      → position_or_len p (map text xs) ≡ position_or_len (λ x. p (text x)) xs
  place-map p [] = refl
  place-map p (x ∷ xs) =
      ap (λ (n : ℕ). cond (not (p (text x))) (1 + n) 0) (place-map p xs)

  place_or_all : (below : Bool) (k n : ℕ) → nat_lt k n ≡ below → k ≤ n
      → unwrap_or (cond below (Some k) None) n ≡ k
  place_or_all true k n is within = refl
  place_or_all false k n is within = grind (arith, nat_tests)

  -- the place that is found, or how many there are
  pub place_found : (p : List ℕ → Bool) (xs : List X)
      → unwrap_or (position (λ x. p (text x)) xs) (length xs) ≡ position_or_len p (map text xs)
  place_found p xs =
      let q : X → Bool = λ x. p (text x) in
      place_or_all (nat_lt (position_or_len q xs) (length xs)) (position_or_len q xs) (length xs)
      refl (prefix_len-le-length (λ x. not (q x)) xs) ∙ sym (place-map p xs)
