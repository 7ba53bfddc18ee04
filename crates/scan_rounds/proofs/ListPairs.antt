-- What holds between two lists, place by place.
use Rattle.std.proofs.Common.{◌≡◌, ℕ, zero, suc, ◌<◌, List, [], ◌∷◌, ◌++◌, length, map, refl, ap}
use Rattle.std.proofs.Common.{arith, subst, ◌≤◌, sum_by}
use Rattle.std.specs.Prelude.{slice_index_or}
use Rattle.std.specs.List.{All, AllZip}
use Rattle.std.proofs.lemmas.List.Elements.{All-nil, All-cons, All-head, All-tail}
use Rattle.std.proofs.lemmas.List.Sums.{sum_by-cons}

module _ {A B : Type 0} (R : A → B → Type 0) where
  pub zip-length : (xs : List A) (ys : List B) → AllZip R xs ys → length ys ≡ length xs
  zip-length [] [] all = refl
  zip-length (x ∷ xs) (y ∷ ys) all = ap suc (zip-length xs ys all.1)
  zip-length [] (y ∷ ys) all = absurd all
  zip-length (x ∷ xs) [] all = absurd all

  pub zip-at : (xs : List A) (ys : List B) (i : ℕ) (d : A) (e : B) → AllZip R xs ys
      → i < length xs → R (slice_index_or xs i d) (slice_index_or ys i e)
  zip-at (x ∷ xs) (y ∷ ys) zero d e all lt = all.0
  zip-at (x ∷ xs) (y ∷ ys) (suc i) d e all lt = zip-at xs ys i d e all.1 (omega arith)
  zip-at [] ys i d e all lt = absurd (omega arith)
  zip-at (x ∷ xs) [] i d e all lt = absurd all

  pub zip-each : (xs : List A) (ys : List B) → length ys ≡ length xs
      → ((i : ℕ) (d : A) (e : B) → i < length xs
      → R (slice_index_or xs i d) (slice_index_or ys i e)) → AllZip R xs ys
  zip-each [] [] same each = tt
  zip-each (x ∷ xs) (y ∷ ys) same each = (
    each 0 x y (omega arith),
    zip-each xs ys (omega arith) (λ i d e lt. each (suc i) d e (omega arith)),
  )
  zip-each [] (y ∷ ys) same each = absurd (omega arith)
  zip-each (x ∷ xs) [] same each = absurd (omega arith)

  pub zip-append : (xs us : List A) (ys vs : List B) → AllZip R xs ys → AllZip R us vs
      → AllZip R (xs ++ us) (ys ++ vs)
  zip-append [] us [] vs one two = two
  zip-append (x ∷ xs) us (y ∷ ys) vs one two = (one.0, zip-append xs us ys vs one.1 two)
  zip-append [] us (y ∷ ys) vs one two = absurd one
  zip-append (x ∷ xs) us [] vs one two = absurd one

  -- what it makes of each element of the second list
  pub zip-all : (P : A → Type 0) (Q : B → Type 0) → ((x : A) (y : B) → R x y → P x → Q y)
      → (xs : List A) (ys : List B) → AllZip R xs ys → All P xs → All Q ys
  zip-all P Q makes [] [] all is = All-nil Q
  zip-all P Q makes (x ∷ xs) (y ∷ ys) all is = All-cons Q y ys
      (makes x y all.0 (All-head P x xs is)) (zip-all P Q makes xs ys all.1 (All-tail P x xs is))
  zip-all P Q makes [] (y ∷ ys) all is = absurd all
  zip-all P Q makes (x ∷ xs) [] all is = absurd all

  -- and of the two that were made of both
  pub zip-map : {X Y : Type 0} (S : X → Y → Type 0) (f : A → X) (g : B → Y)
      → ((x : A) (y : B) → R x y → S (f x) (g y)) → (xs : List A) (ys : List B) → AllZip R xs ys
      → AllZip S (map f xs) (map g ys)
  zip-map S f g makes [] [] all = tt
  zip-map S f g makes (x ∷ xs) (y ∷ ys) all =
      (makes x y all.0, zip-map S f g makes xs ys all.1)
  zip-map S f g makes [] (y ∷ ys) all = absurd all
  zip-map S f g makes (x ∷ xs) [] all = absurd all

  -- one relation, and then another
  pub zip-then : {X : Type 0} (S : B → X → Type 0) (T : A → X → Type 0)
      → ((x : A) (y : B) (z : X) → R x y → S y z → T x z) → (xs : List A) (ys : List B)
      (zs : List X) → AllZip R xs ys → AllZip S ys zs → AllZip T xs zs
  zip-then S T then [] [] [] one two = tt
  zip-then S T then (x ∷ xs) (y ∷ ys) (z ∷ zs) one two =
      (then x y z one.0 two.0, zip-then S T then xs ys zs one.1 two.1)
  zip-then S T then [] (y ∷ ys) zs one two = absurd one
  zip-then S T then (x ∷ xs) [] zs one two = absurd one
  zip-then S T then [] [] (z ∷ zs) one two = absurd two
  zip-then S T then (x ∷ xs) (y ∷ ys) [] one two = absurd two

  -- the first two, and those behind
  pub zip-split : (x : A) (xs us : List A) (y : B) (ys vs : List B) → us ≡ x ∷ xs → vs ≡ y ∷ ys
      → AllZip R us vs → R x y × AllZip R xs ys
  zip-split x xs us y ys vs one two all = subst (λ (l : List B). AllZip R (x ∷ xs) l) two
      (subst (λ (l : List A). AllZip R l vs) one all)

  -- what stands beside the first, and beside those behind
  pub zip-beside : (x : A) (xs : List A) (ys : List B) → AllZip R (x ∷ xs) ys
      → (y : B) × (rest : List B) × (ys ≡ y ∷ rest) × R x y × AllZip R xs rest
  zip-beside x xs (y ∷ ys) all = (y, ys, refl, all.0, all.1)
  zip-beside x xs [] all = absurd all

  -- the two the other way round
  pub zip-flip : (xs : List A) (ys : List B) → AllZip R xs ys → AllZip (λ y x. R x y) ys xs
  zip-flip [] [] all = tt
  zip-flip (x ∷ xs) (y ∷ ys) all = (all.0, zip-flip xs ys all.1)
  zip-flip [] (y ∷ ys) all = absurd all
  zip-flip (x ∷ xs) [] all = absurd all

  -- what holds of a second list that was made of another
  pub zip-made : {X : Type 0} (g : X → B) (xs : List A) (zs : List X)
      → AllZip (λ x z. R x (g z)) xs zs → AllZip R xs (map g zs)
  zip-made g [] [] all = tt
  zip-made g (x ∷ xs) (z ∷ zs) all = (all.0, zip-made g xs zs all.1)
  zip-made g [] (z ∷ zs) all = absurd all
  zip-made g (x ∷ xs) [] all = absurd all

  pub zip-unmade : {X : Type 0} (g : X → B) (xs : List A) (zs : List X)
      → AllZip R xs (map g zs) → AllZip (λ x z. R x (g z)) xs zs
  zip-unmade g [] [] all = tt
  zip-unmade g (x ∷ xs) (z ∷ zs) all = (all.0, zip-unmade g xs zs all.1)
  zip-unmade g [] (z ∷ zs) all = absurd all
  zip-unmade g (x ∷ xs) [] all = absurd all

  -- a sum over the second list, and one over the first
  pub zip-sum : (f : A → ℕ) (g : B → ℕ) → ((x : A) (y : B) → R x y → g y ≤ f x) → (xs : List A)
      (ys : List B) → AllZip R xs ys → sum_by g ys ≤ sum_by f xs
  zip-sum f g less [] [] all = omega arith
  zip-sum f g less (x ∷ xs) (y ∷ ys) all = omega (
    arith,
    less x y all.0,
    zip-sum f g less xs ys all.1,
    sum_by-cons f x xs,
    sum_by-cons g y ys,
  )
  zip-sum f g less [] (y ∷ ys) all = absurd all
  zip-sum f g less (x ∷ xs) [] all = absurd all

pub zip-itself : {A : Type 0} (R : A → A → Type 0) (xs : List A) → All (λ x. R x x) xs
    → AllZip R xs xs
zip-itself R [] all = tt
zip-itself R (x ∷ xs) all =
    (All-head (λ y. R y y) x xs all, zip-itself R xs (All-tail (λ y. R y y) x xs all))

pub all_front : {X : Type 0} (P : X → Type 0) (xs ys : List X) → All P (xs ++ ys) → All P xs
all_front P [] ys all = All-nil P
all_front P (x ∷ xs) ys all = All-cons P x xs (All-head P x (xs ++ ys) all)
    (all_front P xs ys (All-tail P x (xs ++ ys) all))

pub all_back : {X : Type 0} (P : X → Type 0) (xs ys : List X) → All P (xs ++ ys) → All P ys
all_back P [] ys all = all
all_back P (x ∷ xs) ys all = all_back P xs ys (All-tail P x (xs ++ ys) all)

-- the first, and those behind
pub all_split : {A : Type 0} (x : A) (xs us : List A) → us ≡ x ∷ xs → (P : A → Type 0) → All P us
    → P x × All P xs
all_split x xs us is P all =
    let both = subst (λ (l : List _). All P l) is all in
    (All-head P x xs both, All-tail P x xs both)
