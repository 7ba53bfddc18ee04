-- A sink that grows by one text after another.
use Rattle.std.proofs.Common.{◌≡◌, ℕ, ◌+◌, List, [], ◌∷◌, ◌++◌, length, take, refl, sym, ap, ◌∙◌}
use Rattle.std.proofs.Common.{subst, append-nil, append_assoc, zero, suc, arith}
use Rattle.std.specs.Prelude.{Option, Some, None}
use Rattle.std.proofs.Math.Seq.{take-append-add}
use Rattle.std.proofs.lemmas.List.{take_all}
use Rattle.aio_disk.specs.Sink.{SinkGrew, SinkGrewByPrefix}

pub SinkGrew-nothing : (before : Option (List ℕ)) → SinkGrew before before []
SinkGrew-nothing None = refl
SinkGrew-nothing (Some bytes) =
    ap {B = Option (List ℕ)} (λ (b : List ℕ). Some b) (sym (append-nil bytes))

pub SinkGrew-same : (before after : Option (List ℕ)) (text more : List ℕ) → text ≡ more
    → SinkGrew before after text → SinkGrew before after more
SinkGrew-same before after text more e g = let P : List ℕ
    → Type 0 = SinkGrew before after in subst P e g

pub SinkGrewByPrefix-same : (before after : Option (List ℕ)) (text more : List ℕ) → text ≡ more
    → SinkGrewByPrefix before after text
    → SinkGrewByPrefix before after more
SinkGrewByPrefix-same before after text more e g = let P : List ℕ
    → Type 0 = SinkGrewByPrefix before after in subst P e g

-- a sink that stayed as it was has grown by a begin of any text
pub SinkGrewByPrefix-nothing : (before after : Option (List ℕ)) (text : List ℕ) → after ≡ before
    → SinkGrewByPrefix before after text
SinkGrewByPrefix-nothing None after text same = same
SinkGrewByPrefix-nothing (Some bytes) after text same =
    (0, same ∙ ap {B = Option (List ℕ)} (λ (b : List ℕ). Some b) (sym (append-nil bytes)))

pub SinkGrew-append : (b m a : Option (List ℕ)) (xs ys : List ℕ) → SinkGrew b m xs → SinkGrew m a ys
    → SinkGrew b a (xs ++ ys)
SinkGrew-append None m a xs ys first second =
    (let P : Option (List ℕ)
    → Type 0 = λ o. SinkGrew o a ys in let h : SinkGrew None a ys = subst P first second in h)
SinkGrew-append (Some b) m a xs ys first second =
    let P : Option (List ℕ) → Type 0 = λ o. SinkGrew o a ys in
    let h : a ≡ Some ((b ++ xs) ++ ys) = subst P first second in
    h ∙ ap {B = Option (List ℕ)} (λ (l : List ℕ). Some l) (append_assoc b xs ys)

pub SinkGrewByPrefix-append : (b m a : Option (List ℕ)) (xs ys : List ℕ) → SinkGrew b m xs
    → SinkGrewByPrefix m a ys → SinkGrewByPrefix b a (xs ++ ys)
SinkGrewByPrefix-append None m a xs ys first second =
    (let P : Option (List ℕ)
    → Type 0 = λ o. SinkGrewByPrefix o a ys in let h : SinkGrewByPrefix None a ys =
    subst P first second in h)
SinkGrewByPrefix-append (Some b) m a xs ys first second =
    let P : Option (List ℕ) → Type 0 = λ o. SinkGrewByPrefix o a ys in
    let h : SinkGrewByPrefix (Some (b ++ xs)) a ys = subst P first second in (
      length xs + h.0,
      h.1 ∙ ap {B = Option (List ℕ)} (λ (l : List ℕ). Some l)
          (append_assoc b xs (take h.0 ys)
          ∙ ap (λ (l : List ℕ). b ++ l) (sym (take-append-add xs ys h.0))),
    )

pub take_within : (k : ℕ) (xs ys : List ℕ) → (j : ℕ) × (take k xs ≡ take j (xs ++ ys))
take_within zero xs ys = (0, refl)
take_within (suc k) [] ys = (0, refl)
take_within (suc k) (x ∷ xs) ys =
    let rest = take_within k xs ys in (suc rest.0, ap (λ (l : List ℕ). x ∷ l) rest.1)

-- a begin of a text is one of a longer text
pub SinkGrewByPrefix-more : (b a : Option (List ℕ)) (xs ys : List ℕ) → SinkGrewByPrefix b a xs
    → SinkGrewByPrefix b a (xs ++ ys)
SinkGrewByPrefix-more None a xs ys grew = grew
SinkGrewByPrefix-more (Some b) a xs ys grew =
    let j = take_within grew.0 xs ys in
    (j.0, grew.1 ∙ ap {B = Option (List ℕ)} (λ (l : List ℕ). Some (b ++ l)) j.1)

-- all of a text is a begin of it
pub SinkGrewByPrefix-whole : (b a : Option (List ℕ)) (text : List ℕ) → SinkGrew b a text
    → SinkGrewByPrefix b a text
SinkGrewByPrefix-whole None a text grew = grew
SinkGrewByPrefix-whole (Some b) a text grew = (
  length text,
  grew ∙ ap {B = Option (List ℕ)} (λ (l : List ℕ). Some (b ++ l))
      (sym (take_all (length text) text (omega arith))),
)
