-- Which entries have a pin.
use Rattle.std.proofs.Common.{◌≡◌, ℕ, zero, suc, ◌+◌, ◌<◌, IsTrue, nat_lt, true, eqb, ◌&&◌, arith}
use Rattle.std.proofs.Common.{◌∙◌, ap, sym, refl, Bool, false}
use mathlib.Core.Bool.{beq}
use Rattle.std.proofs.lemmas.Bool.{ltb-true, lt-ltb, and_parts, eqb-true}
use Rattle.buf_pool.specs.declared.descriptor.Tag.{Tag}
use Rattle.buf_pool.specs.declared.descriptor.Descriptor.{Descriptor}
use Rattle.buf_pool.specs.declared.descriptor.Descriptor.TheVariants.{Free, InProgress, Valid}

same_flag : (a b : Bool) → beq a b ≡ true → a ≡ b
same_flag true true e = refl
same_flag true false e = absurd (cc)
same_flag false true e = absurd (cc)
same_flag false false e = refl

-- tags with equal parts are equal
pub same_tag : (a b : Tag)
    → (eqb a.relation b.relation && (eqb a.block b.block && beq a.checksums b.checksums)) ≡ true
    → a ≡ b
same_tag a b e =
    let first = and_parts (eqb a.relation b.relation)
    (eqb a.block b.block && beq a.checksums b.checksums) e in
    let later = and_parts (eqb a.block b.block) (beq a.checksums b.checksums) first.1 in
    let relations = eqb-true a.relation b.relation first.0 in
    let blocks = eqb-true a.block b.block later.0 in
    let flags = same_flag a.checksums b.checksums later.1 in
    λ i. record { relation = relations i; block = blocks i; checksums = flags i }

count_of : Descriptor → ℕ
count_of Free = 0
count_of (InProgress tag reference) = 0
count_of (Valid tag pins) = pins

-- a page has a pin where its count of pins is above 0
pub pinned_where : (entry : Descriptor) (tag : Tag) (pins : ℕ) → entry ≡ Valid tag pins
    → (IsTrue (nat_lt 0 pins) → (x : ℕ) × (entry ≡ Valid tag (x + 1)))
    × ((x : ℕ) × (entry ≡ Valid tag (x + 1)) → IsTrue (nat_lt 0 pins))
unfolding count_of
pinned_where entry tag zero e = (
  λ clash. absurd (let no : 0 < 0 = ltb-true 0 0 clash in omega (arith, no)),
  λ h. absurd (let clash : zero ≡ h.0 + 1 = ap count_of (sym e ∙ h.1) in omega (arith, clash)),
)
pinned_where entry tag (suc pins) e = (
  λ _. (pins, let s : suc pins ≡ pins + 1 = omega arith in e ∙ ap (Valid tag) s),
  λ _. lt-ltb 0 (suc pins) (omega arith),
)
