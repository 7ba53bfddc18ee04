-- Sources whose calls come one after the other, and bytes that come in parts.
use Rattle.std.proofs.Common.{◌≡◌, ℕ, ◌+◌, ◌-◌, ◌^◌, ◌<◌, ◌≤◌, List}
use Rattle.std.proofs.Common.{◌++◌, length, take, drop, refl, sym, ap, ◌∙◌, arith, subst}
use Rattle.std.proofs.Common.{inl, inr}
use Rattle.std.specs.Prelude.{Option, Some, None, IfSome}
use Rattle.std.specs.Option.{option_map}
use borrow.Rule.Slice.PartMut.{put_mid}
use Rattle.std.proofs.lemmas.Slice.{take-put_mid}
use Rattle.std.proofs.lemmas.List.{take-take, drop-drop, length-take-le}
use Rattle.std.proofs.Math.Seq.{take-add, take-append-add}
use Rattle.aio_disk.specs.Source.{Source, with_failures, FailuresCounted, NoneFailed, OneFailed}
use Rattle.aio_disk.specs.Source.{HoldsBytes, GivesBytes, GivesBlock}

later_both : (f i g j : ℕ) (s : Source) → with_failures g j (with_failures f i s)
    ≡ with_failures (f + g) (i + j) s
later_both f i g j s =
    let faults : s.faults + f + g ≡ s.faults + (f + g) = omega arith in
    let interrupts : s.interrupts + i + j ≡ s.interrupts + (i + j) = omega arith in
    rw (faults, interrupts) refl

map_both : (f i g j : ℕ) (b : Option Source)
    → option_map (with_failures g j) (option_map (with_failures f i) b)
    ≡ option_map (with_failures (f + g) (i + j)) b
map_both f i g j None = refl
map_both f i g j (Some s) = ap {B = Option Source} (λ (x : Source). Some x) (later_both f i g j s)

-- calls that come one after the other
pub passed_both : (b m a : Option Source) (f i g j : ℕ) → FailuresCounted b m f i
    → FailuresCounted m a g j
    → FailuresCounted b a (f + g) (i + j)
passed_both b m a f i g j first second =
    let sum : i + first.0 + (j + second.0) ≡ i + j + (first.0 + second.0) = omega arith in (
      first.0 + second.0,
      second.1 ∙ ap (option_map (with_failures g (j + second.0))) first.1
          ∙ map_both f (i + first.0) g (j + second.0) b
          ∙ ap (λ (n : ℕ). option_map (with_failures (f + g) n) b) sum,
    )

pub none_failed_both : (b m a : Option Source) → NoneFailed b m → NoneFailed m a → NoneFailed b a
none_failed_both b m a first second = passed_both b m a 0 0 0 0 first second

pub then_one_failed : (b m a : Option Source) → NoneFailed b m → OneFailed m a → OneFailed b a
then_one_failed b m a first second = elim second [
  | inl fault ↦ inl (passed_both b m a 0 0 1 0 first fault)
  | inr endless ↦ inr (passed_both b m a 0 0 0 (2 ^ 64 - 1) first endless)
]

-- what holds of the bytes of a source still does after its calls
pub told_still : (b m : Option Source) (P : List ℕ → Type 0) → NoneFailed b m
    → IfSome m (λ s. P s.bytes) → IfSome b (λ s. P s.bytes)
told_still None m P passed holds = tt
told_still (Some s) m P passed holds =
    let Q : Option Source → Type 0 = λ o. IfSome o (λ t. P t.bytes) in subst Q passed.1 holds

-- what stands at the head of a list of which a part was written
pub take_parts : {X : Type 0} (given part : List X) (done n room : ℕ) → done ≤ length given
    → length part ≡ room → n ≤ room
    → take (done + n) (put_mid done room given part) ≡ take done given ++ take n part
take_parts {X} given part done n room within size few =
    let all = put_mid done room given part in
    let both : take (done + length part) all ≡ take done given ++ part =
    take-put_mid done room given part (done + length part) refl within in
    let first : length (take done given) ≡ done = length-take-le done given within in
    sym (take-take (done + n) (done + length part) all (omega (arith, size)))
    ∙ ap (take (done + n)) both
    ∙ ap (λ (k : ℕ). take (k + n) (take done given ++ part)) (sym first)
    ∙ take-append-add (take done given) part n

-- bytes that come in parts
part_more : (bytes given part : List ℕ) (offset done n room : ℕ) → done ≤ length given
    → length part ≡ room → n ≤ room → HoldsBytes bytes offset done given
    → HoldsBytes bytes (offset + done) n part
    → HoldsBytes bytes offset (done + n) (put_mid done room given part)
part_more bytes given part offset done n room within size few front back =
    let rest : take n part ≡ take n (drop done (drop offset bytes)) =
    back ∙ ap (take n) (sym (drop-drop done offset bytes)) in
    take_parts given part done n room within size few
    ∙ ap (λ (l : List ℕ). l ++ take n part) front
    ∙ ap (λ (l : List ℕ). take done (drop offset bytes) ++ l) rest
    ∙ sym (take-add done n (drop offset bytes))

pub parts_held : (b : Option Source) (given part : List ℕ) (offset done n room : ℕ)
    → done ≤ length given → length part ≡ room → n ≤ room
    → IfSome b (λ s. HoldsBytes s.bytes offset done given)
    → IfSome b (λ s. GivesBytes s.bytes (offset + done) n part)
    → IfSome b (λ s. HoldsBytes s.bytes offset (done + n) (put_mid done room given part))
parts_held None given part offset done n room within size few front back = tt
parts_held (Some s) given part offset done n room within size few front back =
    part_more s.bytes given part offset done n room within size few front back.bytes_held

-- no more comes: the end was reached
pub parts_end : (b : Option Source) (given part : List ℕ) (offset done n room : ℕ)
    → done < length given → length part ≡ room → n ≡ 0 → done + room ≡ length given
    → IfSome b (λ s. HoldsBytes s.bytes offset done given)
    → IfSome b (λ s. GivesBytes s.bytes (offset + done) n part)
    → IfSome b (λ s. GivesBlock s.bytes offset done (put_mid done room given part))
parts_end None given part offset done n room below size none all front back = tt
parts_end (Some s) given part offset done n room below size none all front back = record {
  bytes_held = (let P : ℕ → Type 0 =
      λ k. HoldsBytes s.bytes offset k (put_mid done room given part) in
      let sum : done + n ≡ done = omega arith in
      subst P sum
      (part_more s.bytes given part offset done n room (omega arith) size (omega arith) front
      back.bytes_held));
  enough = inr (back.some none (omega arith));
}
