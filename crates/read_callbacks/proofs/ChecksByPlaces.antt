-- The test whether pages are checked, and the places of the callbacks.
use Rattle.std.proofs.Common.{◌≡◌, ℕ, zero, suc, ◌<◌, ◌⊎◌, inl, inr, Bool, true, false, ◌||◌, ◌&&◌}
use Rattle.std.proofs.Common.{List, [], ◌∷◌, refl, ap, ◌∙◌, arith, Some}
use Rattle.std.specs.Prelude.{◌↔◌, slice_get}
use Rattle.std.proofs.Math.Logic.{⊎_elim}
use Rattle.std.proofs.lemmas.Option.{same_Some}
use Rattle.read_callbacks.specs.declared.chain.CallbackId.{CallbackId}
use Rattle.read_callbacks.specs.declared.chain.CallbackId.TheVariants.{File, Buffer, Count}
use Rattle.read_callbacks.specs.declared.chain.CallbackId.TheVariants.{ZeroBuffer, MarkBuffer}
use Rattle.read_callbacks.specs.Chain.{is_file, has_file, is_check, has_check_behind_file, ChecksBehindFile}

both_or_later : (a b c : Bool) → ((a && b) || c) ≡ true → ((a ≡ true) × (b ≡ true)) ⊎ (c ≡ true)
both_or_later true true c e = inl (refl, refl)
both_or_later true false c e = inr e
both_or_later false b c e = inr e

or_later : (a b : Bool) → b ≡ true → (a || b) ≡ true
or_later true b e = refl
or_later false b e = e

some_file : (ids : List CallbackId) → has_file ids ≡ true → (j : ℕ) × (slice_get ids j ≡ Some File)
some_file [] e = absurd (cc)
some_file (File ∷ ids) e = (0, refl)
some_file (Buffer ∷ ids) e = let (j, at) = some_file ids e in (suc j, at)
some_file (ZeroBuffer ∷ ids) e = let (j, at) = some_file ids e in (suc j, at)
some_file (MarkBuffer ∷ ids) e = let (j, at) = some_file ids e in (suc j, at)
some_file (Count ∷ ids) e = let (j, at) = some_file ids e in (suc j, at)

has_at : (ids : List CallbackId) (j : ℕ) → slice_get ids j ≡ Some File → has_file ids ≡ true
has_at [] j at = absurd (cc)
has_at (id ∷ ids) zero at =
    ap (λ (x : CallbackId). is_file x || has_file ids) (same_Some id File at)
has_at (id ∷ ids) (suc j) at = or_later (is_file id) (has_file ids) (has_at ids j at)

places : (ids : List CallbackId) → has_check_behind_file ids ≡ true → ChecksBehindFile ids
places [] e = absurd (cc)
places (id ∷ ids) e = ⊎_elim
    (λ here. let (j, at) = some_file ids here.1 in record {
      check = 0;
      file = suc j;
      order = omega arith;
      id = id;
      here = refl;
      checks = here.0;
      reads = at;
    })
    (λ later. let p = places ids later in record {
      check = suc p.check;
      file = suc p.file;
      order = omega (arith, p.order);
      id = p.id;
      here = p.here;
      checks = p.checks;
      reads = p.reads;
    })
    (both_or_later (is_check id) (has_file ids) (has_check_behind_file ids) e)

checked_at : (ids : List CallbackId) (i j : ℕ) (check : CallbackId) → i < j
    → slice_get ids i ≡ Some check → is_check check ≡ true → slice_get ids j ≡ Some File
    → has_check_behind_file ids ≡ true
checked_at ids i zero check lt here is file = absurd (omega arith)
checked_at [] i (suc j) check lt here is file = absurd (cc)
checked_at (id ∷ ids) zero (suc j) check lt here is file =
    ap (λ (x : CallbackId). (is_check x && has_file ids) || has_check_behind_file ids)
    (same_Some id check here)
    ∙ ap (λ (x : Bool). (x && has_file ids) || has_check_behind_file ids) is
    ∙ ap (λ (x : Bool). x || has_check_behind_file ids) (has_at ids j file)
checked_at (id ∷ ids) (suc i) (suc j) check lt here is file =
    or_later (is_check id && has_file ids) (has_check_behind_file ids)
    (checked_at ids i j check (omega arith) here is file)

pub checked_by_places : (ids : List CallbackId) → (has_check_behind_file ids ≡ true) ↔ ChecksBehindFile ids
checked_by_places ids =
    (places ids, λ p. checked_at ids p.check p.file p.id p.order p.here p.checks p.reads)
