-- What the aim of a record tells.
use Rattle.std.proofs.Common.{◌≡◌, List, [], ◌∷◌, map, refl, arith, ℕ, Bool, true, false, cond}
use Rattle.std.proofs.Common.{◌==◌, if◌then◌else◌, sym, ap, ◌∙◌}
use Rattle.read_callbacks.specs.declared.chain.CallbackId.{CallbackId}
use Rattle.read_callbacks.specs.declared.chain.CallbackId.TheVariants.{File, Buffer, Count}
use Rattle.read_callbacks.specs.declared.chain.CallbackId.TheVariants.{ZeroBuffer, MarkBuffer}
use Rattle.aio_callback.specs.ReadIoView.{ReadIoView, ReadsAs, record_aim, number_of_id}

abbrev id_of_number : ℕ → CallbackId
id_of_number n =
    if n == 1 then File else (if n == 2 then Buffer else (if n == 3 then Count
    else (if n == 4 then ZeroBuffer else MarkBuffer)))

id-back : (id : CallbackId) → id_of_number (number_of_id id) ≡ id
id-back File = refl
id-back Buffer = refl
id-back Count = refl
id-back ZeroBuffer = refl
id-back MarkBuffer = refl

same-id : (a b : CallbackId) → number_of_id a ≡ number_of_id b → a ≡ b
same-id a b e = sym (id-back a) ∙ ap id_of_number e ∙ id-back b

same-ids : (xs ys : List CallbackId) → map number_of_id xs ≡ map number_of_id ys → xs ≡ ys
same-ids [] [] e = refl
same-ids [] (y ∷ ys) e = absurd (cc)
same-ids (x ∷ xs) [] e = absurd (cc)
same-ids (x ∷ xs) (y ∷ ys) e =
    let head : number_of_id x ≡ number_of_id y = cc in
    let tail : map number_of_id xs ≡ map number_of_id ys = cc in
    (λ k. same-id x y head k ∷ same-ids xs ys tail k)

same-flag : (a b : Bool) → cond {A = ℕ} a 1 0 ≡ cond b 1 0 → a ≡ b
same-flag true true e = refl
same-flag true false e = absurd (omega arith)
same-flag false true e = absurd (omega arith)
same-flag false false e = refl

pub reads-as : (r s : ReadIoView) → record_aim r ≡ record_aim s → ReadsAs r s
reads-as r s e =
    let ids : map number_of_id r.ids ≡ map number_of_id s.ids = cc in
    let flag : cond {A = ℕ} r.checksums 1 0 ≡ cond s.checksums 1 0 = cc in
    record {
      relation = cc;
      first = cc;
      count = cc;
      checksums = same-flag r.checksums s.checksums flag;
      ids = same-ids r.ids s.ids ids;
      room = cc;
    }
