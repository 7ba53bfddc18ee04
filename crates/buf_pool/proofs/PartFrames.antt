-- How many parts a pool has, and which frames each has.
use Rattle.std.proofs.Common.{◌≡◌, ℕ, zero, suc, ◌+◌, ◌*◌, ◌/◌, ◌%◌, ◌^◌, ◌<◌, ◌≤◌, ◌-◌, min, cond}
use Rattle.std.proofs.Common.{arith}
use Rattle.std.proofs.Common.{⊎_elim, ◌∙◌, ap, sym, refl, ltb, leb, eqb, Bool, true, false, not}
use Rattle.std.proofs.Common.{◌&&◌, bit_and}
use Rattle.std.proofs.Math.Nat.{min-zero, min-eq_left, min-eq_right, min-le_right, div-add-mod}
use Rattle.std.proofs.Math.Nat.{le_of_eq, mod-eq_of_lt}
use Rattle.std.proofs.Math.Pow.{pow_mono}
use Rattle.std.proofs.lemmas.Nat.{mod_below, le-div, pow_pos, and_mask}
use Rattle.std.proofs.lemmas.Bool.{cases_lt, cond-true, cond-false, le-leb, lt-leb, lt-ltb, le-ltb}
use Rattle.std.proofs.lemmas.Bool.{and_parts, not-false, eqb-true}
use mir.Val.{bool_byte}
use Rattle.buf_pool.specs.Parts.{power_within, part_count, part_size, first_frame, IsFrameOfPart}

-- the power of a number's logarithm is the greatest one
pub power_of_logarithm : (k n r : ℕ) → 2 ^ r ≤ n → n < 2 * 2 ^ r → power_within k n ≡ 2 ^ min r k
power_of_logarithm zero n r low high = ap (λ x. 2 ^ x) (sym (min-zero r))
power_of_logarithm (suc k) n r low high =
    ⊎_elim
    (λ (below : n < 2 ^ suc k).
    ⊎_elim
    (λ (up : k < r). let m : 2 ^ suc k ≤ 2 ^ r = pow_mono up in absurd (omega arith))
    (λ (down : r ≤ k).
    let s : r ≤ suc k = omega arith in
    cond-false (leb (2 ^ suc k) n) (2 ^ suc k) (power_within k n) (lt-leb (2 ^ suc k) n below) ∙
    power_of_logarithm k n r low high ∙ ap (λ x. 2 ^ x) (min-eq_left down ∙ sym (min-eq_left s)))
    (cases_lt k r))
    (λ (above : 2 ^ suc k ≤ n).
    ⊎_elim
    (λ (small : r < suc k). let m : 2 ^ suc r ≤ 2 ^ suc k = pow_mono small in absurd (omega arith))
    (λ (large : suc k ≤ r). cond-true (leb (2 ^ suc k) n) (2 ^ suc k) (power_within k n)
    (le-leb (2 ^ suc k) n above) ∙ ap (λ x. 2 ^ x) (sym (min-eq_right large)))
    (cases_lt r (suc k)))
    (cases_lt n (2 ^ suc k))

-- the same where the number is cut off at 128
pub power_cut_off : (n r : ℕ) → 2 ^ r ≤ min n 128 → min n 128 < 2 * 2 ^ r → power_within 7 n ≡ 2 ^ r
power_cut_off n r low high =
    let few : r ≤ 7 =
    ⊎_elim
    (λ (large : 7 < r). let m : 2 ^ 8 ≤ 2 ^ r = pow_mono large in absurd (omega (
      arith,
      min-le_right n
          128,
    )))
    (λ (small : r ≤ 7). small)
    (cases_lt 7 r) in
    ⊎_elim
    (λ (below : n < 128).
    let e : min n 128 ≡ n = min-eq_left (omega arith) in
    power_of_logarithm 7 n r (omega arith) (omega arith) ∙ ap (λ x. 2 ^ x) (min-eq_left few))
    (λ (above : 128 ≤ n).
    let e : min n 128 ≡ 128 = min-eq_right above in
    ⊎_elim
    (λ (less : r < 7). let m : 2 ^ suc r ≤ 2 ^ 7 = pow_mono less in absurd (omega arith))
    (λ (more : 7 ≤ r).
    let seven : r ≡ 7 = omega arith in
    cond-true (leb 128 n) 128 (power_within 6 n) (le-leb 128 n above) ∙ ap (λ x. 2 ^ x) (sym seven))
    (cases_lt r 7))
    (cases_lt n 128)

-- the greatest power is one, and no more than the number
pub power_fits : (k n : ℕ) → 0 < n → (j : ℕ) × (power_within k n ≡ 2 ^ j) × (power_within k n ≤ n)
power_fits zero n some = (0, refl, some)
power_fits (suc k) n some =
    ⊎_elim
    (λ (below : n < 2 ^ suc k).
    let same = cond-false (leb (2 ^ suc k) n) (2 ^ suc k) (power_within k n)
    (lt-leb (2 ^ suc k) n below) in
    let rest = power_fits k n some in
    (rest.0, same ∙ rest.1, omega (arith, same, rest.2)))
    (λ (above : 2 ^ suc k ≤ n).
    let same = cond-true (leb (2 ^ suc k) n) (2 ^ suc k) (power_within k n)
    (le-leb (2 ^ suc k) n above) in
    (suc k, same, omega (arith, same, above)))
    (cases_lt n (2 ^ suc k))

-- a pool has as many parts as a power of two, and at least one
pub parts_power : (frames : ℕ) → 16 ≤ frames → (j : ℕ) × (part_count frames ≡ 2 ^ j)
unfolding part_count
parts_power frames least =
    let f = power_fits 7 (frames / 16) (le-div 1 frames 16 (omega arith) least) in
    (f.0, f.1)

-- each part has 16 frames
pub parts_fit : (frames : ℕ) → 16 ≤ frames → 16 * part_count frames ≤ frames
unfolding part_count
parts_fit frames least =
    let f = power_fits 7 (frames / 16) (le-div 1 frames 16 (omega arith) least) in
    omega (arith, f.2)

pub parts_some : (frames : ℕ) → 16 ≤ frames → 0 < part_count frames
parts_some frames least =
    let f = parts_power frames least in
    omega (arith, f.1, pow_pos f.0)

-- the last digits of a sum, where a mask takes them
pub masked : (frames sum size : ℕ) → 16 ≤ frames → size ≡ part_count frames
    → bit_and sum (size - 1) ≡ sum % part_count frames
masked frames sum size least is =
    let p = parts_power frames least in
    ap (λ n. bit_and sum (n - 1)) (is ∙ p.1) ∙ and_mask sum p.0 ∙ ap (λ n. sum % n) (sym p.1)

-- the frames of a part go up to the first one of the next
pub next_first : (frames part : ℕ) → first_frame frames (suc part) ≡ first_frame frames part +
    part_size frames part
unfolding first_frame part_size
next_first frames part =
    let q = frames / part_count frames in
    let r = frames % part_count frames in
    ⊎_elim
    (λ (more : part < r).
    let one : cond (ltb part r) 1 0 ≡ 1 = cond-true {A = ℕ} (ltb part r) 1 0 (lt-ltb part r more) in
    let a : min part r ≡ part = min-eq_left (omega arith) in
    let b : min (suc part) r ≡ suc part = min-eq_left more in
    omega (arith, one, a, b))
    (λ (same : r ≤ part).
    let none : cond (ltb part r) 1 0 ≡ 0 = cond-false {A = ℕ} (ltb part r) 1 0 (le-ltb part r same)
    in
    let a : min part r ≡ r = min-eq_right same in
    let b : min (suc part) r ≡ r = min-eq_right (omega arith) in
    omega (arith, none, a, b))
    (cases_lt part r)

-- the first part has the first frame
pub first_of_all : (frames : ℕ) → first_frame frames 0 ≡ 0
unfolding first_frame
first_of_all frames =
    let none : min 0 (frames % part_count frames) ≡ 0 = min-eq_left (omega arith) in
    omega (arith, none)

-- the parts have all frames
pub first_after_last : (frames : ℕ) → 16 ≤ frames → first_frame frames (part_count frames) ≡ frames
unfolding first_frame
first_after_last frames least =
    let n = part_count frames in
    let below : frames % n < n = mod_below frames n (parts_some frames least) in
    let a : min n (frames % n) ≡ frames % n = min-eq_right (omega arith) in
    ap (λ x. n * (frames / n) + x) a ∙ div-add-mod frames n

-- a later part has later frames
pub first_rises : (frames a d : ℕ) → first_frame frames a ≤ first_frame frames (d + a)
first_rises frames a zero =
    let e : zero + a ≡ a = omega arith in
    le_of_eq (ap (first_frame frames) (sym e))
first_rises frames a (suc d) =
    let e : suc d + a ≡ suc (d + a) = omega arith in
    let step : first_frame frames (suc d + a) ≡ first_frame frames (suc (d + a)) =
    ap (first_frame frames) e in
    omega (arith, step, first_rises frames a d, next_first frames (d + a))

pub first_ordered : (frames a b : ℕ) → a ≤ b → first_frame frames a ≤ first_frame frames b
first_ordered frames a b le =
    let e : b - a + a ≡ b = omega arith in
    let r : first_frame frames a ≤ first_frame frames (b - a + a) = first_rises frames a (b - a) in
    omega (arith, r, ap (first_frame frames) e)

-- the count as it is worked out, with 32 bits
pub counted_parts : (frames r : ℕ) → 2 ^ r ≤ min (frames / 16) 128
    → min (frames / 16) 128 < 2 * 2 ^ r → 1 * 2 ^ r % 2 ^ 32 ≡ part_count frames
unfolding part_count
counted_parts frames r low high =
    let small : 2 ^ r < 2 ^ 32 = omega (arith, min-le_right (frames / 16) 128) in
    let one : 1 * 2 ^ r ≡ 2 ^ r = omega arith in
    ap (λ x. x % 2 ^ 32) one ∙ mod-eq_of_lt small ∙ sym (power_cut_off (frames / 16) r low high)

-- no two parts have one frame
pub part_of_frame : (frames f a b : ℕ) → IsFrameOfPart frames a f → IsFrameOfPart frames b f → a ≡ b
part_of_frame frames f a b x y =
    ⊎_elim
    (λ (less : a < b). absurd (omega (arith, x.1, y.0, first_ordered frames (suc a) b less)))
    (λ (more : b ≤ a).
    ⊎_elim
    (λ (less : b < a). absurd (omega (arith, y.1, x.0, first_ordered frames (suc b) a less)))
    (λ (le : a ≤ b). omega arith)
    (cases_lt b a))
    (cases_lt a b)

-- each part has at least 16 frames
pub part_large : (frames part : ℕ) → 16 ≤ frames → 16 ≤ part_size frames part
unfolding part_size
part_large frames part least =
    let q : 16 ≤ frames / part_count frames =
    le-div 16 frames (part_count frames) (parts_some frames least) (parts_fit frames least) in
    omega arith

-- each part has at least 16 frames, and all of them are of the pool
pub part_fits : (frames part : ℕ) → 16 ≤ frames → part < part_count frames →
    (16 ≤ part_size frames part) × (first_frame frames part + part_size frames part ≤ frames)
part_fits frames part least is = (
  part_large frames part least,
  omega (
    arith,
    next_first frames part,
    first_ordered frames (suc part) (part_count frames) is,
    first_after_last frames least,
  ),
)

as_number : (b : Bool) → bool_byte b ≡ cond b 1 0
as_number true = refl
as_number false = refl

-- the frames of a part, as they are shared out
pub shared_out : (frames count part over : ℕ) → count ≡ part_count frames
    → over ≡ bool_byte (ltb part (frames % count)) → frames / count + over ≡ part_size frames part
unfolding part_size
shared_out frames count part over is e =
    ap (λ x. frames / count + x) (e ∙ as_number (ltb part (frames % count)))
    ∙ ap (λ n. frames / n + cond (ltb part (frames % n)) 1 0) is

-- a frame that is counted in the part, as one of the pool
pub counted_from_first : (pool part first f size : ℕ) → first ≡ first_frame pool part → f < size
    → size ≡ part_size pool part → IsFrameOfPart pool part (first + f)
counted_from_first pool part first f size start less is =
    (omega (arith, start), omega (arith, start, is, less, next_first pool part))

-- the same, where the index behind the lock was found to be that of the part
pub shown_frame : (pool part other_pool other_part first f size : ℕ) (differs : Bool)
    → differs ≡ not (eqb other_part part && eqb other_pool pool) → differs ≡ false
    → first ≡ first_frame pool part → f < size → size ≡ part_size other_pool other_part
    → IsFrameOfPart pool part (first + f)
shown_frame pool part other_pool other_part first f size differs is same start less has =
    let both = and_parts (eqb other_part part) (eqb other_pool pool)
    (not-false (eqb other_part part && eqb other_pool pool) (sym is ∙ same)) in
    let same_part : other_part ≡ part = eqb-true other_part part both.0 in
    let same_pool : other_pool ≡ pool = eqb-true other_pool pool both.1 in
    counted_from_first pool part first f size start less
    (has ∙ ap (λ x. part_size x other_part) same_pool ∙ ap (part_size pool) same_part)
