use Rattle.std.proofs.Common.{◌≡◌, ◌<◌, ◌*◌, ◌%◌, ◌^◌, ℕ, zero, suc, refl, arith}
use Rattle.std.proofs.lemmas.Grind.{common_steps}
use Rattle.vis_map.specs.Bits.{page_bits}
use Rattle.vis_map.proofs.map.bits_on_page.Goals as goal

pow_by : (k : ℕ) → k < 4 → 2 ^ (2 * k) ≡ 4 ^ k
pow_by zero below = refl
pow_by (suc zero) below = refl
pow_by (suc (suc zero)) below = refl
pow_by (suc (suc (suc zero))) below = refl
pow_by (suc (suc (suc (suc k)))) below = absurd (omega arith)

pub returns-clause-value : goal.returns-clause-value
unfolding page_bits
returns-clause-value c =
    let same : 2 ^ (2 * (c.args.block % 4)) ≡ 4 ^ (c.args.block % 4) =
    pow_by (c.args.block % 4) (omega arith) in
    rw same (grind (arith, common_steps, c.bytes.ensures.value))
