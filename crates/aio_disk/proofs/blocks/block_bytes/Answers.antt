use Rattle.std.proofs.Common.{◌≡◌, ℕ, ◌+◌, ◌-◌, ◌*◌, take, drop, ap, arith}
use Rattle.page_check.specs.Told.{block_contents}
use Rattle.aio_disk.proofs.blocks.block_bytes.Goals as goal

pub returns-clause-page : goal.returns-clause-page
unfolding block_contents
returns-clause-page c =
    let size : 8192 * c.args.block + 8192 - 8192 * c.args.block ≡ 8192 = omega arith in
    ap (λ (n : ℕ). take n (drop (8192 * c.args.block) c.args.bytes.now)) size
