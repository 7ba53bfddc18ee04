use Rattle.std.proofs.Common.{◌≡◌, ◌∙◌, ◌++◌, ◌+◌, ◌-◌, ◌*◌, ap, arith, ℕ}
use Rattle.generated_pages.specs.GeneratedPages.{four_bytes, generated_pointer, generated_pointer_bytes}
use Rattle.generated_pages.proofs.GeneratedBytesAppend.{pointers_more, pushed}
use Rattle.generated_pages.proofs.generated.put_pointers.Goals as goal

pub loop-index-preserved : goal.loop-index-preserved
loop-index-preserved c =
    let n = c.loop-index.index in
    let number = 8192 - 32 * (c.from.result + 1) + 32768 + 4194304 in
    let same : generated_pointer (n + 1) ≡ number = omega (arith, c.from.ensures) in
    pushed c.put_u32.new.out.items c.loop-index.out.items c.args.out.now.items
    (generated_pointer_bytes n)
    (four_bytes number) (generated_pointer_bytes (n + 1))
    c.in_ok-put_u32.ensures c.loop-index.invariant
    (pointers_more n ∙ ap (λ (k : ℕ). generated_pointer_bytes n ++ four_bytes k) same)
