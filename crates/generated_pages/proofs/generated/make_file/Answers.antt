use Rattle.std.proofs.Common.{◌≡◌, ◌∙◌, ◌++◌, ap, sym, arith, List, ℕ}
use Rattle.generated_pages.specs.GeneratedPages.{generated_file, generated_page}
use Rattle.generated_pages.proofs.GeneratedBytesAppend.{file_more}
use Rattle.generated_pages.proofs.generated.make_file.Goals as goal

pub loop-block-preserved : goal.loop-block-preserved
loop-block-preserved c =
    c.in_ok-put_block.ensures
    ∙ ap (λ (xs : List ℕ). xs ++ generated_page c.loop-block.block) c.loop-block.invariant
    ∙ sym (file_more c.loop-block.block)

pub returns : goal.returns
unfolding generated_file
returns c =
    let all : c.loop-block.block ≡ c.args.pages =
    omega (arith, c.loop-block-test.false, c.loop-block.auto.block-end) in
    rw (sym all) c.loop-block.invariant
