use Rattle.std.proofs.Common.{◌==◌, ◌&&◌, ◌∙◌, Bool, ap, sym, get_or}
use Rattle.std.proofs.lemmas.List.Folds.{list_all_more}
use Rattle.page_check.proofs.Zeros.{or_is_zero}
use Rattle.page_check.proofs.verdict.is_zero_page.Goals as goal

pub loop-byte-preserved : goal.loop-byte-preserved
loop-byte-preserved c =
    let bytes = c.bytes-bytes.result.now in
    let i = c.loop-byte.byte-index in
    let byte = get_or bytes i 0 in
    or_is_zero c.loop-byte.all byte
    ∙ ap (λ (b : Bool). b && (byte == 0)) c.loop-byte.invariant
    ∙ sym (list_all_more (λ b. b == 0) bytes i 0 c.loop-byte-test.true)
