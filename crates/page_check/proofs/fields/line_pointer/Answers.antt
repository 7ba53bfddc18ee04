use Rattle.std.proofs.Common.{arith}
use Rattle.page_check.proofs.ValidPages.{line_pointer_fits}
use Rattle.page_check.proofs.fields.line_pointer.Goals as goal

pub line_pointer_at-requires : goal.line_pointer_at-requires
line_pointer_at-requires c =
    omega (arith, line_pointer_fits _ _ c.requires.valid c.requires.index, c.bytes.ensures.size)
