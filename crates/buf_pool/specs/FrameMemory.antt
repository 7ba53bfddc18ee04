-- What the memory of a frame holds, whenever a reader or a writer comes to it.
use Rattle.std.specs.Prelude.{◌≡◌, ℕ, List, Option, IfSome, length}
use Rattle.page_check.specs.Told.{Told}
use Rattle.buf_pool.specs.declared.descriptor.Tag.{Tag}
use Rattle.read_callbacks.specs.GoodPages.{IsGood}

-- it carries no tag, or a tag whose good page it is
abbrev pub Carries : Option Told → Option Tag → List ℕ → Type 0
Carries told carried page =
    IfSome carried (λ tag. (length page ≡ 8192) × IsGood told tag.checksums tag.relation tag.block page)
