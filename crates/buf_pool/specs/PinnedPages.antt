-- What a reader of a frame sees.
use mathlib.Core.Bool.{beq}
use Rattle.std.specs.Prelude.{ℕ, ◌==◌, ◌&&◌, Bool, false, List, [], Option, Some, None}
use Rattle.buf_pool.specs.declared.descriptor.Tag.{Tag}
use Rattle.buf_pool.specs.declared.carried_page.CarriedPage.{CarriedPage}

-- whether this is the tag
abbrev pub is_tag : Option Tag → Tag → Bool
is_tag (Some carried) tag =
    (carried.relation == tag.relation) && (carried.block == tag.block)
    && beq carried.checksums tag.checksums
is_tag None _ = false

-- whether what a reader sees carries the tag
abbrev pub carries_tag : {W : Type 0} → Option (Option (CarriedPage W)) → Tag → Bool
carries_tag (Some (Some carried)) tag = is_tag carried.tag tag
carries_tag (Some None) _ = false
carries_tag None _ = false

-- the page that a reader sees
abbrev pub carried_page : {W : Type 0} → Option (Option (CarriedPage W)) → List ℕ
carried_page (Some (Some carried)) = carried.memory
carried_page (Some None) = []
carried_page None = []
