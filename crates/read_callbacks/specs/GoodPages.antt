-- What is held of a block whose page was read: a page that may be handed on, or a bad one by its mark.
use Rattle.std.specs.Prelude.{◌≡◌, ℕ, ◌<◌, Bool, List, Option, IfSome}
use Rattle.page_check.specs.Told.{Told, relation_block_count, relation_page}
use Rattle.page_check.specs.Checksum.{verdict_as, IsValidAs}
use Rattle.page_check.specs.declared.verdict.Verdict.TheVariants.{Bad}
use Rattle.page_check.specs.declared.rules.PageMark.{PageMark}
use Rattle.page_check.specs.declared.rules.PageMark.TheVariants.{Valid, Zeroed, Damaged}
use Rattle.page_check.specs.SynchronousAnswer.{zero_page}

-- the page of the block, where the contents are told
abbrev pub IsContents : Option Told → ℕ → ℕ → List ℕ → Type 0
IsContents told relation block page = IfSome told
    (λ t. (block < relation_block_count t relation) × (relation_page t relation block ≡ page))

-- the page of the block is bad, where the contents are told
abbrev pub HasBadPage : Option Told → Bool → ℕ → ℕ → Type 0
HasBadPage told checksums relation block = IfSome told
    (λ t. (block < relation_block_count t relation)
    × (verdict_as checksums block (relation_page t relation block) ≡ Bad))

pub record IsGood (told : Option Told) (checksums : Bool) (relation block : ℕ) (page : List ℕ)
    : Type 0 where
  pub valid : IsValidAs checksums block page
  pub contents : IsContents told relation block page

pub record IsZeroed (told : Option Told) (checksums : Bool) (relation block : ℕ) (page : List ℕ)
    : Type 0 where
  pub zeros : page ≡ zero_page
  pub told_bad : HasBadPage told checksums relation block

pub record IsDamaged (told : Option Told) (checksums : Bool) (relation block : ℕ) (page : List ℕ)
    : Type 0 where
  pub bad : verdict_as checksums block page ≡ Bad
  pub contents : IsContents told relation block page

-- a page that its owner gives, by its mark
abbrev pub IsGivenAs : Option Told → Bool → ℕ → ℕ → List ℕ → PageMark → Type 0
IsGivenAs told checksums relation block page Valid = IsGood told checksums relation block page
IsGivenAs told checksums relation block page Zeroed = IsZeroed told checksums relation block page
IsGivenAs told checksums relation block page Damaged = IsDamaged told checksums relation block page
