-- The lengths of the relations, each taken and tested before the next.
use Rattle.std.specs.Prelude.{◌≡◌, ℕ, ◌<◌, ◌≤◌, List, length, slice_index, Option, IfSome}
use Rattle.page_check.specs.Told.{Told, relation_block_count}
use Rattle.command_line.specs.Command.{number_limit}
use Rattle.run_report.specs.Run.{EarlierFit, limit_known}
use Rattle.run_report.specs.declared.report.Outcome.{Outcome}
use Rattle.run_report.specs.declared.report.Outcome.TheVariants.{NoLength, NoMemory, TooLong}

-- the lengths of the first relations, in order, where they are told
abbrev pub AreToldLengths : Option Told → List ℕ → Type 0
AreToldLengths told lengths =
    IfSome told (λ t. (r : ℕ) → r < length lengths
    → slice_index lengths r ≡ relation_block_count t r)

-- a length for each relation, none too long for its segment size
pub record HasAllLengths (told : Option Told) (segment relations : ℕ) (lengths : List ℕ) : Type 0
  where
    pub all : length lengths ≡ relations
    pub fit : (r : ℕ) → slice_index lengths r ≤ limit_known told segment
    pub in_range : limit_known told segment ≤ number_limit
    pub told_lengths : AreToldLengths told lengths

-- why they could not be had: each relation before the one that is named was tested
abbrev pub LengthsFailed : Option Told → ℕ → ℕ → Outcome → Type 0
LengthsFailed told segment relations (NoLength r) =
    (r < relations) × IfSome told
    (λ t. EarlierFit (limit_known told segment) (relation_block_count t) r)
LengthsFailed told segment relations (TooLong r) =
    (r < relations) × IfSome told
    (λ t. EarlierFit (limit_known told segment) (relation_block_count t) r)
    × IfSome told (λ t. limit_known told segment < relation_block_count t r)
LengthsFailed told segment relations NoMemory = Unit {0}
LengthsFailed told segment relations _ = ⊥
