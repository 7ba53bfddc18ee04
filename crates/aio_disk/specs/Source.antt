-- What a source of bytes tells, and what its calls give.
use Rattle.std.specs.Prelude.{◌≡◌, ◌≢◌, ◌⊎◌, ℕ, ◌+◌, ◌-◌, ◌^◌, ◌<◌, ◌≤◌, List, take, drop}
use Rattle.std.specs.Prelude.{length, min, Option, IfSome, Result, Ok, Err}
use Rattle.std.specs.Option.{option_map}
use Rattle.std.specs.IoError.{error_kind}
use Rattle.std.specs.declared.io.Error.{Error}
use Rattle.std.specs.declared.io.ErrorKind.TheVariants.{Interrupted}
use Rattle.aio_disk.specs.Disk.{ReadsBlocks}

-- the bytes, how often a call has failed, and how often one was interrupted
pub record Source : Type 0 where
  pub bytes : List ℕ
  pub faults : ℕ
  pub interrupts : ℕ

-- with so many faults and interrupted calls more
abbrev pub with_failures : ℕ → ℕ → Source → Source
with_failures faults interrupts source = record source {
  faults = source.faults + faults;
  interrupts = source.interrupts + interrupts;
}

-- so many calls have failed, and at least so many were interrupted
abbrev pub FailuresCounted : Option Source → Option Source → ℕ → ℕ → Type 0
FailuresCounted before now faults interrupts =
    (more : ℕ) × (now ≡ option_map (with_failures faults (interrupts + more)) before)

-- no call failed
abbrev pub NoneFailed : Option Source → Option Source → Type 0
NoneFailed before now = FailuresCounted before now 0 0

-- one call failed, or 2^64 - 1 calls were interrupted
abbrev pub OneFailed : Option Source → Option Source → Type 0
OneFailed before now = FailuresCounted before now 1 0 ⊎ FailuresCounted before now 0 (2 ^ 64 - 1)

-- the first n bytes that were given are those from an offset on
abbrev pub HoldsBytes : List ℕ → ℕ → ℕ → List ℕ → Type 0
HoldsBytes bytes offset n given = take n given ≡ take n (drop offset bytes)

-- some bytes were given: none at the end alone
pub record GivesBytes (bytes : List ℕ) (offset n : ℕ) (given : List ℕ) : Type 0 where
  pub bytes_held : HoldsBytes bytes offset n given
  pub some : n ≡ 0 → 0 < length given → length bytes ≤ offset

-- a whole block was given, or all that there is room for, or all up to the end
pub record GivesBlock (bytes : List ℕ) (offset n : ℕ) (given : List ℕ) : Type 0 where
  pub bytes_held : HoldsBytes bytes offset n given
  pub enough : (min (length given) 8192 ≤ n) ⊎ (length bytes ≤ offset + n)

-- the size, or a fault
abbrev pub AnswersSize : {E : Type 0} → Option Source → Option Source → Result ℕ E → Type 0
AnswersSize before now (Ok n) =
    (now ≡ before) × IfSome before (λ source. n ≡ length source.bytes)
AnswersSize before now (Err fault) = now ≡ option_map (with_failures 1 0) before

-- some bytes, or an error: an interrupted call or a fault
abbrev pub AnswersBytes : Option Source → Option Source → ℕ → List ℕ → Result ℕ Error → Type 0
AnswersBytes before now offset given (Ok n) =
    (now ≡ before) × IfSome before (λ source. GivesBytes source.bytes offset n given)
AnswersBytes before now offset given (Err error) =
    (error_kind error ≡ Interrupted → now ≡ option_map (with_failures 0 1) before)
    × (error_kind error ≢ Interrupted → now ≡ option_map (with_failures 1 0) before)

-- blocks: their pages, or a fault
abbrev pub GivesBlocks : {E : Type 0} → Option Source → Option Source → ℕ → List (List ℕ)
    → Result ℕ E → Type 0
GivesBlocks before now first pages (Ok n) =
    NoneFailed before now × IfSome before (λ source. ReadsBlocks source.bytes first n pages)
GivesBlocks before now first pages (Err fault) = OneFailed before now
