-- Results of I/O as numbers of 64 bits.
use Rattle.std.specs.Prelude.{◌≡◌, ℕ, Option, Some, None, ◌+◌, ◌*◌, ◌/◌, ◌%◌, ◌^◌, ◌<◌, FitsSigned}
use Rattle.std.specs.Int.{w32, cast_unsigned}
use Rattle.aio_result.specs.declared.Status.{Status}
use Rattle.aio_result.specs.declared.Status.TheVariants.{Unknown, Good, Partial, Warning, Error}
use Rattle.aio_result.specs.declared.AioResult.{AioResult}

-- the number of a status, as PgAioResultStatus of aio_types.h counts them
abbrev pub status_number : Status → ℕ
status_number Unknown = 0
status_number Good = 1
status_number Partial = 2
status_number Warning = 3
status_number Error = 4

-- the parts fit the bits that PgAioResult of aio_types.h gives them: 6, 23 and a signed 32
pub record IsInRange (r : AioResult) : Type 0 where
  pub id : r.id < 64
  pub error : r.error < 2 ^ 23
  pub result : FitsSigned w32 r.result

-- id in bits 0 to 5, status in bits 6 to 8, error in bits 9 to 31, and the result above them in
-- two's complement (the widths are those of PgAioResult, the order is this project's own)
abbrev pub encoded_result : AioResult → ℕ
encoded_result r = r.id + 64 * status_number r.status + 512 * r.error
    + 2 ^ 32 * cast_unsigned w32 r.result

-- what a number has in the bits of the status
abbrev pub status_bits : ℕ → ℕ
status_bits number = number / 64 % 8

-- the status that these bits are, or none where they exceed the last one's
abbrev pub BitsAreStatus : ℕ → Option Status → Type 0
BitsAreStatus bits None = 4 < bits
BitsAreStatus bits (Some status) = status_number status ≡ bits
