-- The numbers that words stand for.
use Rattle.std.specs.Prelude.{ℕ, Option, Some, None, Bool, ◌&&◌, ◌==◌, length, nat_le, if◌then◌else◌}
use Rattle.std.specs.List.{after_first, before_first, list_all}
use Rattle.std.specs.Option.{option_map}
use Rattle.std.specs.Char.{is_ascii_digit, is_digit}
use Rattle.std.specs.Str.Parse.{digits_value}
use Rattle.clap.specs.Words.{Text}
use Rattle.page_faults.specs.declared.options.Lsn.{Lsn}

-- at least one, and at most so many
abbrev pub is_count : ℕ → ℕ → Bool
is_count n most = nat_le 1 n && nat_le n most

-- 1 to so many decimal digits
abbrev pub is_number : ℕ → Text → Bool
is_number digits word = is_count (length word) digits && list_all is_ascii_digit word

-- the number of a text; None where it is none of so many digits, or out of the range
abbrev pub number_within : ℕ → ℕ → ℕ → Text → Option ℕ
number_within digits least most word =
    if is_number digits word
    && (nat_le least (digits_value 10 word) && nat_le (digits_value 10 word) most)
    then Some (digits_value 10 word) else None

-- the number of an option, of 1 to 7 digits, or its default where the option is not given
abbrev pub number_or : ℕ → ℕ → ℕ → Option Text → Option ℕ
number_or least most default None = Some default
number_or least most default (Some word) = number_within 7 least most word

-- the number of an option that has no default
abbrev pub number_if_given : ℕ → ℕ → ℕ → Option Text → Option (Option ℕ)
number_if_given digits least most None = Some None
number_if_given digits least most (Some word) =
    option_map Some (number_within digits least most word)

-- 1 to 8 hexadecimal digits
abbrev pub is_hexadecimal : Text → Bool
is_hexadecimal word = is_count (length word) 8 && list_all (λ c. is_digit c 16) word

abbrev pub hexadecimal_of : Text → Option ℕ
hexadecimal_of word = if is_hexadecimal word then Some (digits_value 16 word) else None

abbrev pub lsn_with : Option ℕ → Option ℕ → Option Lsn
lsn_with (Some high) (Some low) = Some (record { high = high; low = low })
lsn_with _ _ = None

-- two hexadecimal numbers with a slash between them
abbrev pub lsn_of : Text → Option Lsn
lsn_of word = lsn_with (hexadecimal_of (before_first (λ c. c == 47) word))
    (hexadecimal_of (after_first (λ c. c == 47) word))

abbrev pub lsn_if_given : Option Text → Option (Option Lsn)
lsn_if_given None = Some None
lsn_if_given (Some word) = option_map Some (lsn_of word)
