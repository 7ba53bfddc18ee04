-- A script: what of a shelf in memory fails, and which reads answer short. Opens, lengths and
-- reads are counted from 1.
use Rattle.std.specs.Prelude.{ℕ, ◌-◌, List, Bool, ◌&&◌, ◌==◌, nat_lt, Option, Some, None}
use Rattle.std.specs.Prelude.{option_and_then, find, slice_get, min}
use Rattle.std.specs.Option.{option_map}
use Rattle.std.specs.List.{list_any, list_all}
use Rattle.fault_injection.specs.declared.script.Script.{Script}

-- open k of the shelf fails
abbrev pub fails_open : Script → ℕ → Bool
fails_open script k = list_any (λ listed. listed == k) script.fail_opens.items

-- a call with this number of this disk is listed
abbrev pub is_listed : List (ℕ × ℕ) → ℕ → ℕ → Bool
is_listed calls disk k = list_any (λ call. call.0 == disk && call.1 == k) calls

-- length call k of the disk fails
abbrev pub fails_length : Script → ℕ → ℕ → Bool
fails_length script disk k = is_listed script.fail_lengths.items disk k

-- read k of the disk fails
abbrev pub fails_read : Script → ℕ → ℕ → Bool
fails_read script disk k = is_listed script.fail_reads.items disk k

-- how many pages the reads of the disk answer at most, where there is a list of it: the first
-- list of a disk counts
abbrev pub shorts_of : Script → ℕ → Option (List ℕ)
shorts_of script disk =
    option_map (λ shorts. shorts.1.items) (find (λ shorts. shorts.0 == disk) script.shorts.items)

-- how many pages read k of the disk answers at most, where the disk's list has a k-th number
abbrev pub short_answer : Script → ℕ → ℕ → Option ℕ
short_answer script disk k =
    option_and_then (λ shorts. slice_get shorts (k - 1)) (shorts_of script disk)

-- each number is at least 1
abbrev pub are_positive : List ℕ → Bool
are_positive numbers = list_all (λ n. nat_lt 0 n) numbers

-- each short answer is at least 1
abbrev pub has_positive_shorts : Script → Bool
has_positive_shorts script = list_all (λ shorts. are_positive shorts.1.items) script.shorts.items

-- the number, or the other where that is given and less
abbrev pub capped_length : Option ℕ → ℕ → ℕ
capped_length None n = n
capped_length (Some most) n = min most n
