-- What is wrong with the header of a tuple.
use Rattle.std.specs.Prelude.{ℕ, ◌+◌, ◌*◌, ◌-◌, ◌/◌, ◌%◌, ◌^◌, Bool, false, ◌&&◌, ◌||◌, not}
use Rattle.std.specs.Prelude.{◌==◌, nat_lt, nat_le, bit_and, List, ◌++◌, Option, Some, None}
use Rattle.std.specs.Prelude.{if◌then◌else◌}
use Rattle.heap_tuple.specs.declared.header.TupleHeader.{TupleHeader}
use Rattle.page_faults.specs.declared.options.CheckOptions.{CheckOptions}
use Rattle.page_faults.specs.declared.fault.Fault as fault
use Rattle.page_faults.specs.declared.fault.Fault.{Fault}
use Rattle.page_faults.specs.HeaderFaults.{fault_if}

-- all of these bits are set
abbrev pub has_bits : ℕ → ℕ → Bool
has_bits mask bits = bit_and mask bits == bits

-- `HEAP_HASNULL`, `HEAP_HASOID_OLD`
abbrev pub has_nulls : TupleHeader → Bool
has_nulls header = has_bits header.mask 0x0001

abbrev pub has_oid : TupleHeader → Bool
has_oid header = has_bits header.mask 0x0008

-- `HeapTupleHeaderXminFrozen`: `HEAP_XMIN_COMMITTED` and `HEAP_XMIN_INVALID` together
abbrev pub is_frozen : TupleHeader → Bool
is_frozen header = has_bits header.mask 0x0300

-- `HEAP_XMAX_IS_MULTI`
abbrev pub is_multi : TupleHeader → Bool
is_multi header = has_bits header.mask 0x1000

-- with `HEAP_XMAX_COMMITTED` besides
abbrev pub is_committed_multi : TupleHeader → Bool
is_committed_multi header = has_bits header.mask 0x1400

-- where the data is to begin: behind the fixed fields, a bitmap of nulls with a bit for each
-- attribute, and an object identifier, aligned (`MAXALIGN`)
abbrev pub expected_hoff : TupleHeader → ℕ
expected_hoff header =
    (23 + (if has_nulls header then (header.attrs + 7) / 8 else 0)
    + (if has_oid header then 4 else 0) + 7) / 8 * 8

-- it begins elsewhere, or behind the item's end
abbrev pub is_wrong_hoff : ℕ → TupleHeader → Bool
is_wrong_hoff length header =
    not (header.hoff == expected_hoff header) || nat_lt length header.hoff

-- where the next transaction is known: this one is a normal one (`TransactionIdIsNormal`), and that
-- or a later one (`TransactionIdPrecedes`: the difference as a signed number is not negative)
abbrev pub has_not_begun : Option ℕ → ℕ → Bool
has_not_begun None xid = false
has_not_begun (Some next) xid =
    nat_le 3 xid && nat_lt ((xid + 2 ^ 32 - next) % 2 ^ 32) (2 ^ 31)

-- of the tuple of an item with this number and length
unfoldable pub tuple_faults : CheckOptions → ℕ → ℕ → TupleHeader → List Fault
tuple_faults options number length header =
    fault_if (is_wrong_hoff length header)
    (fault.TheVariants.Hoff number header.hoff (expected_hoff header))
    ++ fault_if (is_committed_multi header) (fault.TheVariants.Mask number header.mask)
    ++ fault_if (not (is_frozen header) && has_not_begun options.next_xid header.xmin)
    (fault.TheVariants.Xmin number header.xmin)
    ++ fault_if (not (is_multi header) && has_not_begun options.next_xid header.xmax)
    (fault.TheVariants.Xmax number header.xmax)
