-- What is pending in a ring.
use Rattle.std.specs.Prelude.{ℕ, ◌≡◌, List, Option, Some, None}
use Rattle.method_ring.specs.declared.ring.Entry.{Entry}
use Rattle.method_ring.specs.Numbered.{first_with_number, without_number}

abbrev pub entry : ℕ → ℕ → ℕ → ℕ → Entry
entry user relation first count =
    record { user = user; relation = relation; first = first; count = count }

abbrev pub entry_user : Entry → ℕ
entry_user e = e.user

-- the entry with this number
abbrev pub pending_entry : ℕ → List Entry → Option Entry
pending_entry user entries = first_with_number entry_user user entries

-- the others
abbrev pub without_entry : ℕ → List Entry → List Entry
without_entry user entries = without_number entry_user user entries

-- there is such an entry, and it reads as many pages as this
abbrev pub IsFilledBy : Option Entry → ℕ → Type 0
IsFilledBy None pages = ⊥
IsFilledBy (Some e) pages = pages ≡ e.count
