-- What the tests' calls need.
use Rattle.std.specs.Prelude.{ℕ, ◌≡◌, List}
use Rattle.aio_word.specs.Stands.{IsIn}
use Rattle.method_ring.specs.declared.ring.Entry.{Entry}

-- each read that is pending asks for so many pages
abbrev pub AreReadInto : ℕ → List Entry → Type 0
AreReadInto pages entries = (e : Entry) → IsIn e entries → e.count ≡ pages
