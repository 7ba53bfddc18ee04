-- What a method has heard.
use Rattle.std.specs.Prelude.{◌≡◌, List, ◌++◌, Option, Some, None}
use Rattle.aio_word.specs.declared.WaitRef.{WaitRef}

-- the references were added once at the end, where the list is told
abbrev pub AppendsHeard : Option (List WaitRef) → Option (List WaitRef) → List WaitRef → Type 0
AppendsHeard None after ts = after ≡ None
AppendsHeard (Some before) after ts = after ≡ Some (before ++ ts)
