-- The rule of the closing word.
use Rattle.std.specs.Prelude.{ℕ, List, ◌∷◌, ◌++◌, ◌≡◌, ◌%◌, ◌/◌, slice_index}
use mathlib.Core.Option.{some}
use lib.ListN.{get_elem?}
use Rattle.atomic_table.specs.Table.{State}
use Rattle.method_worker.specs.declared.log.Notes.{Notes}

-- the closing word, the bell, and a latch for each bit of the mask of idle workers
abbrev pub word_count : ℕ
word_count = 66

abbrev pub word_notes : List ℕ → List ℕ → Notes
word_notes closes loads = record { closes = closes; loads = loads }

-- the number stands in the list
abbrev pub ListHas : List ℕ → ℕ → Type 0
ListHas xs n = (before : List ℕ) × (after : List ℕ) × (xs ≡ before ++ n ∷ after)

-- some seat has closed the queue under that number of reopenings
abbrev pub SomeSeatClosed : List Notes → ℕ → Type 0
SomeSeatClosed views number = (port : ℕ) × (v : Notes) × (get_elem? views port ≡ some v)
    × ListHas v.closes number

-- the closing word is odd only where some seat has closed the queue under its number
abbrev pub ClosingWordIsLawful : {S : Type 0} → State S Notes → Type 0
ClosingWordIsLawful s = slice_index s.words 0 % 2 ≡ 1
    → SomeSeatClosed s.views (slice_index s.words 0 / 2)

-- beside this seat's notes there are such of the other seats that one seat has closed the queue
-- under the number of this closing word
abbrev pub ClosingWordHasCloser : Notes → ℕ → Type 0
ClosingWordHasCloser v word = (views : List Notes) × (port : ℕ) × (get_elem? views port ≡ some v)
    × SomeSeatClosed views (word / 2)
