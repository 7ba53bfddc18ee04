-- What an actor takes up that claims an I/O and completes it, or finds it claimed.
use Rattle.std.proofs.Common.{◌<◌, [], ◌∷◌, arith}
use Rattle.aio_word.specs.declared.Class.{Class}
use Rattle.aio_word.specs.declared.Kind.TheVariants as kind
use Rattle.aio_word.specs.declared.Known.{Known}
use Rattle.aio_word.specs.declared.WaitRef.{WaitRef}
use Rattle.aio_word.specs.declared.Word.{Word}
use Rattle.aio_word.specs.Tokens.{AppendsMarks, make_mark}
use Rattle.aio_handle.specs.Execution.{ExecutesAll, last_count}
use Rattle.aio_handle.specs.CallEvents.{WordLoaded}
use Rattle.aio_handle.proofs.ListsGrow.{look-on, claims-completed-none, claims-completed-one}

-- counts that stand at their last value need no marks
pub completed-takes-up : (t : WaitRef) (class : Class) (p q : Known)
    → AppendsMarks p q (make_mark t kind.Claimed ∷ make_mark t (kind.Io class)
    ∷ make_mark t kind.Shared ∷ [])
    → ExecutesAll [] p q 0 last_count 0 last_count
completed-takes-up t class p q grows = record {
  more = make_mark t kind.Claimed ∷ make_mark t (kind.Io class) ∷ make_mark t kind.Shared ∷ [];
  grows = grows;
  claims_completed = claims-completed-one class t.handle t.generation;
  counters_follow = record {
    read_each = λ below. absurd (omega (arith, below));
    fault_each = λ below. absurd (omega (arith, below));
  };
}

pub looked-takes-up : (h : _) (w : Word) (p q : Known) → WordLoaded h w p q
    → ExecutesAll [] p q 0 last_count 0 last_count
looked-takes-up h w p q word_load = record {
  more = [];
  grows = look-on h w p q word_load;
  claims_completed = claims-completed-none;
  counters_follow = record {
    read_each = λ below. absurd (omega (arith, below));
    fault_each = λ below. absurd (omega (arith, below));
  };
}
