-- What a runner saw to of the references that its seat popped.
use Rattle.std.proofs.Common.{ℕ, ◌+◌, List, [], ◌∷◌, ◌++◌, arith, length-append}
use Rattle.aio_word.specs.declared.Known.{Known}
use Rattle.aio_word.specs.declared.Mark.{Mark}
use Rattle.aio_word.specs.declared.WaitRef.{WaitRef}
use Rattle.aio_word.specs.Tokens.{AppendsMarks}
use Rattle.method_worker.specs.QueueViews.{SeatView}
use Rattle.method_worker.specs.SeatCalls.{SeatPops}
use Rattle.method_worker.proofs.SeatPopsInOrder.{reads-nothing, reads-then}
use Rattle.method_ring.specs.RingRunner.{PopsReferences}
use Rattle.method_ring.specs.ClaimAttempts.{ClaimsOrFindsUnclaimable}
use Rattle.method_ring.proofs.ClaimAttempts.{each-later, each-then, each-of-none, each-of-one}

pub pops-none : (s : SeatView) (p : Known) → PopsReferences 0 s s p p
pops-none s p = record {
  refs = [];
  words = [];
  at_most = omega arith;
  seat_popped = reads-nothing s;
  each = each-of-none p p;
}

pub pops-one : (n word : ℕ) (t : WaitRef) (ms ns : List Mark) (s s' s'' : SeatView) (p q r : Known)
    → PopsReferences n s s' p q → AppendsMarks p q ms → SeatPops (t ∷ []) (word ∷ []) s' s''
    → AppendsMarks q r ns
    → ClaimsOrFindsUnclaimable q r t → PopsReferences (n + 1) s s'' p r
pops-one n word t ms ns s s' s'' p q r k before reads now sees = record {
  refs = k.refs ++ t ∷ [];
  words = k.words ++ word ∷ [];
  at_most = let a = k.at_most in let b = length-append k.refs (t ∷ []) in omega arith;
  seat_popped = reads-then s s' s'' k.refs (t ∷ []) k.words (word ∷ []) k.seat_popped reads;
  each = each-then k.refs (t ∷ []) ms ns p q r k.each before now (each-of-one q r t sees);
}

pub pops-later : (n : ℕ) (ms : List Mark) (s s' : SeatView) (p q r : Known)
    → PopsReferences n s s' p q
    → AppendsMarks q r ms → PopsReferences n s s' p r
pops-later n ms s s' p q r k g = record {
  refs = k.refs;
  words = k.words;
  at_most = k.at_most;
  seat_popped = k.seat_popped;
  each = each-later k.refs ms p q r k.each g;
}
