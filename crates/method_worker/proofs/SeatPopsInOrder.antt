-- The lists of a seat that reads and pops.
use Rattle.std.proofs.Common.{◌≡◌, ℕ, List, [], ◌∷◌, ◌++◌, sym, ap, ◌∙◌, subst, append-nil}
use Rattle.std.proofs.Common.{append_assoc}
use Rattle.atomic_table.specs.Seated.{TableId}
use Rattle.aio_word.specs.declared.WaitRef.{WaitRef}
use Rattle.method_worker.specs.declared.log.Log.{Log}
use Rattle.method_worker.specs.declared.log.Notes.{Notes}
use Rattle.method_worker.specs.ClosingWord.{word_notes}
use Rattle.method_worker.specs.QueueRule.{queue_log}
use Rattle.method_worker.specs.QueueViews.{SeatView, seat_view}
use Rattle.method_worker.specs.SeatCalls.{SeatPops}

-- the seat s read a closing word, and popped these references
pub reads-once : (s : SeatView) (a b a' b' : TableId) (v v' : Log) (n n' : Notes) (word : ℕ)
    (refs : List WaitRef) → seat_view a b v n ≡ s
    → v' ≡ queue_log v.parts v.pushes (v.pops ++ refs)
    → n' ≡ word_notes n.closes (n.loads ++ word ∷ [])
    → SeatPops refs (word ∷ []) s (seat_view a' b' v' n')
reads-once s a b a' b' v v' n n' word refs is popped noted = subst
    (λ (z : SeatView). SeatPops refs (word ∷ []) z (seat_view a' b' v' n')) is (record {
      pushes = ap (λ (u : Log). u.pushes) popped;
      pops = ap (λ (u : Log). u.pops) popped;
      loads = ap (λ (m : Notes). m.loads) noted;
      closes = ap (λ (m : Notes). m.closes) noted;
    })

-- the same where it found no entry
pub read-none : (s : SeatView) (a b a' b' : TableId) (v v' : Log) (n n' : Notes) (word : ℕ)
    → seat_view a b v n ≡ s → v' ≡ v → n' ≡ word_notes n.closes (n.loads ++ word ∷ [])
    → SeatPops [] (word ∷ []) s (seat_view a' b' v' n')
read-none s a b a' b' v v' n n' word is same noted =
    reads-once s a b a' b' v v' n n' word [] is
    (same ∙ ap (λ (l : List WaitRef). queue_log v.parts v.pushes l) (sym (append-nil v.pops)))
    noted

pub reads-nothing : (s : SeatView) → SeatPops [] [] s s
reads-nothing s = record {
  pushes = λ _. s.pushes;
  pops = sym (append-nil s.pops);
  loads = sym (append-nil s.loads);
  closes = λ _. s.closes;
}

-- two calls that read, one after the other
pub reads-then : (s s' s'' : SeatView) (refs refs' : List WaitRef) (words words' : List ℕ)
    → SeatPops refs words s s' → SeatPops refs' words' s' s''
    → SeatPops (refs ++ refs') (words ++ words') s s''
reads-then s s' s'' refs refs' words words' a b = record {
  pushes = b.pushes ∙ a.pushes;
  pops = b.pops ∙ (ap (λ (l : List WaitRef). l ++ refs') a.pops ∙ append_assoc s.pops refs refs');
  loads = b.loads ∙ (ap (λ (l : List ℕ). l ++ words') a.loads ∙ append_assoc s.loads words words');
  closes = b.closes ∙ a.closes;
}
