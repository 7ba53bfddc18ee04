-- The next submission of a batch, from what its calls say.
use Rattle.std.proofs.Common.{◌≡◌, ℕ, List, [], ◌∷◌, sym, subst}
use Rattle.aio_word.specs.declared.Step.TheVariants as event
use Rattle.aio_word.specs.declared.Known.{Known}
use Rattle.aio_word.specs.declared.WaitRef.{WaitRef}
use Rattle.aio_word.specs.Stands.{IsIn}
use Rattle.aio_word.specs.Tokens.{IsInFlight}
use Rattle.aio_handle.specs.LifeWords.{staged_word, unclaimed_word}
use Rattle.aio_handle.specs.CallEvents.{EventMade}
use Rattle.aio_handle.specs.Execution.{ExecutesAll}
use Rattle.aio_batch.specs.NextSubmission.{IsNextSubmission}
use Rattle.aio_handle.proofs.ExecutionsCompose.{executes_nothing, executes_then}
use Rattle.aio_handle.proofs.ListsGrow.{appends-none}
use Rattle.aio_handle.proofs.TokensStay.{unchanged-by-execution}

-- it is submitted, and not begun
pub next-submitted : {R : Type 0} (aim_in : R → List ℕ) (before after : List (WaitRef × R))
    (token : WaitRef × R) (t : WaitRef) (p q : Known) (reads faults : ℕ) → before ≡ token ∷ after
    → EventMade event.Submit token.0.handle (staged_word token.0.generation)
    (unclaimed_word token.0.generation) (aim_in token.1) p q
    → (t ≡ token.0) × IsInFlight q t × IsIn (t, aim_in token.1) q.aims
    → IsNextSubmission aim_in before after t p q reads reads faults faults
next-submitted aim_in before after token t p q reads faults first event_made tk = record {
  token = token;
  first = first;
  reference = tk.0;
  between = q;
  event_made = subst (λ (z : WaitRef). EventMade event.Submit z.handle (staged_word z.generation)
      (unclaimed_word z.generation) (aim_in token.1) p q) (sym tk.0) event_made;
  begun = executes_nothing q q reads faults (appends-none q);
  in_flight = tk.1;
  aim = tk.2;
}

-- and then it is begun
pub next-begun : {R : Type 0} (aim_in : R → List ℕ) (before after : List (WaitRef × R))
    (t : WaitRef) (p q r : Known) (a b c d : ℕ)
    → IsNextSubmission aim_in before after t p q a a c c → ExecutesAll [] q r a b c d
    → IsNextSubmission aim_in before after t p r a b c d
next-begun aim_in before after t p q r a b c d n begun =
    let kept = unchanged-by-execution t [] q r a b c d begun in record {
      token = n.token;
      first = n.first;
      reference = n.reference;
      between = n.between;
      event_made = n.event_made;
      begun = executes_then n.between q r a a b c c d n.begun begun;
      in_flight = kept.in_flight n.in_flight;
      aim = kept.aims (aim_in n.token.1) n.aim;
    }
