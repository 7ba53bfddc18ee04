-- What lies with an actor: its list, and the slots of the handles that are out with it.
use Rattle.std.specs.Prelude.{◌≡◌, ℕ, ◌+◌, ◌*◌, ◌<◌, ◌⊎◌, List, [], ◌∷◌, Option, Some, None}
use Rattle.atomic_table.specs.Table.{Me}
use Rattle.aio_word.specs.declared.Config.{Config}
use Rattle.aio_word.specs.declared.WaitRef.{WaitRef}
use Rattle.aio_word.specs.declared.Known.{Known}
use Rattle.aio_word.specs.Events.{count_at_rank, wait_ref}
use Rattle.aio_word.specs.Stands.{IsIn, seen_rank}
use Rattle.aio_word.specs.Tokens.{MarksOnceAndSeen}

-- the slot of the handle is out with the actor from one mark until another
pub record IsOutBetween (p : Known) (t : WaitRef) (from to : ℕ) : Type 0 where
  pub since : 0 < count_at_rank t.handle (8 * t.generation + from) p.marks
  pub until : count_at_rank t.handle (8 * t.generation + to) p.marks ≡ 0

-- from which mark until which one the slot is out: with the owner up to Submitted, with the
-- claimer up to Shared, and with the owner up to Reclaimed
abbrev pub out_spans : List (ℕ × ℕ)
out_spans = (0, 2) ∷ (1, 2) ∷ (3, 5) ∷ (4, 5) ∷ (6, 7) ∷ []

-- the slot of the handle is out with the actor
abbrev pub SlotIsOut : Known → ℕ → Type 0
SlotIsOut p h = (g : ℕ)
    × ((p.out ≡ Some (wait_ref h g))
    ⊎ ((span : ℕ × ℕ) × IsIn span out_spans × IsOutBetween p (wait_ref h g) span.0 span.1))

abbrev pub no_actor : Known
no_actor = record {
  config = record { backends = 0; per_backend = 0; runners = 0; start = 0 };
  number = 0;
  marks = [];
  out = None;
  seen = [];
  looks = [];
  aims = [];
}

abbrev pub seat_known : List Known → Known
seat_known [] = no_actor
seat_known (p ∷ ps) = p

abbrev pub rest_of : List Known → List Known
rest_of [] = []
rest_of (p ∷ ps) = ps

abbrev pub front_of : List Known → List Known
front_of [] = []
front_of (p ∷ ps) = p ∷ []

-- an actor's seat: it carries the actor's list alone, and an empty slot for each handle that its
-- list says is out
pub record IsSeated {R : Type 0} (c : Config) (n : ℕ)
    (me : Me (Option R) (List Known)) : Type 0 where
  pub one : me.0 ≡ seat_known me.0 ∷ []
  pub number : (seat_known me.0).number ≡ n
  pub config : (seat_known me.0).config ≡ c
  pub marks_once : MarksOnceAndSeen (seen_rank (seat_known me.0)) (seat_known me.0).marks
  pub out_slots : (h : ℕ) → SlotIsOut (seat_known me.0) h → IsIn (h, None) me.1
  pub empty : (h : ℕ) (x : Option R) → IsIn (h, x) me.1 → x ≡ None
