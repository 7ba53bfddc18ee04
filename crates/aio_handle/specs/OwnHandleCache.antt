-- What an actor remembers of its own list, so that its calls need not read a word for it.
use Rattle.std.specs.Prelude.{◌≡◌, ◌↔◌, ℕ, ◌+◌, ◌*◌, ◌^◌, ◌-◌, ◌<◌}
use Rattle.std.specs.Prelude.{◌≤◌, min, Bool, true, nat_lt, List, length}
use Rattle.aio_word.specs.declared.Config.{Config}
use Rattle.aio_word.specs.declared.Known.{Known}
use Rattle.aio_word.specs.declared.Kind.TheVariants as kind
use Rattle.aio_word.specs.Words.{last_generation}
use Rattle.aio_word.specs.Events.{wait_ref, mark_count, owner}
use Rattle.aio_word.specs.Tokens.{claimed_mark_count}
use Rattle.aio_handle.specs.declared.own_handles.OwnHandle.{OwnHandle}
use Rattle.aio_handle.specs.CallEvents.{generation_of}
use Rattle.aio_handle.specs.FreeHandles.{HasOneOut}
use Rattle.aio_handle.specs.OwnHandles.{own_at}

-- by the actor's marks, the generation of one of its own handles, and whether that is defined
abbrev pub own_handle : Config → Known → ℕ → OwnHandle
own_handle c p handle = record {
  generation = generation_of c p handle;
  is_defined = nat_lt 0
      (mark_count (wait_ref handle (generation_of c p handle)) kind.Defined p.marks);
}

-- the handle at this place among those of the actor
abbrev pub handle_at : Config → Known → ℕ → ℕ
handle_at c p place = p.number * c.per_backend + place

-- the actor's notes on its own handles, in the order of their numbers. A runner has none
pub record MatchesOwnHandles (c : Config) (own : List OwnHandle) (p : Known) : Type 0 where
  pub of_backend : p.number < c.backends → length own ≡ c.per_backend
  pub of_runner : c.backends ≤ p.number → length own ≡ 0
  pub each : (place : ℕ) → place < length own
      → own_at own place ≡ own_handle c p (handle_at c p place)
  pub bound : (place : ℕ) → place < length own → (own_at own place).generation ≤ last_generation

-- no incarnation of a handle of its own is reclaimed that is not below the handle's generation
abbrev pub OnlyPastReclaimed : Config → Known → Type 0
OnlyPastReclaimed c p = (handle g : ℕ) → p.number ≡ owner c handle → generation_of c p handle ≤ g
    → mark_count (wait_ref handle g) kind.Reclaimed p.marks ≡ 0

-- the notes on its own handles, whether one of them is handed out, and how often it has claimed
pub record CachesOwnHandles (c : Config) (own : List OwnHandle) (turn : ℕ) (is_out : Bool)
    (claims : ℕ)
    (p : Known) : Type 0 where
  pub own_handles_match : MatchesOwnHandles c own p
  pub only_past_reclaimed : OnlyPastReclaimed c p
  pub turn_in_range : turn ≤ length own
  pub out : (is_out ≡ true) ↔ HasOneOut p
  pub counted : claims ≡ min (claimed_mark_count p.marks) (2 ^ 128 - 1)
