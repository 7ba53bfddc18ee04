-- Which of its handles an actor may hand out, by its own marks, and why it hands out none.
use Rattle.std.specs.Prelude.{◌≡◌, ℕ, ◌+◌, ◌<◌, ◌≤◌, ◌⊎◌, Some, None}
use Rattle.aio_word.specs.declared.Config.{Config}
use Rattle.aio_word.specs.declared.WaitRef.{WaitRef}
use Rattle.aio_word.specs.declared.Known.{Known}
use Rattle.aio_word.specs.declared.Kind.TheVariants as kind
use Rattle.aio_word.specs.Words.{last_generation}
use Rattle.aio_word.specs.Events.{handle_count, owner, mark_count, wait_ref}
use Rattle.aio_handle.specs.declared.actor.AcquireRefusal.{AcquireRefusal}
use Rattle.aio_handle.specs.declared.actor.AcquireRefusal.TheVariants as refusal
use Rattle.aio_handle.specs.CallEvents.{generation_of}

-- by the actor's marks this is the next incarnation of one of its own handles, not defined, and
-- below the last generation
pub record IsFree (c : Config) (p : Known) (t : WaitRef) : Type 0 where
  pub own : p.number ≡ owner c t.handle
  pub generation : t.generation ≡ generation_of c p t.handle
  pub undefined : mark_count t kind.Defined p.marks ≡ 0
  pub below : t.generation < last_generation

-- the actor has handed out a handle, which it has neither defined nor released
abbrev pub HasOneOut : Known → Type 0
HasOneOut p = (t : WaitRef) × (p.out ≡ Some t)

-- by the actor's marks, this handle of its own is in the middle of a life: it is defined under its
-- generation, and not reclaimed
abbrev pub IsInUse : Config → Known → ℕ → Type 0
IsInUse c p handle =
    (0 < mark_count (wait_ref handle (generation_of c p handle)) kind.Defined p.marks)
    × (mark_count (wait_ref handle (generation_of c p handle)) kind.Reclaimed p.marks ≡ 0)

-- each handle of the actor is in the middle of a life, or stands at the last generation
abbrev pub HasNoneFree : Config → Known → Type 0
HasNoneFree c p = (handle : ℕ) → handle < handle_count c → p.number ≡ owner c handle
    → (last_generation ≤ generation_of c p handle) ⊎ IsInUse c p handle

-- why no handle is given
abbrev pub IsCause : Config → Known → AcquireRefusal → Type 0
IsCause c p refusal.OneIsOut = HasOneOut p
IsCause c p refusal.NoneFree = (p.out ≡ None) × HasNoneFree c p

-- how many more lives each handle of the actor can have: for a backend the last generation less
-- the greatest of its handles
pub record IsRoom (c : Config) (p : Known) (room : ℕ) : Type 0 where
  pub of_runner : c.backends ≤ p.number → room ≡ 0
  pub for_each : (handle : ℕ) → handle < handle_count c → p.number ≡ owner c handle
      → generation_of c p handle + room ≤ last_generation
  pub exact : p.number < c.backends → (handle : ℕ) × (handle < handle_count c)
      × (p.number ≡ owner c handle) × (generation_of c p handle + room ≡ last_generation)
