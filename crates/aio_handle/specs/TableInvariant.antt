-- The rule of the table.
use Rattle.std.specs.Prelude.{◌≡◌, ℕ, zero, suc, ◌+◌, ◌*◌, ◌<◌, ◌↔◌, Bool, false, List}
use Rattle.std.specs.Prelude.{[], ◌∷◌, ◌++◌, map, length, sum_by}
use Rattle.std.specs.Prelude.{◌==◌, replicate, Option, Some, None}
use mathlib.Core.Option.{some, none}
use mathlib.Core.Option as maybe
use lib.ListN.{get_elem?}
use Rattle.atomic_table.specs.Table.{State}
use Rattle.aio_word.specs.declared.Config.{Config}
use Rattle.aio_word.specs.declared.State.{State as WordState}
use Rattle.aio_word.specs.declared.State.TheVariants.{Idle, HandedOut, Submitted, CompletedShared}
use Rattle.aio_word.specs.declared.Class.{Class}
use Rattle.aio_word.specs.declared.Class.TheVariants.{Unended}
use Rattle.aio_word.specs.declared.Word.{Word}
use Rattle.aio_word.specs.declared.Known.{Known}
use Rattle.aio_word.specs.Words.{packed_word, word_place, word_rank}
use Rattle.aio_word.specs.Events.{Machine, IsReachable, handle_count, actor_count, owner}
use Rattle.aio_word.specs.Events.{mark_count, wait_ref, lives_ended}
use Rattle.aio_word.specs.Stands.{IsIn, one_if, MachineHasParts}
use Rattle.aio_word.specs.StandsByRank.{StandsByRank}
use Rattle.aio_word.specs.declared.WaitRef.{WaitRef}
use Rattle.aio_word.specs.declared.Kind.TheVariants as kind
use Rattle.aio_handle.specs.declared.record.Label.{Label}

abbrev pub lists_joined : {A : Type 0} → List (List A) → List A
lists_joined [] = []
lists_joined (v ∷ vs) = v ++ lists_joined vs

-- what an actor knows at the start
abbrev pub initial_known : Config → ℕ → Known
initial_known c n =
    record {
      config = c;
      number = n;
      marks = [];
      out = None;
      seen =
          replicate (handle_count c) (8 * c.start);
      looks = [];
      aims = [];
    }

abbrev pub initial_known_from : Config → ℕ → ℕ → List Known
initial_known_from c n zero = []
initial_known_from c n (suc k) = initial_known c n ∷ initial_known_from c (n + 1) k

abbrev pub initial_lists : Config → List Known
initial_lists c = initial_known_from c 0 (actor_count c)

-- what one actor knows of a handle under this word
pub record KnownMatchesWord (c : Config) (h : ℕ) (w : Word) (aim : List ℕ)
    (p : Known) : Type 0 where
  pub out : p.number ≡ owner c h → (g : ℕ) → ((w.state ≡ HandedOut) × (w.generation ≡ g))
      ↔ (p.out ≡ Some (wait_ref h g))
  -- the owner's Reclaimed marks tell the generation
  pub own_generation : p.number ≡ owner c h → w.generation ≡ c.start + lives_ended h p.marks
  -- an aim is noted from Submit on, and that of the word's generation is the incarnation's
  pub aims : (e : WaitRef × List ℕ) → IsIn e p.aims → e.0.handle ≡ h
      → (8 * e.0.generation + 2 < word_rank w) × (e.0.generation ≡ w.generation → e.1 ≡ aim)
  pub submitted : p.number ≡ owner c h → 2 < word_place w
      → IsIn (wait_ref h w.generation, aim) p.aims
  pub held : word_place w < 6 → 0 < mark_count (wait_ref h w.generation) kind.Claimed p.marks
      → IsIn (wait_ref h w.generation, aim) p.aims

-- an actor's notes have a place for each handle, and what it has out is its own
pub record IsLawfulActor (c : Config) (p : Known) : Type 0 where
  pub config : p.config ≡ c
  pub number : p.number < actor_count c
  pub seen : length p.seen ≡ handle_count c
  pub out : (t : WaitRef) → p.out ≡ Some t → (t.handle < handle_count c)
      × (p.number ≡ owner c t.handle)

module _ {R : Type 0} (label : R → Label) (aim_in : R → List ℕ) (Fits : R → Type 0) where
  -- a record for the incarnation of the word
  pub record IsRecordFor (h : ℕ) (w : Word) (aim : List ℕ) (ended : Class) (r : R) : Type 0 where
    pub label_is : label r ≡
        record { handle = h; generation = w.generation; ended = ended; settled = false }
    pub aimed : aim_in r ≡ aim
    pub fits : Fits r

  abbrev pub SlotHolds : ℕ → Word → List ℕ → Class → maybe.Option (Option R) → Type 0
  SlotHolds h w aim ended home = (r : R) × (home ≡ some (Some r)) × IsRecordFor h w aim ended r

  -- what the slot of a handle holds under this word: it is out where nothing is said to be there
  abbrev pub SlotInState : ℕ → Word → List ℕ → maybe.Option (Option R) → WordState → Bool → Type 0
  SlotInState h w aim home Idle claimed = home ≡ some None
  SlotInState h w aim home Submitted false = SlotHolds h w aim Unended home
  SlotInState h w aim home CompletedShared claimed = SlotHolds h w aim w.class home
  SlotInState h w aim home _ claimed = home ≡ none

  abbrev pub SlotMatchesWord : ℕ → Word → List ℕ → maybe.Option (Option R) → Type 0
  SlotMatchesWord h w aim home = SlotInState h w aim home w.state w.claimed

  -- the slot of a handle, and what the actors know of the handle
  pub record HandleInvariant (c : Config) (parts : List Known) (h : ℕ) (w : Word)
      (home : maybe.Option (Option R)) : Type 0 where
    pub aim : List ℕ
    pub slot : SlotMatchesWord h w aim home
    pub known : (p : Known) → IsIn p parts → KnownMatchesWord c h w aim p

  pub record TableInvariant (c : Config) (s : State (Option R) (List Known)) : Type 0 where
    pub ws : List Word
    pub packed_words : s.words ≡ map packed_word ws
    pub homes : length s.homes ≡ handle_count c
    pub words_match_lists : StandsByRank c ws (lists_joined s.views)
    pub handle : (h : ℕ) (w : Word) (home : maybe.Option (Option R)) → get_elem? ws h ≡ some w
        → get_elem? s.homes h ≡ some home → HandleInvariant c (lists_joined s.views) h w home
    pub actor : (p : Known) → IsIn p (lists_joined s.views) → IsLawfulActor c p
    pub all : length (lists_joined s.views) ≡ actor_count c
    pub present : (n : ℕ) → n < actor_count c
        → 0 < sum_by (λ (p : Known). one_if (p.number == n)) (lists_joined s.views)
    -- the words and the lists are a state of the machine, which comes from the first one by its
    -- events
    pub machine : Machine
    pub reached : IsReachable c machine
    pub is : MachineHasParts c machine ws (lists_joined s.views)
