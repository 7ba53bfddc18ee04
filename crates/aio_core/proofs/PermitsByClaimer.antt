-- Who may make a step: the owner, or the claimer, which is the last claimer of the handle.
use Rattle.std.proofs.Common.{◌≡◌, ◌≢◌, ℕ, ◌+◌, ◌*◌, ◌<◌, ◌≤◌, ◌&&◌, ◌==◌, Bool, true, false, List}
use Rattle.std.proofs.Common.{◌∷◌, ◌++◌, get_or, sum_by, refl, sym, ap, ◌∙◌, subst, arith, nat_lt}
use Rattle.std.proofs.Common.{Some, slice_get}
use Rattle.std.proofs.lemmas.Bool.Decides.{nat_tests}
use mathlib.Core.Logic.{dite}
use native.Mathlib.Decide.{ℕ_discrete}
use Rattle.aio_word.specs.declared.Class.{Class}
use Rattle.aio_word.specs.declared.Config.{Config}
use Rattle.aio_word.specs.declared.Event.{Event}
use Rattle.aio_word.specs.declared.Kind.TheVariants as kind
use Rattle.aio_word.specs.declared.Known.{Known}
use Rattle.aio_word.specs.declared.Mark.{Mark}
use Rattle.aio_word.specs.declared.Step.{Step}
use Rattle.aio_word.specs.declared.Step.TheVariants as step
use Rattle.aio_word.specs.declared.Word.{Word}
use Rattle.aio_word.specs.Words.{word_place}
use Rattle.aio_word.specs.Events.{Machine, word_after, is_allowed, may_hand_out, has_claimed, owner}
use Rattle.aio_word.specs.Events.{count_at_rank, wait_ref}
use Rattle.aio_word.specs.Stands.{IsIn, known_with_marks, machine_parts}
use Rattle.aio_word.proofs.LivesOfHandle.{mark-once}
use Rattle.aio_word.proofs.ActorPosition.{actor-position}
use Rattle.aio_word.proofs.EventEffect.{get-at}
use Rattle.aio_word.proofs.OwnMarksBoundWord.{sole}
use Rattle.aio_word.proofs.ReplacedElement.{in-here}
use Rattle.aio_word.proofs.EventRows.{LawfulAndIdleAtLast, row-with-mark}
use Rattle.aio_core.specs.Allowed.{permits, list_permits, HasStep}
use Rattle.aio_core.specs.Claimers.{MachineInvariant}
use Rattle.aio_core.proofs.StepKeepsInvariant.{some-list}

and-true : (b : Bool) → b ≡ (b && true)
and-true true = refl
and-true false = refl

-- the steps that only the claimer makes
pub data IsClaimerStep : Step → Type 0 where
  io : (class : Class) → IsClaimerStep (step.Io class)
  shared : IsClaimerStep step.Shared

-- the steps that only the owner makes, and that ask for nothing else
pub data IsOwnerStep : Step → Type 0 where
  release : IsOwnerStep step.Release
  define : IsOwnerStep step.Define
  stage : IsOwnerStep step.Stage
  submit : IsOwnerStep step.Submit
  local : IsOwnerStep step.Local
  reclaim : IsOwnerStep step.Reclaim

pub is-owner-step : (s : Step) → s ≢ step.HandOut → s ≢ step.Claim
    → ((class : Class) → s ≢ step.Io class)
    → s ≢ step.Shared → IsOwnerStep s
is-owner-step step.HandOut a b d e = absurd (a refl)
is-owner-step step.Release a b d e = release
is-owner-step step.Define a b d e = define
is-owner-step step.Stage a b d e = stage
is-owner-step step.Submit a b d e = submit
is-owner-step step.Claim a b d e = absurd (b refl)
is-owner-step (step.Io class) a b d e = absurd (d class refl)
is-owner-step step.Shared a b d e = absurd (e refl)
is-owner-step step.Local a b d e = local
is-owner-step step.Reclaim a b d e = reclaim

permits-by : (c : Config) (m : Machine) (e : Event) (marks : List Mark) (b : Bool)
    → slice_get m.lists e.actor ≡ Some marks
    → b ≡ (is_allowed c e.actor marks e.handle e.generation e.step
    && may_hand_out c e.actor m.words e.step)
    → b ≡ permits c m e
permits-by c m e marks b at is = is ∙ sym (ap (list_permits c m e) at)

owner-is-allowed : (c : Config) (m : Machine) (e : Event) (marks : List Mark) (s : Step)
    → IsOwnerStep s
    → (e.actor == owner c e.handle) ≡
    (is_allowed c e.actor marks e.handle e.generation s && may_hand_out c e.actor m.words s)
owner-is-allowed c m e marks _ release = and-true (e.actor == owner c e.handle)
owner-is-allowed c m e marks _ define = and-true (e.actor == owner c e.handle)
owner-is-allowed c m e marks _ stage = and-true (e.actor == owner c e.handle)
owner-is-allowed c m e marks _ submit = and-true (e.actor == owner c e.handle)
owner-is-allowed c m e marks _ local = and-true (e.actor == owner c e.handle)
owner-is-allowed c m e marks _ reclaim = and-true (e.actor == owner c e.handle)

pub owner-permits : (c : Config) (m : Machine) (e : Event) (marks : List Mark)
    → slice_get m.lists e.actor ≡ Some marks → IsOwnerStep e.step
    → (e.actor == owner c e.handle) ≡ permits c m e
owner-permits c m e marks at s =
    permits-by c m e marks (e.actor == owner c e.handle) at (owner-is-allowed c m e marks e.step s)

claimer-is-allowed : (c : Config) (m : Machine) (e : Event) (marks : List Mark) (s : Step)
    → IsClaimerStep s
    → has_claimed e.handle e.generation marks ≡
    (is_allowed c e.actor marks e.handle e.generation s && may_hand_out c e.actor m.words s)
claimer-is-allowed c m e marks _ (io class) = and-true (has_claimed e.handle e.generation marks)
claimer-is-allowed c m e marks _ shared = and-true (has_claimed e.handle e.generation marks)

past : (w next : Word) (s : Step) → LawfulAndIdleAtLast w → IsClaimerStep s
    → word_after w s ≡ Some next → 3 < word_place w
past w next _ b (io class) row = let p =
    (row-with-mark w next (step.Io class) (kind.Io class) b row refl).place in omega arith
past w next _ b shared row = let p =
    (row-with-mark w next step.Shared kind.Shared b row refl).place in
    omega arith

positive : (n : ℕ) → nat_lt 0 n ≡ true → 0 < n
positive n e = grind (arith, nat_tests)

same-true : (a b : ℕ) → a ≡ b → (a == b) ≡ true
same-true a b e = grind (arith, nat_tests)

other-false : (a b : ℕ) → a ≢ b → (a == b) ≡ false
other-false a b n = grind (arith, nat_tests)

not-true : (b : Bool) → (b ≡ true → ⊥) → b ≡ false
not-true true n = absurd (n refl)
not-true false n = refl

module _ (c : Config) (m : Machine) (claimers : List ℕ) (k : MachineInvariant c m claimers) where
  parts : List Known
  parts = machine_parts c 0 m.lists

  -- two actors that have claimed one incarnation are one
  one-claimer : (a b h g : ℕ) (one other : List Mark) → slice_get m.lists a ≡ Some one
      → slice_get m.lists b ≡ Some other → has_claimed h g one ≡ true → has_claimed h g other ≡ true
      → a ≡ b
  one-claimer a b h g one other at bt ha hb =
      let f : Known → ℕ = λ p. count_at_rank h (8 * g + 3) p.marks in
      let pa = actor-position c 0 m.lists a one at in
      let pb = actor-position c 0 m.lists b other bt in
      let p : Known = known_with_marks c (0 + a) one in
      let q : Known = known_with_marks c (0 + b) other in
      let once : sum_by f (machine_parts c 0 m.lists) ≤ 1 =
      mark-once c m.words (machine_parts c 0 m.lists) k.lawful_machine.words_match_lists (wait_ref h g) kind.Claimed in
      let single : sum_by f (pa.front ++ p ∷ pa.back) ≤ 1 =
      subst (λ (z : List Known). sum_by f z ≤ 1) pa.now once in
      let there : IsIn q (pa.front ++ p ∷ pa.back) =
      subst (λ (z : List Known). IsIn q z) (sym pb.now ∙ pa.now) (in-here pb.front pb.back q) in
      let same : p ≡ q = sole f pa.front pa.back p q single (positive _ ha) (positive _ hb) there in
      let numbers : 0 + a ≡ 0 + b = ap (λ (z : Known). z.number) same in omega arith

  claimer-is : (e : Event) (w : Word) (marks : List Mark) → slice_get m.words e.handle ≡ Some w
      → w.generation ≡ e.generation → 3 < word_place w → slice_get m.lists e.actor ≡ Some marks
      → (e.actor == get_or claimers e.handle 0) ≡ has_claimed e.handle e.generation marks
  claimer-is e w marks here g lt at =
      let last : ℕ = get_or claimers e.handle 0 in
      let had = k.claimer e.handle w here lt in
      let claimed : has_claimed e.handle e.generation had.marks ≡ true =
      subst (λ (z : ℕ). has_claimed e.handle z had.marks ≡ true) g had.claimed in
      dite (ℕ_discrete e.actor last)
      (λ same. same-true e.actor last same
      ∙ sym (subst (λ (z : List Mark). has_claimed e.handle e.generation z ≡ true)
      (some-list had.marks marks (sym had.list
      ∙ (ap (slice_get m.lists) (sym same) ∙ at))) claimed))
      (λ other. other-false e.actor last other
      ∙ sym (not-true (has_claimed e.handle e.generation marks)
      (λ yes. other (one-claimer e.actor last e.handle e.generation marks had.marks at had.list
      yes claimed))))

  pub claimer-permits : (e : Event) (marks : List Mark) → HasStep m e
      → slice_get m.lists e.actor ≡ Some marks → IsClaimerStep e.step
      → (e.actor == get_or claimers e.handle 0) ≡ permits c m e
  claimer-permits e marks s at kind' =
      let x = k.lawful_machine.words_match_lists.each_handle e.handle s.w (get-at m.words e.handle s.w s.word) in
      let lt = past s.w s.next e.step record { lawful = x.lawful; last = x.last } kind' s.row in
      permits-by c m e marks (e.actor == get_or claimers e.handle 0) at
      (claimer-is e s.w marks s.word s.generation lt at
      ∙ claimer-is-allowed c m e marks e.step kind')
