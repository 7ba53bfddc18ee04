-- The rows of the table of events: what each step does to a word. One row has the state and the
-- claim before, and the word after; what follows of it holds for every step.
use Rattle.std.proofs.Common.{◌≡◌, ◌≢◌, ℕ, ◌+◌, ◌*◌, ◌^◌, ◌<◌, ◌≤◌, Bool, true, false, not, ◌&&◌}
use Rattle.std.proofs.Common.{◌==◌, refl, sym, ◌∙◌, subst, arith, nat_lt, Option, Some, None}
use Rattle.std.proofs.lemmas.Bool.Decides.{nat_tests}
use Rattle.aio_word.specs.declared.Class.{Class}
use Rattle.aio_word.specs.declared.Class.TheVariants.{Unended}
use Rattle.aio_word.specs.declared.State.{State}
use Rattle.aio_word.specs.declared.State.TheVariants.{Idle, HandedOut, Defined, Staged, Submitted}
use Rattle.aio_word.specs.declared.State.TheVariants.{CompletedIo, CompletedShared, CompletedLocal}
use Rattle.aio_word.specs.declared.Word.{Word}
use Rattle.aio_word.specs.declared.Step.{Step}
use Rattle.aio_word.specs.declared.Step.TheVariants as step
use Rattle.aio_word.specs.declared.Kind.{Kind}
use Rattle.aio_word.specs.declared.Kind.TheVariants as kind
use Rattle.aio_word.specs.Words.{IsLawful, ClaimFits, ClassFits, number_of_class, last_generation}
use Rattle.aio_word.specs.Words.{word_place, word_rank}
use Rattle.aio_word.specs.Events.{kind_place, make_word, some_if, state_is, word_after}
use Rattle.aio_word.specs.Events.{kind_of_step}
use Rattle.aio_word.proofs.RowConditions.{same-state, some_if-true, and-both, not-true}

-- a step that leaves the mark k
pub record AddsMark (w w' : Word) (k : Kind) : Type 0 where
  pub place : kind_place k ≡ word_place w
  pub rank : word_rank w' ≡ word_rank w + 1
  pub lawful : IsLawful w'
  pub last : w'.generation ≡ last_generation → w'.state ≡ Idle
  pub same_class : w'.generation ≡ w.generation → 4 < word_place w → w.class ≡ w'.class
  pub io_class : (class : Class) → k ≡ kind.Io class → class ≡ w'.class
  pub local_class : (class : Class) → k ≡ kind.Local class → class ≡ w.class

-- a step that leaves none
pub record AddsNoMark (w w' : Word) : Type 0 where
  pub rank : word_rank w' ≡ word_rank w
  pub generation : w'.generation ≡ w.generation
  pub class : w'.class ≡ w.class
  pub lawful : IsLawful w'
  pub last : w'.generation ≡ last_generation → w'.state ≡ Idle

-- what a step does to the word, by the mark that it leaves, or by none
abbrev pub WordChange : Word → Word → Option Kind → Type 0
WordChange w w' None = AddsNoMark w w'
WordChange w w' (Some k) = AddsMark w w' k

-- a word below the last generation, or Idle at it
pub record LawfulAndIdleAtLast (w : Word) : Type 0 where
  pub lawful : IsLawful w
  pub last : w.generation ≡ last_generation → w.state ≡ Idle

-- the state and the claim before the step
abbrev state_before : Step → State
state_before step.HandOut = Idle
state_before step.Release = HandedOut
state_before step.Define = HandedOut
state_before step.Stage = Defined
state_before step.Submit = Staged
state_before step.Claim = Submitted
state_before (step.Io class) = Submitted
state_before step.Shared = CompletedIo
state_before step.Local = CompletedShared
state_before step.Reclaim = CompletedLocal

abbrev claim_before : Step → Bool
claim_before (step.Io class) = true
claim_before step.Shared = true
claim_before _ = false

abbrev pub word_before : Step → Class → ℕ → Word
word_before e class g = make_word (state_before e) (claim_before e) class g

-- the word after the step, by class and generation before
abbrev pub row_word : Step → Class → ℕ → Word
row_word step.HandOut class g = make_word HandedOut false Unended g
row_word step.Release class g = make_word Idle false Unended g
row_word step.Define class g = make_word Defined false Unended g
row_word step.Stage class g = make_word Staged false Unended g
row_word step.Submit class g = make_word Submitted false Unended g
row_word step.Claim class g = make_word Submitted true Unended g
row_word (step.Io ended) class g = make_word CompletedIo true ended g
row_word step.Shared class g = make_word CompletedShared false class g
row_word step.Local class g = make_word CompletedLocal false class g
row_word step.Reclaim class g = make_word Idle false Unended (g + 1)

-- what the step asks of the word beside state and claim
abbrev pub row_test : Step → ℕ → Bool
row_test step.HandOut g = nat_lt g last_generation
row_test (step.Io class) g = not (number_of_class class == 0)
row_test _ g = true

-- the word has this state and claim before the step, and is the word v after it
record RowApplies (w w' : Word) (s : State) (claim test : Bool) (v : Word) : Type 0 where
  state : w.state ≡ s
  claimed : w.claimed ≡ claim
  tested : test ≡ true
  is : v ≡ w'

-- where a row asks for the state alone, and where for one thing more
in-state : (w w' v : Word) (s : State) (claim : Bool) → (ClaimFits s w.claimed → w.claimed ≡ claim)
    → LawfulAndIdleAtLast w → some_if (state_is w s) v ≡ Some w' → RowApplies w w' s claim true v
in-state w w' v s claim fits b e =
    let t = some_if-true (state_is w s) v w' e in
    let st = same-state w.state s t.0 in
    record {
      state = st;
      claimed = fits (subst (λ (z : State). ClaimFits z w.claimed) st b.lawful.claim);
      tested = refl;
      is = t.1;
    }

in-state-and : (w w' v : Word) (s : State) (more : Bool)
    → some_if (state_is w s && more) v ≡ Some w' → (w.state ≡ s) × (more ≡ true) × (v ≡ w')
in-state-and w w' v s more e =
    let t = some_if-true (state_is w s && more) v w' e in
    let two = and-both (state_is w s) more t.0 in (same-state w.state s two.0, two.1, t.1)

row-applies : (w w' : Word) (e : Step) → LawfulAndIdleAtLast w → word_after w e ≡ Some w'
    → RowApplies w w' (state_before e) (claim_before e) (row_test e w.generation)
    (row_word e w.class w.generation)
row-applies w w' step.HandOut b e = let t = in-state-and w w' _ Idle _ e in record {
  state = t.0;
  claimed = subst (λ (z : State). ClaimFits z w.claimed) t.0 b.lawful.claim;
  tested = t.1;
  is = t.2;
}
row-applies w w' step.Claim b e = let t = in-state-and w w' _ Submitted _ e in
    record { state = t.0; claimed = not-true w.claimed t.1; tested = refl; is = t.2 }
row-applies w w' (step.Io class) b e =
    let t = in-state-and w w' _ Submitted _ e in
    let two = and-both w.claimed (not (number_of_class class == 0)) t.1 in
    record { state = t.0; claimed = two.0; tested = two.1; is = t.2 }
row-applies w w' step.Release b e = in-state w w' _ HandedOut false (λ x. x) b e
row-applies w w' step.Define b e = in-state w w' _ HandedOut false (λ x. x) b e
row-applies w w' step.Stage b e = in-state w w' _ Defined false (λ x. x) b e
row-applies w w' step.Submit b e = in-state w w' _ Staged false (λ x. x) b e
row-applies w w' step.Shared b e = in-state w w' _ CompletedIo true (λ x. x) b e
row-applies w w' step.Local b e = in-state w w' _ CompletedShared false (λ x. x) b e
row-applies w w' step.Reclaim b e = in-state w w' _ CompletedLocal false (λ x. x) b e

ended-not : (c : Class) → not (number_of_class c == 0) ≡ true → c ≢ Unended
ended-not c e x = let z : not (number_of_class Unended == 0) ≡ true =
    subst (λ (y : Class). not (number_of_class y == 0) ≡ true) x e in absurd (cc)

below-last : (g : ℕ) → nat_lt g last_generation ≡ true → g < last_generation
below-last g e = grind (arith, nat_tests)

same-io : (a b : Class) → kind.Io a ≡ kind.Io b → b ≡ a
same-io a b e = cc

same-local : (a b : Class) → kind.Local a ≡ kind.Local b → b ≡ a
same-local a b e = cc

-- a step within a life: its mark is the one of the word's place, and the word goes on by one place
within-life : (w w' : Word) (k : Kind) → LawfulAndIdleAtLast w → w.state ≢ Idle
    → w'.generation ≡ w.generation → word_place w' ≡ word_place w + 1 → kind_place k ≡ word_place w
    → ClaimFits w'.state w'.claimed → ClassFits w'.state w'.class
    → (4 < word_place w → w.class ≡ w'.class) → ((class : Class) → k ≡ kind.Io class → class ≡ w'.class)
    → ((class : Class) → k ≡ kind.Local class → class ≡ w.class) → AddsMark w w' k
within-life w w' k b busy same next place claim class kept io local = record {
  place = place;
  rank = omega arith;
  lawful = record {
    bound = subst (λ (z : ℕ). z < 2 ^ 58) (sym same) b.lawful.bound;
    claim = claim;
    class = class;
  };
  last = λ l. absurd (busy (b.last (sym same ∙ l)));
  same_class = λ _ four. kept four;
  io_class = io;
  local_class = local;
}

-- each row changes a word as a step of its kind does
row-rule : (e : Step) (class : Class) (g : ℕ) → row_test e g ≡ true
    → LawfulAndIdleAtLast (word_before e class g)
    → WordChange (word_before e class g) (row_word e class g) (kind_of_step class e)
row-rule step.HandOut class g test b = let below = below-last g test in record {
  rank = refl;
  generation = refl;
  class = sym b.lawful.class;
  lawful = record { bound = b.lawful.bound; claim = refl; class = refl };
  last = λ l. absurd (omega arith);
}
row-rule step.Release class g test b = record {
  rank = refl;
  generation = refl;
  class = sym b.lawful.class;
  lawful = record { bound = b.lawful.bound; claim = refl; class = refl };
  last = λ _. refl;
}
row-rule step.Define class g test b = within-life _ _ kind.Defined b (λ x. cc) refl refl refl refl
    refl (λ x. absurd (omega arith)) (λ _ x. absurd (cc)) (λ _ x. absurd (cc))
row-rule step.Stage class g test b = within-life _ _ kind.Staged b (λ x. cc) refl refl refl refl
    refl (λ x. absurd (omega arith)) (λ _ x. absurd (cc)) (λ _ x. absurd (cc))
row-rule step.Submit class g test b = within-life _ _ kind.Submitted b (λ x. cc) refl refl refl tt
    refl (λ x. absurd (omega arith)) (λ _ x. absurd (cc)) (λ _ x. absurd (cc))
row-rule step.Claim class g test b = within-life _ _ kind.Claimed b (λ x. cc) refl refl refl tt
    refl (λ x. absurd (omega arith)) (λ _ x. absurd (cc)) (λ _ x. absurd (cc))
row-rule (step.Io ended) class g test b = within-life _ _ (kind.Io ended) b (λ x. cc) refl refl refl
    refl (ended-not ended test) (λ x. absurd (omega arith)) (λ k x. same-io ended k x)
    (λ _ x. absurd (cc))
row-rule step.Shared class g test b = within-life _ _ kind.Shared b (λ x. cc) refl refl refl refl
    b.lawful.class (λ _. refl) (λ _ x. absurd (cc)) (λ _ x. absurd (cc))
row-rule step.Local class g test b = within-life _ _ (kind.Local class) b (λ x. cc) refl refl refl
    refl b.lawful.class (λ _. refl) (λ _ x. absurd (cc)) (λ k x. same-local class k x)
row-rule step.Reclaim class g test b =
    let below : g < 2 ^ 58 = b.lawful.bound in
    let more : g ≢ last_generation = λ l. let x : CompletedLocal ≡ Idle = b.last l in absurd (cc) in
    record {
      place = refl;
      rank = let goal : 8 * (g + 1) + 0 ≡ 8 * g + 7 + 1 = omega arith in goal;
      lawful = record { bound = omega arith; claim = refl; class = refl };
      last = λ _. refl;
      same_class = λ same _. absurd (omega arith);
      io_class = λ _ x. absurd (cc);
      local_class = λ _ x. absurd (cc);
    }

-- the word of the row has the step
pub row-has-step : (e : Step) (class : Class) (g : ℕ) → row_test e g ≡ true
    → word_after (word_before e class g) e ≡ Some (row_word e class g)
row-has-step step.HandOut class g test = λ k. some_if (test k) (make_word HandedOut false Unended g)
row-has-step (step.Io ended) class g test =
    λ k. some_if (test k) (make_word CompletedIo true ended g)
row-has-step _ class g test = refl

-- a word's rank stays or goes up by one
pub rank-grows : (w w' : Word) (o : Option Kind) → WordChange w w' o
    → (word_rank w ≤ word_rank w') × (word_rank w' ≤ word_rank w + 1)
rank-grows w w' None d = let r = d.rank in (omega arith, omega arith)
rank-grows w w' (Some k) d = let r = d.rank in (omega arith, omega arith)

-- what any step does to its word
pub row-change : (w w' : Word) (e : Step) → LawfulAndIdleAtLast w → word_after w e ≡ Some w'
    → WordChange w w' (kind_of_step w.class e)
row-change w w' e b row =
    let t = row-applies w w' e b row in
    let was : w ≡ word_before e w.class w.generation =
    λ k. make_word (t.state k) (t.claimed k) w.class w.generation in
    subst (λ (z : Word). WordChange w z (kind_of_step w.class e)) t.is
    (subst (λ (z : Word). WordChange z (row_word e w.class w.generation) (kind_of_step w.class e))
    (sym was) (row-rule e w.class w.generation t.tested (subst LawfulAndIdleAtLast was b)))

pub row-with-mark : (w w' : Word) (e : Step) (k : Kind) → LawfulAndIdleAtLast w
    → word_after w e ≡ Some w' → kind_of_step w.class e ≡ Some k → AddsMark w w' k
row-with-mark w w' e k b row lv =
    subst (λ (z : Option Kind). WordChange w w' z) lv (row-change w w' e b row)

pub row-without-mark : (w w' : Word) (e : Step) → LawfulAndIdleAtLast w → word_after w e ≡ Some w'
    → kind_of_step w.class e ≡ None → AddsNoMark w w'
row-without-mark w w' e b row lv =
    subst (λ (z : Option Kind). WordChange w w' z) lv (row-change w w' e b row)

pub some-kind : (a b : Kind) → Some a ≡ Some b → a ≡ b
some-kind a b e = cc
