-- A step keeps the last claimers, and so all that the program's machine keeps.
use Rattle.std.proofs.Common.{◌≡◌, ◌≢◌, ℕ, ◌+◌, ◌*◌, ◌<◌, ◌&&◌, ◌==◌, true, List, [], ◌∷◌, ◌++◌}
use Rattle.std.proofs.Common.{length, get_or, set, refl, sym, ap, ◌∙◌, subst, arith, nat_lt, Option}
use Rattle.std.proofs.Common.{Some, None, slice_get, length-set}
use Rattle.std.proofs.lemmas.Bool.Decides.{nat_tests}
use Rattle.std.proofs.lemmas.List.{get_or-set_other, get_or-set_same}
use Rattle.std.proofs.lemmas.Option.{slice_get_read, slice_get_within}
use mathlib.Core.Logic.{dite}
use native.Mathlib.Decide.{ℕ_discrete}
use Rattle.aio_word.specs.declared.Config.{Config}
use Rattle.aio_word.specs.declared.Event.{Event}
use Rattle.aio_word.specs.declared.Kind.{Kind}
use Rattle.aio_word.specs.declared.Kind.TheVariants as kind
use Rattle.aio_word.specs.declared.Mark.{Mark}
use Rattle.aio_word.specs.declared.Step.{Step}
use Rattle.aio_word.specs.declared.Step.TheVariants as step
use Rattle.aio_word.specs.declared.Word.{Word}
use Rattle.aio_word.specs.Words.{IsLawful, word_place}
use Rattle.aio_word.specs.Events.{Machine, word_after, kind_of_step, with_mark, has_claimed}
use Rattle.aio_word.specs.Events.{kind_place, count_at_rank, machine_after}
use Rattle.aio_word.proofs.EventEffect.{EventEffect, event-effect, get-at}
use Rattle.aio_word.proofs.StepKeepsMachine.{step-keeps-machine}
use Rattle.aio_word.proofs.EventRows.{LawfulAndIdleAtLast, AddsMark, AddsNoMark, row-with-mark}
use Rattle.aio_word.proofs.EventRows.{row-without-mark}
use Rattle.aio_word.proofs.StepIsMachineStep.{get-set, get-else}
use Rattle.aio_word.proofs.AppendKeepsHandle.{mark_by_parts, place-small, count_at_rank-push}
use Rattle.aio_core.specs.Allowed.{allowed_next_word, lists_with_mark}
use Rattle.aio_core.proofs.StepIsMachineStep.{machine-after-is}
use Rattle.aio_core.specs.Claimers.{IsClaimer, MachineInvariant, claimers_after_step}
use Rattle.aio_core.specs.Claimers.{claimers_after_event}

has-more : (h g eh eg : ℕ) (marks : List Mark) (k : Option Kind) → has_claimed h g marks ≡ true
    → has_claimed h g (with_mark marks eh eg k) ≡ true
has-more h g eh eg marks None has = has
has-more h g eh eg marks (Some k) has =
    let more = count_at_rank-push h (8 * g + 3) marks (mark_by_parts eh eg k) in
    let some : 0 < count_at_rank h (8 * g + 3) marks = grind (arith, nat_tests) in
    let now : 0 < count_at_rank h (8 * g + 3) (marks ++ mark_by_parts eh eg k ∷ []) = omega arith in
    let goal : nat_lt 0 (count_at_rank h (8 * g + 3) (marks ++ mark_by_parts eh eg k ∷ [])) ≡ true =
    grind (arith, nat_tests) in goal

rank-past-claim : (w w' : Word) (k : Kind) → AddsMark w w' k → kind_place k ≢ 3 → 3 < word_place w'
    → (3 < word_place w) × (w'.generation ≡ w.generation)
rank-past-claim w w' k m other past =
    let r = m.rank in let p = m.place in let before = place-small w.state w.claimed in
    let after' = place-small w'.state w'.claimed in
    (omega arith, omega arith)

same-place : (w w' : Word) → AddsNoMark w w' → 3 < word_place w'
    → (3 < word_place w) × (w'.generation ≡ w.generation)
same-place w w' q past = let r = q.rank in let g = q.generation in (omega arith, g)

-- a step that is no claim leads past a claim only from past it, in the same generation
past-claim : (w w' : Word) (s : Step) → LawfulAndIdleAtLast w → word_after w s ≡ Some w'
    → s ≢ step.Claim
    → 3 < word_place w' → (3 < word_place w) × (w'.generation ≡ w.generation)
past-claim w w' step.HandOut b row ne past =
    same-place w w' (row-without-mark w w' step.HandOut b row refl) past
past-claim w w' step.Release b row ne past =
    same-place w w' (row-without-mark w w' step.Release b row refl) past
past-claim w w' step.Define b row ne past =
    let m = row-with-mark w w' step.Define kind.Defined b row refl in
    rank-past-claim w w' kind.Defined m (λ e. omega arith) past
past-claim w w' step.Stage b row ne past =
    let m = row-with-mark w w' step.Stage kind.Staged b row refl in
    rank-past-claim w w' kind.Staged m (λ e. omega arith) past
past-claim w w' step.Submit b row ne past =
    let m = row-with-mark w w' step.Submit kind.Submitted b row refl in
    rank-past-claim w w' kind.Submitted m (λ e. omega arith) past
past-claim w w' step.Claim b row ne past = absurd (ne refl)
past-claim w w' (step.Io class) b row ne past =
    let m = row-with-mark w w' (step.Io class) (kind.Io class) b row refl in
    rank-past-claim w w' (kind.Io class) m (λ e. omega arith) past
past-claim w w' step.Shared b row ne past =
    let m = row-with-mark w w' step.Shared kind.Shared b row refl in
    rank-past-claim w w' kind.Shared m (λ e. omega arith) past
past-claim w w' step.Local b row ne past =
    let m = row-with-mark w w' step.Local (kind.Local w.class) b row refl in
    rank-past-claim w w' (kind.Local w.class) m (λ e. omega arith) past
past-claim w w' step.Reclaim b row ne past =
    let m = row-with-mark w w' step.Reclaim kind.Reclaimed b row refl in
    rank-past-claim w w' kind.Reclaimed m (λ e. omega arith) past

-- either the step is a claim, or the last claimers stay
data ClaimersChange (s : Step) (claimers : List ℕ) (h actor : ℕ) : Type 0 where
  a_claim : s ≡ step.Claim → claimers_after_step s claimers h actor ≡ set claimers h actor
      → ClaimersChange s claimers h actor
  another : s ≢ step.Claim → claimers_after_step s claimers h actor ≡ claimers
      → ClaimersChange s claimers h actor

claimers-change : (s : Step) (claimers : List ℕ) (h actor : ℕ) → ClaimersChange s claimers h actor
claimers-change step.HandOut claimers h actor = another (λ e. cc) refl
claimers-change step.Release claimers h actor = another (λ e. cc) refl
claimers-change step.Define claimers h actor = another (λ e. cc) refl
claimers-change step.Stage claimers h actor = another (λ e. cc) refl
claimers-change step.Submit claimers h actor = another (λ e. cc) refl
claimers-change step.Claim claimers h actor = a_claim refl refl
claimers-change (step.Io class) claimers h actor = another (λ e. cc) refl
claimers-change step.Shared claimers h actor = another (λ e. cc) refl
claimers-change step.Local claimers h actor = another (λ e. cc) refl
claimers-change step.Reclaim claimers h actor = another (λ e. cc) refl

itself : (h g : ℕ) → ((h == h) && ((8 * g + 3) == (8 * g + 3))) ≡ true
itself h g = grind (arith, nat_tests)

new-claim : (h g : ℕ) (marks : List Mark)
    → has_claimed h g (with_mark marks h g (Some kind.Claimed)) ≡ true
new-claim h g marks =
    let more = count_at_rank-push h (8 * g + 3) marks (mark_by_parts h g kind.Claimed) in
    let one = itself h g in
    grind (arith, nat_tests)

pub some-list : (a b : List Mark) → Some a ≡ Some b → a ≡ b
some-list a b h = cc

module _ (c : Config) (m : Machine) (e : Event) (m' : Machine) (claimers : List ℕ)
    (k : MachineInvariant c m claimers) (new_machine : machine_after c m e ≡ Some m') where
  moved : EventEffect c m e m'
  moved = event-effect c m e m' new_machine

  -- the list of an actor after the event
  grown : (actor h g : ℕ) → IsClaimer m actor h g → IsClaimer m' actor h g
  grown actor h g has =
      subst (λ (z : Machine). IsClaimer z actor h g) (sym moved.is)
      (dite (ℕ_discrete actor e.actor)
      (λ same. let list : slice_get m.lists e.actor ≡ Some has.marks =
      ap (slice_get m.lists) (sym same) ∙ has.list in record {
        marks = with_mark moved.marks e.handle e.generation (kind_of_step moved.w.class e.step);
        list = ap (slice_get (set m.lists e.actor
            (with_mark moved.marks e.handle e.generation (kind_of_step moved.w.class e.step)))) same
            ∙ get-set m.lists e.actor _ (slice_get_within m.lists e.actor moved.marks moved.list);
        claimed = has-more h g e.handle e.generation moved.marks (kind_of_step moved.w.class e.step)
            (subst (λ (z : List Mark). has_claimed h g z ≡ true)
            (some-list has.marks moved.marks (sym list ∙ moved.list)) has.claimed);
      })
      (λ other. record {
        marks = has.marks;
        list = get-else m.lists e.actor actor _ other
            ∙ has.list;
        claimed = has.claimed;
      }))

  begun : LawfulAndIdleAtLast moved.w
  begun = let x = k.lawful_machine.words_match_lists.each_handle e.handle moved.w
      (get-at m.words e.handle moved.w moved.word) in record { lawful = x.lawful; last = x.last }

  inside : e.handle < length claimers
  inside = let a = slice_get_within m.words e.handle moved.w moved.word in
      let b = k.lawful_machine.words_match_lists.one_per_handle in let d = k.one_per_handle in omega arith

  words-now : m'.words ≡ set m.words e.handle moved.w'
  words-now = ap (λ (z : Machine). z.words) moved.is

  word-now : slice_get m'.words e.handle ≡ Some moved.w'
  word-now = ap (λ (z : List Word). slice_get z e.handle) words-now
      ∙ get-set m.words e.handle moved.w' (slice_get_within m.words e.handle moved.w moved.word)

  just-claimed : e.step ≡ step.Claim → IsClaimer m' e.actor e.handle moved.w'.generation
  just-claimed is =
      let row : word_after moved.w step.Claim ≡ Some moved.w' = ap (word_after moved.w) (sym is)
      ∙ moved.row in
      let q = row-with-mark moved.w moved.w' step.Claim kind.Claimed begun row refl in
      let r = q.rank in let p = q.place in let x = place-small moved.w'.state moved.w'.claimed in
      let same : moved.w'.generation ≡ e.generation =
      (let y : moved.w'.generation ≡ moved.w.generation = omega arith in y)
      ∙ moved.generation in
      let left : kind_of_step moved.w.class e.step ≡ Some kind.Claimed =
      ap (kind_of_step moved.w.class) is in
      subst (λ (z : Machine). IsClaimer z e.actor e.handle moved.w'.generation)
      (sym moved.is) record {
        marks = with_mark moved.marks e.handle e.generation (kind_of_step moved.w.class e.step);
        list = get-set m.lists e.actor _ (slice_get_within m.lists e.actor moved.marks moved.list);
        claimed = subst (λ (z : Option Kind). has_claimed e.handle moved.w'.generation
            (with_mark moved.marks e.handle e.generation z) ≡ true) (sym left)
            (subst (λ (z : ℕ). has_claimed e.handle z
            (with_mark moved.marks e.handle e.generation (Some kind.Claimed)) ≡ true) (sym same)
            (new-claim e.handle e.generation moved.marks));
      }

  some-word : (v w : Word) → Some v ≡ Some w → v ≡ w
  some-word v w h = cc

  claimer-of : (now : List ℕ) → ClaimersChange e.step claimers e.handle e.actor
      → claimers_after_event claimers e ≡ now → (h : ℕ) (v : Word) → slice_get m'.words h ≡ Some v
      → 3 < word_place v → IsClaimer m' (get_or now h 0) h v.generation
  claimer-of now (a_claim is set-now) eq h v at past =
      let list : now ≡ set claimers e.handle e.actor = sym eq ∙ set-now in
      dite (ℕ_discrete h e.handle)
      (λ same. let w' : v ≡ moved.w' = some-word v moved.w' (sym at
      ∙ (ap (slice_get m'.words) same ∙ word-now)) in
      let who : get_or now h 0 ≡ e.actor = ap (λ (z : List ℕ). get_or z h 0) list
      ∙ (ap (λ (z : ℕ). get_or (set claimers e.handle e.actor) z 0) same
      ∙ get_or-set_same claimers e.handle e.actor 0 inside) in
      subst (λ (z : Word). IsClaimer m' (get_or now h 0) h z.generation) (sym w')
      (subst (λ (z : ℕ). IsClaimer m' z h moved.w'.generation) (sym who)
      (subst (λ (z : ℕ). IsClaimer m' e.actor z moved.w'.generation) (sym same)
      (just-claimed is))))
      (λ other. let old : slice_get m.words h ≡ Some v =
      sym (get-else m.words e.handle h moved.w' other)
      ∙ (ap (λ (z : List Word). slice_get z h) (sym words-now) ∙ at) in
      let who : get_or now h 0 ≡ get_or claimers h 0 = ap (λ (z : List ℕ). get_or z h 0) list
      ∙ get_or-set_other claimers e.handle h e.actor 0 other in
      subst (λ (z : ℕ). IsClaimer m' z h v.generation) (sym who)
      (grown (get_or claimers h 0) h v.generation (k.claimer h v old past)))
  claimer-of now (another ne stay) eq h v at past =
      let who : get_or now h 0 ≡ get_or claimers h 0 = ap (λ (z : List ℕ). get_or z h 0) (sym eq
      ∙ stay) in
      subst (λ (z : ℕ). IsClaimer m' z h v.generation) (sym who) (dite (ℕ_discrete h e.handle)
      (λ same. let w' : v ≡ moved.w' = some-word v moved.w' (sym at
      ∙ (ap (slice_get m'.words) same ∙ word-now)) in
      let from = past-claim moved.w moved.w' e.step begun moved.row ne
      (subst (λ (z : Word). 3 < word_place z) w' past) in
      let old : slice_get m.words h ≡ Some moved.w = ap (slice_get m.words) same ∙ moved.word in
      let g : v.generation ≡ moved.w.generation = ap (λ (z : Word). z.generation) w' ∙ from.1 in
      subst (λ (z : ℕ). IsClaimer m' (get_or claimers h 0) h z) (sym g)
      (grown (get_or claimers h 0) h moved.w.generation (k.claimer h moved.w old from.0)))
      (λ other. let old : slice_get m.words h ≡ Some v =
      sym (get-else m.words e.handle h moved.w' other)
      ∙ (ap (λ (z : List Word). slice_get z h) (sym words-now) ∙ at) in
      grown (get_or claimers h 0) h v.generation (k.claimer h v old past)))

  wide-of : ClaimersChange e.step claimers e.handle e.actor
      → length (claimers_after_event claimers e) ≡ length claimers
  wide-of (a_claim is set-now) = ap length set-now ∙ length-set claimers e.handle e.actor
  wide-of (another ne stay) = ap length stay

  pub kept : MachineInvariant c m' (claimers_after_event claimers e)
  kept = record {
    bounds = k.bounds;
    lawful_machine = step-keeps-machine c m e m' k.lawful_machine new_machine;
    one_per_handle = wide-of (claimers-change e.step claimers e.handle e.actor) ∙ k.one_per_handle;
    claimer = λ h v at past. claimer-of (claimers_after_event claimers e)
        (claimers-change e.step claimers e.handle e.actor) refl h v at past;
  }

-- what the program does is the machine's step, and keeps what a machine keeps
pub step-keeps-invariant : (c : Config) (words : List Word) (lists lists' : List (List Mark))
    (claimers claimers' : List ℕ) (e : Event) (w next : Word)
    → MachineInvariant c record { words = words; lists = lists } claimers
    → slice_get words e.handle ≡ Some w
    → allowed_next_word c record { words = words; lists = lists } e w ≡ Some next
    → lists' ≡ lists_with_mark lists e.actor e.handle e.generation (kind_of_step w.class e.step)
    (slice_get lists e.actor) → claimers' ≡ claimers_after_event claimers e
    → (machine_after c record { words = words; lists = lists } e ≡ Some record {
      words =
          set words e.handle next;
      lists = lists';
    })
    × MachineInvariant c record { words = set words e.handle next; lists = lists' } claimers'
step-keeps-invariant c words lists lists' claimers claimers' e w next k here is noted-is
    claimers-are =
    let m : Machine = record { words = words; lists = lists } in
    let m' : Machine = record { words = set words e.handle next; lists = lists' } in
    let step : machine_after c m e ≡ Some m' = machine-after-is c m e w here next is
    ∙ ap (λ (l : List (List Mark)). Some record { words = set words e.handle next; lists = l })
    (sym noted-is) in (
      step,
      subst (λ (z : List ℕ). MachineInvariant c m' z) (sym claimers-are)
          (kept c m e m' claimers k step),
    )

-- the word that was read is that of its handle
pub word-at : (words : List Word) (h : ℕ) (w : Word) → h < length words → w ≡ get_or words h w
    → slice_get words h ≡ Some w
word-at words h w lt e = slice_get_read words (length words) h w refl lt e

lawful-at : (c : Config) (m : Machine) (claimers : List ℕ) (h : ℕ) (w : Word)
    → MachineInvariant c m claimers → slice_get m.words h ≡ Some w → IsLawful w
lawful-at c m claimers h w k at = (k.lawful_machine.words_match_lists.each_handle h w (get-at m.words h w at)).lawful

-- and it is lawful
pub lawful-read : (c : Config) (words : List Word) (lists : List (List Mark)) (claimers : List ℕ)
    (h : ℕ) (w : Word) → MachineInvariant c record { words = words; lists = lists } claimers
    → h < length words → w ≡ get_or words h w → IsLawful w
lawful-read c words lists claimers h w k lt e =
    lawful-at c record { words = words; lists = lists } claimers h w k (word-at words h w lt e)
