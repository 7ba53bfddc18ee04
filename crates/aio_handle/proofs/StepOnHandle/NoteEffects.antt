-- What an event does to its actor's notes beside marks and pairs, whichever it is.
use Rattle.std.proofs.Common.{◌≡◌, ◌≢◌, ℕ, ◌+◌, ◌*◌, ◌<◌, ◌==◌, ◌⊎◌, ◌↔◌, ◌&&◌, true, List, [], ◌∷◌, ◌++◌}
use Rattle.std.proofs.Common.{refl, sym, ap, ◌∙◌, subst, inl, inr, arith, Option, Some, None}
use Rattle.std.proofs.lemmas.Bool.Decides.{nat_tests}
use Rattle.aio_word.specs.declared.Class.{Class}
use Rattle.aio_word.specs.declared.Config.{Config}
use Rattle.aio_word.specs.declared.Kind.{Kind}
use Rattle.aio_word.specs.declared.Known.{Known}
use Rattle.aio_word.specs.declared.Mark.{Mark}
use Rattle.aio_word.specs.declared.State.TheVariants.{HandedOut}
use Rattle.aio_word.specs.declared.Step.{Step as Event}
use Rattle.aio_word.specs.declared.Step.TheVariants as event
use Rattle.aio_word.specs.declared.WaitRef.{WaitRef}
use Rattle.aio_word.specs.declared.Word.{Word}
use Rattle.aio_word.specs.Words.{word_place, word_rank}
use Rattle.aio_word.specs.Events.{handle_count, owner, kind_place, lives_ended, kind_of_step}
use Rattle.aio_word.specs.Events.{with_mark, word_after, is_allowed, may_hand_out, wait_ref}
use Rattle.aio_word.specs.Stands.{one_if}
use Rattle.aio_word.proofs.EventEffect.{same-nat}
use Rattle.aio_word.proofs.EventRows.{word_before, row_word, row_test, row-has-step}
use Rattle.aio_handle.specs.TableInvariant.{KnownMatchesWord, IsLawfulActor}
use Rattle.aio_handle.specs.KnownChanges.{known_after, out_after, aims_after}
use Rattle.aio_handle.proofs.LivesCounted.{lives_ended-push}
use Rattle.aio_handle.proofs.WordFromMarks.{none-some, some-same}

-- a step by an actor that need not be the owner
pub record StepOfAnyActor (w w' : Word) : Type 0 where
  pub was : w.state ≢ HandedOut
  pub now : w'.state ≢ HandedOut
  pub generation : w'.generation ≡ w.generation
  pub place : 2 < word_place w

-- what a step does to its actor's notes, beside marks and pairs
pub record NoteEffect (c : Config) (h : ℕ) (ws : List Word) (w w' : Word) (e : Event)
    (aim aim' : List ℕ)
    (p p1 : Known) : Type 0 where
  pub row : word_after w e ≡ Some w'
  pub allowed : is_allowed c p.number p.marks h w.generation e ≡ true
  pub free : may_hand_out c p.number ws e ≡ true
  pub who : (p.number ≡ owner c h) ⊎ StepOfAnyActor w w'
  pub out : p.number ≡ owner c h → (g : ℕ) → ((w'.state ≡ HandedOut) × (w'.generation ≡ g))
      ↔ (p1.out ≡ Some (wait_ref h g))
  pub out_else : (t : WaitRef) → t.handle ≢ h → (p.out ≡ Some t) ↔ (p1.out ≡ Some t)
  pub is_out : (t : WaitRef) → p1.out ≡ Some t → (t.handle < handle_count c)
      × (p.number ≡ owner c t.handle)
  pub own_generation : p.number ≡ owner c h → w'.generation ≡ c.start + lives_ended h p1.marks
  pub aims : ((p1.aims ≡ p.aims) × (word_place w ≢ 2) × (word_place w ≢ 3))
      ⊎ ((p1.aims ≡ p.aims ++ (wait_ref h w.generation, aim') ∷ []) × (w'.generation ≡ w.generation)
      × (8 * w.generation + 2 < word_rank w'))
  pub same_aim : 2 < word_place w → w'.generation ≡ w.generation → aim' ≡ aim

-- the incarnation's aim after the event, where the event has the aim a
abbrev pub aim_after : Event → List ℕ → List ℕ → List ℕ
aim_after event.Submit a aim = a
aim_after event.Claim a aim = a
aim_after _ a aim = aim

-- what is claimed has the aim of the incarnation
abbrev pub AimFits : Event → List ℕ → List ℕ → Type 0
AimFits event.Claim a aim = a ≡ aim
AimFits _ a aim = Unit {0}

-- a handle is handed out to an actor that has none
abbrev pub OutFits : Event → Option WaitRef → Type 0
OutFits event.HandOut out = out ≡ None
OutFits _ out = Unit {0}

-- the lives that the mark ends
abbrev lives_by : Option Kind → ℕ
lives_by None = 0
lives_by (Some k) = one_if (kind_place k == 7)

same-handle : (h : ℕ) (k : Kind) → one_if ((h == h) && (kind_place k == 7)) ≡ one_if (kind_place k == 7)
same-handle h k = grind (arith, nat_tests)

lives-after : (h g : ℕ) (o : Option Kind) (ms : List Mark)
    → lives_ended h (with_mark ms h g o) ≡ lives_ended h ms + lives_by o
lives-after h g None ms = omega arith
lives-after h g (Some k) ms =
    let push = lives_ended-push h h g k ms in let is = same-handle h k in omega arith

row-generation : (e : Event) (class : Class) (g : ℕ)
    → (row_word e class g).generation ≡ g + lives_by (kind_of_step class e)
row-generation event.Reclaim class g = refl
row-generation _ class g = omega arith

module _ (c : Config) (h : ℕ) (class : Class) (g : ℕ) (aim a : List ℕ) (p : Known)
    (actor : IsLawfulActor c p) (range : h < handle_count c) where
  who : (e : Event) → is_allowed c p.number p.marks h g e ≡ true
      → (p.number ≡ owner c h) ⊎ StepOfAnyActor (word_before e class g) (row_word e class g)
  who event.Claim may =
      inr record { was = λ x. cc; now = λ x. cc; generation = refl; place = omega arith }
  who (event.Io ended) may =
      inr record { was = λ x. cc; now = λ x. cc; generation = refl; place = omega arith }
  who event.Shared may =
      inr record { was = λ x. cc; now = λ x. cc; generation = refl; place = omega arith }
  who _ may = inl (same-nat p.number (owner c h) may)

  -- the actor has the handle out exactly where the word says so
  abbrev OutMatches : Word → Option WaitRef → Type 0
  OutMatches w' out' = (n : ℕ) → ((w'.state ≡ HandedOut) × (w'.generation ≡ n))
      ↔ (out' ≡ Some (wait_ref h n))

  nothing-out : (w' : Word) → w'.state ≢ HandedOut → OutMatches w' None
  nothing-out w' now n = ((λ x. absurd (now x.0)), (λ x. absurd (none-some (wait_ref h n) x)))

  out-stays : (w w' : Word) → w.state ≢ HandedOut → w'.state ≢ HandedOut
      → KnownMatchesWord c h w aim p → p.number ≡ owner c h → OutMatches w' p.out
  out-stays w w' was now k own n =
      ((λ x. absurd (now x.0)), (λ x. absurd (was ((k.out own n).1 x).0)))

  out-now : (e : Event) → KnownMatchesWord c h (word_before e class g) aim p → p.number ≡ owner c h
      → OutMatches (row_word e class g) (out_after p.out (wait_ref h g) e)
  out-now event.HandOut k own = λ n. (
    (λ x. ap (λ (z : ℕ). Some (wait_ref h z)) x.1),
    (λ x. (refl, ap (λ (z : WaitRef). z.generation) (some-same (wait_ref h g) (wait_ref h n) x))),
  )
  out-now event.Release k own = nothing-out (row_word event.Release class g) (λ x. cc)
  out-now event.Define k own = nothing-out (row_word event.Define class g) (λ x. cc)
  out-now e k own =
      out-stays (word_before e class g) (row_word e class g) (λ x. cc) (λ x. cc) k own

  -- what the actor has out of other handles stays
  abbrev OutElse : Option WaitRef → Type 0
  OutElse out' = (t : WaitRef) → t.handle ≢ h → (p.out ≡ Some t) ↔ (out' ≡ Some t)

  given-up : p.out ≡ Some (wait_ref h g) → OutElse None
  given-up out t ne = (
    (λ x. absurd (ne (ap (λ (z : WaitRef). z.handle) (some-same t (wait_ref h g) (sym x ∙ out))))),
    (λ x. absurd (none-some t x)),
  )

  out-else : (e : Event) → KnownMatchesWord c h (word_before e class g) aim p
      → is_allowed c p.number p.marks h g e ≡ true → OutFits e p.out
      → OutElse (out_after p.out (wait_ref h g) e)
  out-else event.HandOut k may fits = λ t ne. (
    (λ x. absurd (none-some t (sym fits ∙ x))),
    (λ x. absurd (ne (sym (ap (λ (z : WaitRef). z.handle) (some-same (wait_ref h g) t x))))),
  )
  out-else event.Release k may fits =
      given-up ((k.out (same-nat p.number (owner c h) may) g).0 (refl, refl))
  out-else event.Define k may fits =
      given-up ((k.out (same-nat p.number (owner c h) may) g).0 (refl, refl))
  out-else _ k may fits = λ t ne. ((λ x. x), (λ x. x))

  is-out : (e : Event) → is_allowed c p.number p.marks h g e ≡ true → (t : WaitRef)
      → out_after p.out (wait_ref h g) e ≡ Some t
      → (t.handle < handle_count c) × (p.number ≡ owner c t.handle)
  is-out event.HandOut may t x = subst
      (λ (z : WaitRef). (z.handle < handle_count c) × (p.number ≡ owner c z.handle))
      (some-same (wait_ref h g) t x) (range, same-nat p.number (owner c h) may)
  is-out event.Release may t x = absurd (none-some t x)
  is-out event.Define may t x = absurd (none-some t x)
  is-out _ may t x = actor.out t x

  aims-now : (e : Event)
      → ((aims_after p.aims (wait_ref h g) a e ≡ p.aims)
      × (word_place (word_before e class g) ≢ 2) × (word_place (word_before e class g) ≢ 3))
      ⊎ ((aims_after p.aims (wait_ref h g) a e ≡ p.aims ++ (wait_ref h g, aim_after e a aim) ∷ [])
      × ((row_word e class g).generation ≡ g) × (8 * g + 2 < word_rank (row_word e class g)))
  aims-now event.Submit = inr (refl, refl, (let goal : 8 * g + 2 < 8 * g + 3 = omega arith in goal))
  aims-now event.Claim = inr (refl, refl, (let goal : 8 * g + 2 < 8 * g + 4 = omega arith in goal))
  aims-now _ = inl (refl, (λ x. omega arith), (λ x. omega arith))

  same-aim : (e : Event) → AimFits e a aim → 2 < word_place (word_before e class g)
      → aim_after e a aim ≡ aim
  same-aim event.Submit fits lt = absurd (omega arith)
  same-aim event.Claim fits lt = fits
  same-aim _ fits lt = refl

  pub note-effect : (ws : List Word) (e : Event)
      → KnownMatchesWord c h (word_before e class g) aim p → row_test e g ≡ true
      → is_allowed c p.number p.marks h g e ≡ true → may_hand_out c p.number ws e ≡ true
      → OutFits e p.out → AimFits e a aim
      → NoteEffect c h ws (word_before e class g) (row_word e class g) e aim (aim_after e a aim) p
      (known_after e h (word_before e class g) (row_word e class g) a p)
  note-effect ws e k tested may free out fits = record {
    row = row-has-step e class g tested;
    allowed = may;
    free = free;
    who = who e may;
    out = out-now e k;
    out_else = out-else e k may out;
    is_out = is-out e may;
    own_generation = λ own. let a = k.own_generation own in let b = row-generation e class g in
        let d = lives-after h g (kind_of_step class e) p.marks in omega arith;
    aims = aims-now e;
    same_aim = λ lt _. same-aim e fits lt;
  }
