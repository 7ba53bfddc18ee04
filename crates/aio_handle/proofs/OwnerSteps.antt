-- The owner's steps keep the rule.
use Rattle.std.proofs.Common.{◌≡◌, ℕ, ◌+◌, ◌*◌, ◌%◌, ◌^◌, ◌<◌, ◌≤◌, nat_lt, true, List, [], ◌∷◌}
use Rattle.std.proofs.Common.{get_or, refl, sym, ap, ◌∙◌, inl, inr, arith, Option, Some}
use Rattle.std.proofs.Common.{None}
use Rattle.std.proofs.lemmas.Bool.Decides.{nat_tests}
use mathlib.Core.Option.{some, none}
use Rattle.atomic_table.specs.Table.{Me, step, rest, takes, Allows}
use Rattle.aio_word.specs.declared.Class.{Class}
use Rattle.aio_word.specs.declared.Class.TheVariants.{Unended}
use Rattle.aio_word.specs.declared.Config.{Config}
use Rattle.aio_word.specs.declared.Step.TheVariants as event
use Rattle.aio_word.specs.declared.Word.{Word}
use Rattle.aio_word.specs.declared.Known.{Known}
use Rattle.aio_word.specs.Words.{packed_word, last_generation}
use Rattle.aio_word.specs.Events.{handle_count, owner, count_at_rank, wait_ref, lives_ended}
use Rattle.aio_word.specs.Stands.{seen_rank}
use Rattle.aio_word.specs.Tokens.{IsDefined, IsStaged, IsInFlight, IsLocal}
use Rattle.aio_word.proofs.PackIsInjective.{class-bound}
use Rattle.aio_handle.specs.declared.record.Label.{Label}
use Rattle.aio_handle.specs.Labels.{bound_label}
use Rattle.aio_handle.specs.TableInvariant.{SlotHolds, TableInvariant}
use Rattle.aio_handle.specs.KnownChanges.{known_after}
use Rattle.aio_handle.specs.LifeWords.{idle_word, handed_out_word, defined_word, staged_word}
use Rattle.aio_handle.specs.LifeWords.{unclaimed_word, completed_word, taken_word}
use Rattle.aio_handle.specs.Steps.{KeepsSlots, HandsOut, Releases, Submits, Reclaims}
use Rattle.aio_handle.specs.Steps.{TakesCompleted}
use Rattle.aio_handle.proofs.StateAtStep.{same-number, step-finds, refined, stood-here}
use Rattle.aio_handle.proofs.StateAtStep.{ruled-here, known-matches-word, actor-here}
use Rattle.aio_handle.proofs.WordFromMarks.{owns, is-idle_word, is-handed_out_word}
use Rattle.aio_handle.proofs.WordFromMarks.{is-defined_word, is-staged_word, is-completed_word}
use Rattle.aio_handle.proofs.WordFromMarks.{is-taken_word}
use Rattle.aio_handle.proofs.EventSteps.{EventFits, event_made, found, makes-event, slot-stays}
use Rattle.aio_handle.proofs.EventSteps.{slot-goes-out, slot-goes-home}

less : (a b : ℕ) → a < b → nat_lt a b ≡ true
less a b h = grind (arith, nat_tests)

-- one more on the packed word
next-word : (class : Class) (g : ℕ) → g < 2 ^ 58
    → (packed_word (completed_word class g) + 1) % 2 ^ 64 ≡ packed_word (taken_word class g)
next-word class g lt = let b = class-bound class in omega arith

module _ {R : Type 0} {label : R → Label} {aim_in : R → List ℕ} {Fits : R → Type 0} {c : Config}
    (id : ℕ) {slots h g : ℕ} {me : Me (Option R) (List Known)} {p : Known} (mine : me.0 ≡ p ∷ [])
    (range : h < handle_count c) where
  pub hand-out-is-allowed : {new : ℕ} → new ≡ packed_word (handed_out_word g)
      → (p.config ≡ c → p.number ≡ owner c h) → p.out ≡ None
      → (p.config ≡ c → g ≡ c.start + lives_ended h p.marks)
      → count_at_rank h (8 * g + 0) p.marks ≡ 0 → g < last_generation
      → Allows (TableInvariant label aim_in Fits c) slots id me h (λ _. new)
      (HandsOut (step slots h new 0 none) me)
  hand-out-is-allowed {new} is own out gen until room s r one_per_handle at _ =
      let f = step-finds r id h p (at ∙ ap some mine) range in
      let cf = (actor-here f).config in
      let d : EventFits f event.HandOut Unended g [] = record {
        word = is-idle_word f g (own cf) out (gen cf) until;
        tested = less g last_generation room;
        allowed = same-number p.number (owner c h) (own cf);
        out = out;
        aim = tt;
      } in
      let out = slot-goes-out f range event.HandOut Unended g [] d new is None
      (ruled-here (refined f (idle_word g) d.word)).slot refl in (
        known_after event.HandOut h (idle_word g) (handed_out_word g) [] p ∷ [],
        takes h None,
        out.0,
        out.1,
        makes-event f range event.HandOut Unended g [] d slots new me is mine ((h, None) ∷ me.1),
      )

  pub release-is-allowed : {new : ℕ} → new ≡ packed_word (idle_word g) → me.1 ≡ (h, None) ∷ rest me.1
      → p.out ≡ Some (wait_ref h g)
      → Allows (TableInvariant label aim_in Fits c) slots id me h (λ _. new)
      (Releases (step slots h new 0 none) me)
  release-is-allowed {new} is first out s r one_per_handle at _ =
      let f = step-finds r id h p (at ∙ ap some mine) range in
      slot-goes-home f range event.Release Unended g [] record {
        word = is-handed_out_word f g out;
        tested = refl;
        allowed = same-number p.number (owner c h) ((actor-here f).out (wait_ref h g) out).1;
        out = tt;
        aim = tt;
      } slots new me is mine None first (at ∙ ap some mine) refl

  pub define-is-allowed : {new : ℕ} → new ≡ packed_word (defined_word g) → p.out ≡ Some (wait_ref h g)
      → Allows (TableInvariant label aim_in Fits c) slots id me h (λ _. new)
      (KeepsSlots event.Define handed_out_word defined_word [] (step slots h new 0 none) me)
  define-is-allowed {new} is out s r one_per_handle at _ =
      let f = step-finds r id h p (at ∙ ap some mine) range in
      let word = is-handed_out_word f g out in
      slot-stays f range event.Define Unended g [] record {
        word = word;
        tested = refl;
        allowed = same-number p.number (owner c h) ((actor-here f).out (wait_ref h g) out).1;
        out = tt;
        aim = tt;
      } slots new me is mine (ruled-here (refined f (handed_out_word g) word)).slot

  pub stage-is-allowed : {new : ℕ} → new ≡ packed_word (staged_word g) → IsDefined p (wait_ref h g)
      → Allows (TableInvariant label aim_in Fits c) slots id me h (λ _. new)
      (KeepsSlots event.Stage defined_word staged_word [] (step slots h new 0 none) me)
  stage-is-allowed {new} is t s r one_per_handle at _ =
      let f = step-finds r id h p (at ∙ ap some mine) range in
      let word = is-defined_word f g t in
      slot-stays f range event.Stage Unended g [] record {
        word = word;
        tested = refl;
        allowed = same-number p.number (owner c h)
            (owns f g 0 (omega arith) (inl (omega arith)) t.since);
        out = tt;
        aim = tt;
      } slots new me is mine (ruled-here (refined f (defined_word g) word)).slot

  pub submit-is-allowed : {new : ℕ} (x : R) → new ≡ packed_word (unclaimed_word g)
      → me.1 ≡ (h, Some x) ∷ rest me.1 → IsStaged p (wait_ref h g) → label x ≡ bound_label h g
      → Fits x → Allows (TableInvariant label aim_in Fits c) slots id me h (λ _. new)
      (Submits aim_in (step slots h new 0 none) me)
  submit-is-allowed {new} x is first t label_is fits s r one_per_handle at _ =
      let f = step-finds r id h p (at ∙ ap some mine) range in
      let all = slot-goes-home f range event.Submit Unended g (aim_in x) record {
        word = is-staged_word f g t;
        tested = refl;
        allowed = same-number p.number (owner c h)
            (owns f g 1 (omega arith) (inl (omega arith)) t.since);
        out = tt;
        aim = tt;
      } slots new me is mine (Some x) first (at ∙ ap some mine)
      (x, refl, record { label_is = label_is; aimed = refl; fits = fits }) in
      (all.0, all.1, all.2, all.3, (x, first, all.4))

  pub reclaim-is-allowed : {new : ℕ} → new ≡ packed_word (idle_word (g + 1)) → me.1 ≡ (h, None) ∷ rest me.1
      → IsLocal p (wait_ref h g)
      → Allows (TableInvariant label aim_in Fits c) slots id me h (λ _. new)
      (Reclaims (step slots h new 0 none) me)
  reclaim-is-allowed {new} is first t s r one_per_handle at _ =
      let f = step-finds r id h p (at ∙ ap some mine) range in
      let all = slot-goes-home f range event.Reclaim f.w.class g [] record {
        word = is-taken_word f g t;
        tested = refl;
        allowed = same-number p.number (owner c h)
            (owns f g 6 (omega arith) (inr (omega arith)) t.since);
        out = tt;
        aim = tt;
      } slots new me is mine None first (at ∙ ap some mine) refl in
      (all.0, all.1, all.2, all.3, (f.w.class, all.4))

  pub take-is-allowed : IsInFlight p (wait_ref h g) → 8 * g + 6 ≤ seen_rank p h
      → Allows (TableInvariant label aim_in Fits c) slots id me h (λ n. (n + 1) % 2 ^ 64)
      (TakesCompleted label aim_in Fits (step slots h 1 0 none) me)
  take-is-allowed t saw s r one_per_handle at _ =
      let f = step-finds r id h p (at ∙ ap some mine) range in
      let class : Class = f.w.class in
      let d : EventFits f event.Local class g [] = record {
        word = is-completed_word f g t saw;
        tested = refl;
        allowed = same-number p.number (owner c h)
            (owns f g 2 (omega arith) (inl (omega arith)) t.since);
        out = tt;
        aim = tt;
      } in
      let now = refined f (completed_word class g) d.word in
      let hold : SlotHolds label aim_in Fits h (completed_word class g) (ruled-here now).aim class
      f.home = (ruled-here now).slot in
      let was : get_or s.words h 0 ≡ packed_word (completed_word class g) =
      found f range event.Local class g [] d in
      let out = slot-goes-out f range event.Local class g [] d ((get_or s.words h 0 + 1) % 2 ^ 64)
      (ap (λ (z : ℕ). (z + 1) % 2 ^ 64) was ∙ next-word class g (stood-here now).lawful.bound)
      (Some hold.0) hold.1 refl in (
        known_after event.Local h (completed_word class g) (taken_word class g) [] p ∷ [],
        takes h (Some hold.0),
        out.0,
        out.1,
        record {
          p = p;
          q = known_after event.Local h (completed_word class g) (taken_word class g) [] p;
          g = g;
          class = class;
          x = hold.0;
          by_owner = mine;
          then = refl;
          found = was;
          event_made = event_made f range event.Local class g [] d;
          label_is = hold.2.label_is;
          -- the record has each aim that the actor noted for the incarnation
          aimed = λ a i. hold.2.aimed
              ∙ sym (((known-matches-word now).aims (wait_ref h g, a) i refl).1 refl);
          fits = hold.2.fits;
          same = λ n u saw-n. ap (λ (z : Word). z.generation)
              (sym d.word ∙ is-completed_word f n u saw-n);
        },
      )
