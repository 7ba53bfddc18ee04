-- A look keeps the rule, and so do the claimer's steps.
use Rattle.std.proofs.Common.{◌≡◌, ◌≢◌, ℕ, ◌+◌, ◌*◌, ◌<◌, ◌==◌, nat_lt, true, false, not, eqb, List, []}
use Rattle.std.proofs.Common.{◌∷◌, get_or, set, refl, sym, ap, ◌∙◌, subst, arith, Option, Some}
use Rattle.std.proofs.lemmas.Bool.Decides.{nat_tests}
use mathlib.Core.Option.{some, none}
use prog.Atomic.{either}
use Rattle.atomic_table.specs.Table.{State, Me, Act, step, rest, keeps as stays, takes, Allows, Valid}
use Rattle.atomic_table.specs.Table.{stepped, carried_after}
use Rattle.atomic_table.proofs.Lists.{exchanged}
use Rattle.aio_word.specs.declared.Config.{Config}
use Rattle.aio_word.specs.declared.Class.{Class}
use Rattle.aio_word.specs.declared.Class.TheVariants.{Unended, Whole, Short, Failed}
use Rattle.aio_word.specs.declared.Step.TheVariants as event
use Rattle.aio_word.specs.declared.Known.{Known}
use Rattle.aio_word.specs.Words.{packed_word, number_of_class}
use Rattle.aio_word.specs.Events.{handle_count, actor_count, count_at_rank, wait_ref}
use Rattle.aio_word.specs.Stands.{IsIn}
use Rattle.aio_word.specs.Tokens.{IsClaimed, IsExecuted}
use Rattle.aio_word.proofs.PackIsInjective.{packed_word-injective}
use Rattle.aio_handle.specs.declared.record.Label.{Label}
use Rattle.aio_handle.specs.TableInvariant.{SlotHolds, TableInvariant}
use Rattle.aio_handle.specs.KnownChanges.{known_after, known_after_look}
use Rattle.aio_handle.specs.LifeWords.{unclaimed_word, claimed_word, executed_word, completed_word}
use Rattle.aio_handle.specs.Steps.{StepLoadsWord, NumberLoaded, Claims, Executes, Shares}
use Rattle.aio_handle.proofs.StateAtStep.{StepFinds, step-finds, refined, ruled-here}
use Rattle.aio_handle.proofs.StateAtStep.{known-matches-word, actor-here}
use Rattle.aio_handle.proofs.WordFromMarks.{is-claimed_word, has-claimed, is-executed_word}
use Rattle.aio_handle.proofs.StepOnHandle.InvariantAfterStep.{look-keeps, word-loaded}
use Rattle.aio_handle.proofs.EventSteps.{EventFits, event_made, slot-stays, slot-goes-out}
use Rattle.aio_handle.proofs.EventSteps.{slot-goes-home}

less : (a b : ℕ) → a < b → nat_lt a b ≡ true
less a b h = grind (arith, nat_tests)

has-class : (k : Class) → k ≢ Unended → not (number_of_class k == 0) ≡ true
has-class Unended ne = absurd (ne refl)
has-class Whole ne = refl
has-class Short ne = refl
has-class Failed ne = refl

-- the rule after a look, and what the look tells
word_load : {R : Type 0} {label : R → Label} {aim_in : R → List ℕ} {Fits : R → Type 0} {c : Config}
    {s : State (Option R) (List Known)} {r : TableInvariant label aim_in Fits c s} {id h : ℕ}
    {p : Known} (f : StepFinds label aim_in Fits c s r id h p) → h < handle_count c
    → TableInvariant label aim_in Fits c
    record {
      words = set s.words h (get_or s.words h 0);
      homes = s.homes;
      views = set s.views id (known_after_look h f.w p ∷ []);
    }
    × NumberLoaded h (get_or s.words h 0) p (known_after_look h f.w p)
word_load {label = label} {aim_in = aim_in} {Fits = Fits} {c = c} {s = s} {id = id} {h = h} {p = p} f
    range = (
      subst (λ (z : ℕ). TableInvariant label aim_in Fits c
          record {
            words = set s.words h z;
            homes = s.homes;
            views = set s.views id (known_after_look h f.w p ∷ []);
          }) (sym f.found) (look-keeps f range),
      (f.w, sym f.found, word-loaded f range),
    )

module _ {R : Type 0} {label : R → Label} {aim_in : R → List ℕ} {Fits : R → Type 0} {c : Config}
    (id : ℕ) {slots h : ℕ} {me : Me (Option R) (List Known)} {p : Known} (mine : me.0 ≡ p ∷ [])
    (range : h < handle_count c) where
  loads : Allows (TableInvariant label aim_in Fits c) slots id me h
      (λ n. n) (StepLoadsWord (step slots h 0 0 none) me)
  loads s r one_per_handle at _ =
      let f = step-finds r id h p (at ∙ ap some mine) range in
      let q : Known = known_after_look h f.w p in
      let look = word_load f range in (
        q ∷ [],
        stays,
        tt,
        look.0,
        record { p = p; q = q; by_owner = mine; then = refl; loaded = look.1 },
      )

  pub claim-is-allowed : (g : ℕ) {old new : ℕ} → old ≡ packed_word (unclaimed_word g)
      → new ≡ packed_word (claimed_word g)
      → Allows (TableInvariant label aim_in Fits c) slots id me h (λ n. either (eqb n old) new n)
      (Claims label aim_in Fits (step slots h old new none) me)
  claim-is-allowed g {old} {new} is_old is_new s r one_per_handle at _ =
      let f = step-finds r id h p (at ∙ ap some mine) range in
      let n : ℕ = get_or s.words h 0 in
      let st = step {S = Option R} slots h old new none in
      exchanged n old new
      (λ (m : ℕ). (v : List Known) × (a : Act (Option R)) × Valid s.homes me.1 a
      × TableInvariant label aim_in Fits c (stepped s h m id me.1 v a)
      × Claims label aim_in Fits st me n (v, carried_after me.1 a))
      (λ hit.
      let free : f.w ≡ unclaimed_word g = packed_word-injective f.w (unclaimed_word g)
      (sym f.found ∙ (hit ∙ is_old)) in
      let here = ruled-here (refined f (unclaimed_word g) free) in
      let hold : SlotHolds label aim_in Fits h (unclaimed_word g) here.aim Unended f.home = here.slot
      in
      let d : EventFits f event.Claim Unended g (aim_in hold.0) = record {
        word = free;
        tested = refl;
        allowed = less p.number (actor_count c) (actor-here f).number;
        out = tt;
        aim = hold.2.aimed;
      } in
      let out = slot-goes-out f range event.Claim Unended g (aim_in hold.0) d new is_new
      (Some hold.0) hold.1 refl in
      let q : Known = known_after event.Claim h (unclaimed_word g) (claimed_word g)
      (aim_in hold.0) p in (
        q ∷ [],
        takes h (Some hold.0),
        out.0,
        out.1,
        record {
          p = p;
          q = q;
          by_owner = mine;
          won = λ _. (
            g,
            (
              hold.0,
              hit ∙ is_old,
              refl,
              event_made f range event.Claim Unended g (aim_in hold.0) d,
              hold.2.label_is,
              hold.2.fits,
            ),
          );
          lost = λ miss. absurd (miss hit);
        },
      ))
      (λ miss.
      let q : Known = known_after_look h f.w p in
      let look = word_load f range in (
        q ∷ [],
        stays,
        tt,
        look.0,
        record {
          p = p;
          q = q;
          by_owner = mine;
          won = λ hit. absurd (miss hit);
          lost = λ _. (refl, look.1);
        },
      ))

  pub execute-is-allowed : {g new : ℕ} {class : Class} → new ≡ packed_word (executed_word class g)
      → class ≢ Unended → IsClaimed p (wait_ref h g)
      → Allows (TableInvariant label aim_in Fits c) slots id me h (λ _. new)
      (Executes (step slots h new 0 none) me)
  execute-is-allowed {g} {new} {class} is ended t s r one_per_handle at _ =
      let f = step-finds r id h p (at ∙ ap some mine) range in
      let word = is-claimed_word f g t in
      let all = slot-stays f range (event.Io class) Unended g [] record {
        word = word;
        tested = has-class class ended;
        allowed = less 0 (count_at_rank h (8 * g + 3) p.marks) t.since;
        out = tt;
        aim = tt;
      } slots new me is mine (ruled-here (refined f (claimed_word g) word)).slot in
      (all.0, all.1, all.2, all.3, (class, all.4))

  pub share-is-allowed : {g new : ℕ} {class : Class} (x : R)
      → new ≡ packed_word (completed_word class g) → me.1 ≡ (h, Some x) ∷ rest me.1
      → IsExecuted class p (wait_ref h g)
      → label x ≡ record { handle = h; generation = g; ended = class; settled = false }
      → IsIn (wait_ref h g, aim_in x) p.aims → Fits x
      → Allows (TableInvariant label aim_in Fits c) slots id me h (λ _. new)
      (Shares (step slots h new 0 none) me)
  share-is-allowed {g} {new} {class} x is first t label_is aimed fits s r one_per_handle at _ =
      let f = step-finds r id h p (at ∙ ap some mine) range in
      let word = is-executed_word f g class t in
      let now = refined f (executed_word class g) word in
      let all = slot-goes-home f range event.Shared class g [] record {
        word = word;
        tested = refl;
        allowed = less 0 (count_at_rank h (8 * g + 3) p.marks) (has-claimed f g class t);
        out = tt;
        aim = tt;
      } slots new me is mine (Some x) first (at ∙ ap some mine) (
        x,
        refl,
        record {
          label_is = label_is;
          aimed = ((known-matches-word now).aims (wait_ref h g, aim_in x) aimed refl).1 refl;
          fits = fits;
        },
      ) in (all.0, all.1, all.2, all.3, (class, all.4))

-- what a call's load asks, where the numbers of the table are those of its configuration
pub load-is-allowed : {R : Type 0} {label : R → Label} {aim_in : R → List ℕ} {Fits : R → Type 0}
    {c : Config} {X : Type 0} {config : Config} {words slots total : ℕ} (id : ℕ) {h : ℕ}
    {me : Me (Option R) (List Known)} {p : Known} → me.0 ≡ p ∷ [] → c ≡ config
    → words ≡ handle_count config → handle_count config ≡ total → h < total → X
    → X × (h < words)
    × Allows (TableInvariant label aim_in Fits c) slots id me h
    (λ n. n) (StepLoadsWord (step slots h 0 0 none) me)
load-is-allowed {config = config} id {h = h} mine key sized all lt x =
    let range : h < handle_count config = subst (λ (z : ℕ). h < z) (sym all) lt in (
      x,
      subst (λ (z : ℕ). h < z) (sym sized) range,
      loads id mine (subst (λ (z : Config). h < handle_count z) (sym key) range),
    )
