use Rattle.std.proofs.Common.{◌≡◌, ◌<◌, ◌++◌, ℕ, false, List, length, take, drop, set, refl, sym}
use Rattle.std.proofs.Common.{ap, ◌∙◌, subst, arith, Some, None, slice_get, OnOk, Result, Ok, Err}
use Rattle.std.proofs.Common.{is_err}
use Rattle.std.proofs.Math.Seq.{take-append_seam}
use Rattle.aio_word.specs.declared.Event.{Event}
use Rattle.aio_word.specs.declared.Mark.{Mark}
use Rattle.aio_word.specs.Events.{machine_after}
use Rattle.aio_core.specs.Allowed.{allowed_next_word, lists_with_mark}
use Rattle.aio_core.specs.Causes.{packed_word_option}
use Rattle.aio_core.specs.Claimers.{MachineInvariant, claimers_after_event}
use Rattle.aio_core.proofs.StepKeepsInvariant.{step-keeps-invariant, word-at, lawful-read}
use Rattle.aio_core.proofs.StepIsMachineStep.{actor-in, machine-after-is, machine-after-none}
use Rattle.aio_core.proofs.machine.Machine.step.Goals as goal

from-ok : {T E : Type 0} (r : Result T E) (P : Type 0) → is_err r ≡ false → OnOk r P → P
from-ok (Ok x) P e h = h
from-ok (Err x) P e h = absurd (cc)

-- what is written back where the whole list was lent
whole : {A : Type 0} (n : ℕ) (xs ys : List A) → length xs ≡ n
    → take n (xs ++ drop (length xs) ys) ≡ xs
whole n xs ys e = ap (λ (k : ℕ). take k (xs ++ drop (length xs) ys)) (sym e)
    ∙ take-append_seam xs (drop (length xs) ys)

pub next_word-requires-clause-lawful : goal.next_word-requires-clause-lawful
next_word-requires-clause-lawful c =
    let inside = c.self.inside in
    lawful-read inside.config inside.words.items inside.lists.items inside.last_claimers.items
    c.args.event.handle c.index.result.now c.self.invariant
    (grind (arith, c.len.ensures, c.if-handle-len.false, inside.words.ok)) c.index.ensures

pub pack-requires : goal.pack-requires
pack-requires c =
    let inside = c.self.inside in
    lawful-read inside.config inside.words.items inside.lists.items inside.last_claimers.items
    c.args.event.handle c.index.result.now c.self.invariant
    (grind (arith, c.len.ensures, c.if-handle-len.false, inside.words.ok)) c.index.ensures

pub returns-in_default-clause-cause : goal.returns-in_default-clause-cause
returns-in_default-clause-cause c =
    let inside = c.self.inside in
    let lt : c.args.event.handle < length inside.words.items =
    grind (arith, c.len.ensures, c.if-handle-len.false, inside.words.ok) in
    let here = word-at inside.words.items c.args.event.handle c.index.result.now lt c.index.ensures
    in
    let there : slice_get c.args.self.now.machine.words c.args.event.handle
    ≡ Some c.index.result.now =
    subst (λ z. slice_get z.machine.words c.args.event.handle
    ≡ Some c.index.result.now) c.self.view_is here in
    let none : allowed_next_word c.args.self.now.config c.args.self.now.machine c.args.event
    c.index.result.now ≡ None = sym c.next_word.ensures ∙ c.in_default.is in (
      refl,
      ap Some (omega (arith, c.pack.ensures))
          ∙ sym (ap packed_word_option there),
      machine-after-none c.args.self.now.config c.args.self.now.machine
          c.args.event c.index.result.now there none,
    )

pub note-requires : goal.note-requires
note-requires c =
    let inside = c.self.inside in
    let some : allowed_next_word inside.config record {
      words = inside.words.items;
      lists =
          inside.lists.items;
    } c.args.event c.index.result.now ≡ Some c.in-Some.next =
    subst (λ z. allowed_next_word z.config z.machine c.args.event c.index.result.now
    ≡ Some c.in-Some.next) (sym c.self.view_is) (sym c.next_word.ensures ∙ c.in-Some.is) in
    let lt = actor-in inside.config record {
      words = inside.words.items;
      lists =
          inside.lists.items;
    } c.args.event c.index.result.now c.in-Some.next some in
    subst (λ (l : List (List Mark)). c.args.event.actor < length l)
    (sym c.deref_mut.ensures.value) lt

-- what the call did is the machine's step, and keeps what a machine keeps
did : (c : goal.After-self-3-1)
    → (machine_after c.self.inside.config record {
      words = c.self.inside.words.items;
      lists =
          c.self.inside.lists.items;
    } c.args.event
    ≡ Some record {
      words = set c.self.inside.words.items c.args.event.handle c.in-Some.next;
      lists = take c.self.inside.lists.len
          (c.note.new.lists ++ drop (length c.note.new.lists) c.self.inside.lists.items);
    })
    × MachineInvariant c.self.inside.config record {
      words =
          set c.self.inside.words.items c.args.event.handle c.in-Some.next;
      lists =
          take c.self.inside.lists.len
          (c.note.new.lists ++ drop (length c.note.new.lists) c.self.inside.lists.items);
    }
    (take c.self.inside.last_claimers.len
    (c.note_claimer.new.claimers ++ drop
    (length c.note_claimer.new.claimers) c.self.inside.last_claimers.items))
did c =
    let inside = c.self.inside in
    let e : Event = c.args.event in
    let lt : e.handle < length inside.words.items =
    grind (arith, c.len.ensures, c.if-handle-len.false, inside.words.ok) in
    let here = word-at inside.words.items e.handle c.index.result.now lt c.index.ensures in
    let some : allowed_next_word inside.config record {
      words = inside.words.items;
      lists =
          inside.lists.items;
    } e c.index.result.now ≡ Some c.in-Some.next =
    subst (λ z. allowed_next_word z.config z.machine c.args.event c.index.result.now
    ≡ Some c.in-Some.next) (sym c.self.view_is) (sym c.next_word.ensures ∙ c.in-Some.is) in
    let failed : is_err c.note.result ≡ false = sym c.is_err.ensures.value ∙ c.if-is_err.false in
    let raw = from-ok c.note.result _ failed c.note.ensures.ok in
    let long : length c.note.new.lists ≡ inside.lists.len =
    omega (arith, c.note.auto.lists, c.deref_mut.ensures.len, inside.lists.ok.0) in
    let lists = whole inside.lists.len c.note.new.lists inside.lists.items long
    ∙ (raw ∙ (λ k. lists_with_mark (c.deref_mut.ensures.value k) e.actor e.handle e.generation
    (c.left_by-kind.ensures k) (slice_get (c.deref_mut.ensures.value k) e.actor))) in
    let long' : length c.note_claimer.new.claimers ≡ inside.last_claimers.len =
    omega (
      arith,
      c.note_claimer.auto.claimers,
      c.deref_mut-2.ensures.len,
      inside.last_claimers.ok.0,
    ) in
    let claimers = whole inside.last_claimers.len c.note_claimer.new.claimers
    inside.last_claimers.items long'
    ∙ (c.note_claimer.ensures
    ∙ ap (λ (l : List ℕ). claimers_after_event l e) c.deref_mut-2.ensures.value) in
    step-keeps-invariant inside.config inside.words.items inside.lists.items _
    inside.last_claimers.items _ e
    c.index.result.now c.in-Some.next c.self.invariant here some lists claimers

pub invariant_of-self-2 : goal.invariant_of-self-2
invariant_of-self-2 c = (did c).1

pub returns-clause-new_machine : goal.returns-clause-new_machine
returns-clause-new_machine c = subst (λ z. machine_after z.config z.machine c.args.event
    ≡ Some record {
      words = set c.self.inside.words.items c.args.event.handle c.in-Some.next;
      lists = take c.self.inside.lists.len
          (c.note.new.lists ++ drop (length c.note.new.lists) c.self.inside.lists.items);
    })
    c.self.view_is (did c).0

pub returns-clause-lawful_machine : goal.returns-clause-lawful_machine
returns-clause-lawful_machine c = (did c).1.lawful_machine

pub returns-then-is_err-clause-cause : goal.returns-then-is_err-clause-cause
returns-then-is_err-clause-cause c =
    let inside = c.self.inside in
    let lt : c.args.event.handle < length inside.words.items =
    grind (arith, c.len.ensures, c.if-handle-len.false, inside.words.ok) in
    let here = word-at inside.words.items c.args.event.handle c.index.result.now lt c.index.ensures
    in
    let there : slice_get c.args.self.now.machine.words c.args.event.handle
    ≡ Some c.index.result.now =
    subst (λ z. slice_get z.machine.words c.args.event.handle
    ≡ Some c.index.result.now) c.self.view_is here in (
      _,
      machine-after-is c.args.self.now.config c.args.self.now.machine c.args.event
          c.index.result.now there
          c.in-Some.next (sym c.next_word.ensures ∙ c.in-Some.is),
    )
