use Rattle.std.proofs.Common.{◌≡◌, ℕ, ◌≤◌, List, Option, Some, sym, ap, ◌∙◌, subst, arith}
use Rattle.method_ring.specs.declared.ring.Entry.{Entry}
use Rattle.method_ring.specs.Pending.{pending_entry, entry_user, IsFilledBy}
use Rattle.method_ring.specs.SimRing.{IsValidEntry}
use Rattle.aio_word.specs.Stands.{IsIn}
use Rattle.method_ring.proofs.NumberedLookup.{found-in, rest-in}
use Rattle.method_ring.proofs.sim_ring.SimRingRing.fill.Goals as goal

filled-count : (o : Option Entry) (e : Entry) (pages : ℕ) → o ≡ Some e → IsFilledBy o pages
    → pages ≡ e.count
filled-count o e pages is f = subst (λ (z : Option Entry). IsFilledBy z pages) is f

pub read-requires-clause-relation : goal.read-requires-clause-relation
read-requires-clause-relation g c =
    let found = sym c.take_out.ensures.result_is ∙ c.in-Some.is in
    (c.self.invariant.0 c.in-Some.entry
    (found-in entry_user c.args.user c.self.inside.entries.items c.in-Some.entry found)).relation

pub read-requires-clause-some : goal.read-requires-clause-some
read-requires-clause-some g c =
    let found = sym c.take_out.ensures.result_is ∙ c.in-Some.is in
    let read = c.self.invariant.0 c.in-Some.entry
    (found-in entry_user c.args.user c.self.inside.entries.items c.in-Some.entry found) in
    let some = read.at_least_one in
    let n = filled-count _ c.in-Some.entry _
    (ap (λ z. pending_entry c.args.user z.pending) (sym c.self.view_is) ∙ found) c.requires.entry in
    omega arith

pub read-requires-clause-few : goal.read-requires-clause-few
read-requires-clause-few g c =
    let found = sym c.take_out.ensures.result_is ∙ c.in-Some.is in
    let read = c.self.invariant.0 c.in-Some.entry
    (found-in entry_user c.args.user c.self.inside.entries.items c.in-Some.entry found) in
    let few = read.at_most_128 in
    let n = filled-count _ c.in-Some.entry _
    (ap (λ z. pending_entry c.args.user z.pending) (sym c.self.view_is) ∙ found) c.requires.entry in
    omega arith

pub invariant_of-self : goal.invariant_of-self
invariant_of-self g c = (
  (λ e i. subst (λ (n : ℕ). IsValidEntry n e) (sym c.read.ensures.relations)
      (c.self.invariant.0 e (rest-in entry_user c.args.user c.self.inside.entries.items e
      (subst (λ (l : List Entry). IsIn e l) c.take_out.ensures.others i)))),
  subst (λ (n : ℕ). 8 ≤ n) (sym c.take_out.ensures.room) c.self.invariant.1,
  c.self.invariant.2,
)
