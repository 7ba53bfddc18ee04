use Rattle.std.proofs.Common.{◌≡◌, ℕ, ◌+◌, List, [], ◌∷◌, ◌++◌, length, sym, ap, ◌∙◌, subst, arith}
use Rattle.std.proofs.Common.{length-append}
use Rattle.aio_handle.specs.TableInvariant.{initial_known}
use Rattle.aio_handle.specs.ContractViews.{TableView, ActorView, AreNewActors}
use Rattle.aio_handle.proofs.NewTableMeetsInvariant.{push-old, push-last}
use Rattle.aio_fixtures.proofs.actors.last_actor.Goals as goal

new-before : (t : TableView) (xs ys : List ActorView) (x : ActorView) → ys ≡ xs ++ x ∷ []
    → AreNewActors t 0 ys
    → AreNewActors t 0 xs
new-before t xs ys x e all i d lt = let a : AreNewActors t 0 (xs ++ x ∷ []) = subst
    (λ (z : List ActorView). AreNewActors t 0 z) e all in
    sym (push-old xs x d i lt) ∙ a i d (omega (arith, length-append xs (x ∷ [])))

new-last : (t : TableView) (xs ys : List ActorView) (x : ActorView) → ys ≡ xs ++ x ∷ []
    → AreNewActors t 0 ys
    → x ≡ record { table = t.table; known = initial_known t.config (length xs) }
new-last t xs ys x e all = let a : AreNewActors t 0 (xs ++ x ∷ []) = subst
    (λ (z : List ActorView). AreNewActors t 0 z) e all in
    sym (push-last xs x x) ∙
    (a (length xs) x (omega (arith, length-append xs (x ∷ []))) ∙ ap
    (λ (n : ℕ). record { table = t.table; known = initial_known t.config n })
    (let same : 0 + length xs ≡ length xs = omega arith in same))

pub returns-in-Some-clause-left : goal.returns-in-Some-clause-left
returns-in-Some-clause-left g c =
    new-before c.args.table.now c.pop.new.self.items c.args.actors.now.items c.in-Some.actor
    c.in-Some.ensures.items c.requires

pub returns-in-Some-clause-actor : goal.returns-in-Some-clause-actor
returns-in-Some-clause-actor g c =
    new-last c.args.table.now c.pop.new.self.items c.args.actors.now.items c.in-Some.actor
    c.in-Some.ensures.items c.requires
