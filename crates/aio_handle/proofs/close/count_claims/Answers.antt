use Rattle.std.proofs.Common.{◌≡◌, ◌-◌, ◌^◌, ℕ, min, cond, nat_lt, length, refl, ap, ◌∙◌, arith}
use Rattle.aio_word.specs.declared.Known.{Known}
use Rattle.aio_word.specs.Tokens.{claimed_mark_count}
use Rattle.aio_handle.proofs.ListsOfAllActors.{all-of, counts-on}
use Rattle.aio_handle.proofs.close.count_claims.Goals as goal

pub loop-k-init : goal.loop-k-init
loop-k-init g c = record { backends = refl; runners = refl }

pub loop-k-preserved : goal.loop-k-preserved
loop-k-preserved g c =
    let of-backends : Known → ℕ =
    λ p. cond (nat_lt p.number c.args.config.now.backends) (claimed_mark_count p.marks) 0 in
    let of-runners : Known → ℕ =
    λ p. cond (nat_lt p.number c.args.config.now.backends) 0 (claimed_mark_count p.marks) in
    record {
      backends = counts-on of-backends c.args.actors.now c.loop-k.k c.index-actors-k.result
          c.loop-k.by_backends c.claims-backend.result.0 c.saturating_add-by_backends.result
          c.loop-k-test.true c.index-actors-k.is c.loop-k.invariant.backends
          c.claims-backend.ensures.backend c.saturating_add-by_backends.ensures;
      runners = counts-on of-runners c.args.actors.now c.loop-k.k c.index-actors-k.result
          c.loop-k.by_runners c.claims-backend.result.1 c.saturating_add-by_runners.result
          c.loop-k-test.true c.index-actors-k.is c.loop-k.invariant.runners
          c.claims-backend.ensures.runner c.saturating_add-by_runners.ensures;
    }

pub returns : goal.returns
returns g c =
    let of-backends : Known → ℕ =
    λ p. cond (nat_lt p.number c.args.config.now.backends) (claimed_mark_count p.marks) 0 in
    let of-runners : Known → ℕ =
    λ p. cond (nat_lt p.number c.args.config.now.backends) 0 (claimed_mark_count p.marks) in
    let end : c.loop-k.k ≡ length c.args.actors.now = let past = c.loop-k-test.false in let most =
    c.loop-k.auto.k-end in omega arith in record {
      backends = c.loop-k.invariant.backends ∙ ap (λ n. min n (2 ^ 128 - 1))
          (all-of of-backends c.args.actors.now c.loop-k.k end);
      runners = c.loop-k.invariant.runners ∙ ap (λ n. min n (2 ^ 128 - 1))
          (all-of of-runners c.args.actors.now c.loop-k.k end);
    }
