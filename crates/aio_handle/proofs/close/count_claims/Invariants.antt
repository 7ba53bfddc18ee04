use Rattle.std.proofs.Common.{◌≡◌, ◌-◌, ◌^◌, min, cond, nat_lt}
use Rattle.aio_word.specs.declared.Known.{Known}
use Rattle.aio_word.specs.Tokens.{claimed_mark_count}
use Rattle.aio_handle.proofs.ListsOfAllActors.{so-far}
use Rattle.aio_handle.proofs.close.count_claims.Given as goal

abbrev pub invariant-loop-k : goal.invariant-loop-k
invariant-loop-k g l = record {
  backends : l.by_backends ≡ min
      (so-far (λ (p : Known). cond (nat_lt p.number l.config.backends)
      (claimed_mark_count p.marks) 0) l.actors l.k) (2 ^ 128 - 1);
  runners : l.by_runners ≡ min
      (so-far (λ (p : Known). cond (nat_lt p.number l.config.backends) 0
      (claimed_mark_count p.marks)) l.actors l.k) (2 ^ 128 - 1);
}
