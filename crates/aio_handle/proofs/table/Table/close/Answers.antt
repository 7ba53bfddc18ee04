use Rattle.std.proofs.Common.{◌≡◌, ◌+◌, ◌-◌, ◌^◌, ◌<◌, ℕ, min, map, ap, ◌∙◌, refl, arith}
use Rattle.aio_word.specs.Totals.{by_backends, by_runners, incarnations}
use Rattle.aio_handle.specs.ContractViews.{actor_known}
use Rattle.aio_handle.proofs.table.Table.close.Goals as goal

pub returns : goal.returns
returns g c =
    let config : c.self.inside.config ≡ c.args.self.config = ap (λ x. x.config) c.self.view_is in
    let parts = c.as_slice.ensures.value in
    let backends : ℕ = by_backends c.args.self.config (map actor_known c.args.actors.items) in
    let runners : ℕ = by_runners c.args.self.config (map actor_known c.args.actors.items) in
    let small : backends + runners < 2 ^ 128 - 1 = c.end.ensures.small in
    let b : c.count_claims-by_backends.result.0 ≡ min backends (2 ^ 128 - 1) =
    c.count_claims-by_backends.ensures.backends ∙
    (λ k. min (by_backends (config k) (map actor_known (parts k))) (2 ^ 128 - 1)) in
    let r : c.count_claims-by_backends.result.1 ≡ min runners (2 ^ 128 - 1) =
    c.count_claims-by_backends.ensures.runners ∙
    (λ k. min (by_runners (config k) (map actor_known (parts k))) (2 ^ 128 - 1)) in
    let b' : c.count_claims-by_backends.result.0 ≡ backends = omega arith in
    let r' : c.count_claims-by_backends.result.1 ≡ runners = omega arith in
    let totals_agree : incarnations c.args.self.config c.end.ensures.end_state.words ≡ backends + runners =
    c.end.ensures.end_state.totals_agree in record {
      end_state = c.end.ensures.end_state;
      incarnations_are = omega arith;
      by_backends_are = b';
      by_runners_are = r';
      sum = refl;
    }
