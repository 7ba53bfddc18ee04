-- The backend of a new table is at rest, and has all its lives left.
use Rattle.std.proofs.Common.{◌≡◌, ◌<◌, List, [], ◌∷◌, ◌++◌, length, refl, sym, ap, subst, arith}
use Rattle.std.proofs.Common.{length-append}
use Rattle.aio_word.specs.declared.Config.{Config}
use Rattle.aio_word.specs.Words.{last_generation}
use Rattle.aio_word.specs.Events.{actor_count}
use Rattle.aio_handle.specs.ContractViews.{TableView, ActorView, AreNewActors}
use Rattle.aio_handle.specs.FreeHandles.{IsRoom}
use Rattle.aio_handle.specs.TableInvariant.{initial_known}
use Rattle.page_reader.specs.Readers.{IsAtRest}

abbrev new_actor : TableView → ActorView
new_actor t = record { table = t.table; known = initial_known t.config 0 }

-- the only actor of a new table is that of number 0
pub only_actor : (t : TableView) (actors rest : List ActorView) (a : ActorView)
    → actors ≡ rest ++ a ∷ [] → length actors ≡ 1 → AreNewActors t 0 actors → a ≡ new_actor t
only_actor t actors [] a is one all =
    let here = subst (λ (l : List ActorView). AreNewActors t 0 l) is all in
    here 0 a (omega arith)
only_actor t actors (b ∷ rest) a is one all =
    absurd (omega (arith, ap length is, length-append rest (a ∷ [])))

module _ (t : TableView)
    (is : t.config ≡ record { backends = 1; per_backend = 64; runners = 0; start = 0 }) where
  pub new_rests : IsAtRest t (new_actor t)
  new_rests = record {
    of = (refl, refl);
    alone = ap actor_count is;
    backend = subst (λ (c : Config). 0 < c.backends) (sym is) (omega arith);
    no_owner_tokens = (refl, λ t. omega arith);
  }

  pub new_lives : IsRoom t.config (initial_known t.config 0) last_generation
  new_lives = subst (λ (c : Config). IsRoom c (initial_known c 0) last_generation) (sym is) record {
    of_runner = λ runner. absurd (omega arith);
    for_each = λ h lt own. omega arith;
    exact = λ backend. (0, omega arith, refl, omega arith);
  }
