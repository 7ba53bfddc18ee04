-- The machine after one event more of a list.
use Rattle.std.proofs.Common.{◌≡◌, ℕ, ◌+◌, ◌<◌, suc, List, [], ◌∷◌, ◌++◌, length, take, get_or}
use Rattle.std.proofs.Common.{refl, ap, ◌∙◌, arith, Option, Some, None}
use Rattle.std.proofs.Math.Seq.{take-suc}
use Rattle.aio_word.specs.declared.Config.{Config}
use Rattle.aio_word.specs.declared.Event.{Event}
use Rattle.aio_word.specs.Events.{Machine, machine_after}
use Rattle.aio_core.specs.AfterEvents.{after_events, machine_after_all}

after_events-push : (c : Config) (o : Option Machine) (events : List Event) (e : Event)
    → after_events c o (events ++ e ∷ []) ≡ after_events c (after_events c o events) (e ∷ [])
after_events-push c None events e = refl
after_events-push c (Some m) [] e = refl
after_events-push c (Some m) (x ∷ events) e = after_events-push c (machine_after c m x) events e

pub machine-after-one-more : (c : Config) (m m' m'' : Machine) (events : List Event) (i : ℕ)
    (d : Event)
    → i < length events → machine_after_all c m (take i events) ≡ Some m'
    → machine_after c m' (get_or events i d) ≡ Some m'' → machine_after_all c m
    (take (i + 1) events) ≡ Some m''
machine-after-one-more c m m' m'' events i d lt before step =
    let one : i + 1 ≡ suc i = omega arith in
    ap (λ (n : ℕ). machine_after_all c m (take n events)) one
    ∙ (ap (λ (l : List Event). machine_after_all c m l) (take-suc events i d lt)
    ∙ (after_events-push c (Some m) (take i events) (get_or events i d)
    ∙ (ap (λ (o : Option Machine). after_events c o (get_or events i d ∷ [])) before
    ∙ ap (λ (o : Option Machine). after_events c o []) step)))
