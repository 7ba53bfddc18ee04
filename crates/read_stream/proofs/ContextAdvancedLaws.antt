-- Calls with the same context, one after the other.
use Rattle.std.proofs.Common.{◌≡◌, ◌<◌, refl, sym, subst, ◌∙◌}
use Rattle.page_check.specs.declared.world.World.{Ghosts as WorldGhosts}
use Rattle.aio_handle.specs.ContractViews.{IsActorOf, IsSameActor, ActorView}
use Rattle.aio_handle.specs.declared.execute.Execute.{Ghosts as ExecuteGhosts}
use Rattle.aio_batch.specs.declared.method.Method.{Ghosts as MethodGhosts}
use Rattle.aio_callback.specs.ReadIoView.{ReadIoView}
use Rattle.read_stream.specs.declared.io_context.IoContext.{IoContext}
use Rattle.read_stream.specs.declared.scope.Scope.{Scope}
use Rattle.read_stream.specs.IoContexts.{IsValidContext, ContextAdvanced}
use Rattle.read_stream.specs.StreamViews.{CallAdvanced}
use Rattle.read_stream.specs.ActorProgress.{ActorAdvanced}
use Rattle.read_stream.proofs.ActorAdvancedLaws.{advanced_nothing, advanced_then}

module _ {W M E : Type 0} {execute : ExecuteGhosts E ReadIoView W}
    {by : MethodGhosts M ReadIoView W} where
  pub call_then : {a b c : ActorView} {r s t : E} {u v w : M} → CallAdvanced execute by a b r s u v
      → CallAdvanced execute by b c s t v w → CallAdvanced execute by a c r t u w
  call_then {a} {b} {c} x y = record {
    same = (y.same.0 ∙ x.same.0, y.same.1 ∙ x.same.1, y.same.2 ∙ x.same.2);
    told = (y.told.0 ∙ x.told.0, y.told.1 ∙ x.told.1);
    actor_advanced = advanced_then a.known b.known c.known _ _ _ _ _ _ x.actor_advanced
        y.actor_advanced;
    stands_on = y.stands_on ∙ x.stands_on;
  }

  pub call_nothing : (a : ActorView) (r : E) (u : M) → CallAdvanced execute by a a r r u u
  call_nothing a r u = record {
    same = (refl, refl, refl);
    told = (refl, refl);
    actor_advanced = advanced_nothing a.known _ _;
    stands_on = refl;
  }

  -- the later call, and the one before it
  pub context_advanced_then : {x y z : IoContext W M E} → ContextAdvanced execute by y z
      → ContextAdvanced execute by x y → ContextAdvanced execute by x z
  context_advanced_then b a = record {
    table = b.table ∙ a.table;
    actor = b.actor ∙ a.actor;
    method = b.method ∙ a.method;
    runner = b.runner ∙ a.runner;
    advanced = call_then a.advanced b.advanced;
  }

  pub valid_context_then : {world : WorldGhosts W} {c : Scope W} {x y : IoContext W M E}
      → IsValidContext execute world c x → ContextAdvanced execute by x y
      → IsValidContext execute world c y
  valid_context_then {world} {c} {x} {y} h k =
      let a = k.advanced in record {
        table = subst (λ z. IsActorOf z.now y.actor.now) (sym k.table)
            (a.same.0 ∙ h.table.0, a.same.1 ∙ h.table.1);
        scope = subst (λ z. IsActorOf z.now c.was.value) (sym k.table) h.scope;
        backend = subst (λ z. z < y.table.now.config.backends) (sym a.same.2)
            (subst (λ z. x.actor.now.known.number < z.now.config.backends) (sym k.table) h.backend);
        told = (a.told.0 ∙ h.told.0, a.told.1 ∙ h.told.1);
      }

  -- a call of another crate, by which the actor, the method and the executor advanced
  pub context_advanced_by : (x : IoContext W M E) (a : ActorView) (m : M) (e : E)
      → IsSameActor x.actor.now a → (execute.told e ≡ execute.told x.runner.now)
      × (execute.relations e ≡ execute.relations x.runner.now)
      → ActorAdvanced x.actor.now.known a.known (execute.reads x.runner.now) (execute.reads e)
      (execute.faults x.runner.now) (execute.faults e)
      → by.stands_on m ≡ by.stands_on x.method.now
      → ContextAdvanced execute by x (record x {
        actor = record x.actor { now = a };
        method = record x.method { now = m };
        runner = record x.runner { now = e };
      })
  context_advanced_by x a m e same told actor_advanced stands = record {
    table = refl;
    actor = refl;
    method = refl;
    runner = refl;
    advanced = record {
      same = same;
      told = told;
      actor_advanced = actor_advanced;
      stands_on = stands;
    };
  }

  pub context_advanced_refl : (x : IoContext W M E) → ContextAdvanced execute by x x
  context_advanced_refl x = record {
    table = refl;
    actor = refl;
    method = refl;
    runner = refl;
    advanced = call_nothing x.actor.now x.runner.now x.method.now;
  }
