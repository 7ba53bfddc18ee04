-- What a stream reads with, before a call and after it.
use Rattle.std.specs.Prelude.{◌≡◌, ◌<◌}
use Rattle.page_check.specs.declared.world.World.{Ghosts as WorldGhosts}
use Rattle.aio_handle.specs.ContractViews.{IsActorOf}
use Rattle.aio_handle.specs.declared.execute.Execute.{Ghosts as ExecuteGhosts}
use Rattle.aio_batch.specs.declared.method.Method.{Ghosts as MethodGhosts}
use Rattle.aio_callback.specs.ReadIoView.{ReadIoView}
use Rattle.read_stream.specs.declared.io_context.IoContext.{IoContext}
use Rattle.read_stream.specs.declared.scope.Scope.{Scope}
use Rattle.read_stream.specs.StreamViews.{CallAdvanced}

module _ {W M E : Type 0} (execute : ExecuteGhosts E ReadIoView W) where
  -- the actor is a backend of the table, the one that opened the stream, and its executor reads
  -- what the stream reads
  pub record IsValidContext (world : WorldGhosts W) (c : Scope W) (context : IoContext W M E)
      : Type 0 where
    pub table : IsActorOf context.table.now context.actor.now
    pub scope : IsActorOf context.table.now c.was.value
    pub backend : context.actor.now.known.number < context.table.now.config.backends
    pub told : (execute.told context.runner.now ≡ world.told)
        × (execute.relations context.runner.now ≡ world.relations)

  -- the same after a call, in which the actor and the executor advanced
  pub record ContextAdvanced (by : MethodGhosts M ReadIoView W) (old new : IoContext W M E)
      : Type 0 where
    pub table : new.table ≡ old.table
    pub actor : new.actor.ghost_name ≡ old.actor.ghost_name
    pub method : new.method.ghost_name ≡ old.method.ghost_name
    pub runner : new.runner.ghost_name ≡ old.runner.ghost_name
    pub advanced : CallAdvanced execute by old.actor.now new.actor.now old.runner.now
        new.runner.now old.method.now new.method.now
