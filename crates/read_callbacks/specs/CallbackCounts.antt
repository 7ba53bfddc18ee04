-- What the local callbacks count.
use Rattle.std.specs.Prelude.{◌+◌, ◌-◌, ◌^◌, min, List, [], ◌∷◌}
use Rattle.aio_result.specs.declared.AioResult.{AioResult}
use Rattle.read_callbacks.specs.declared.chain.CallbackId.{CallbackId}
use Rattle.read_callbacks.specs.declared.chain.CallbackId.TheVariants.{File, Buffer, Count}
use Rattle.read_callbacks.specs.declared.chain.CallbackId.TheVariants.{ZeroBuffer, MarkBuffer}
use Rattle.read_callbacks.specs.declared.callback_counts.Counts.{Counts}
use Rattle.read_callbacks.specs.Chain.{natural_part}

-- one I/O more, and as many blocks as the result says; each number stays at its last value
abbrev pub counts_after_callback : AioResult → Counts → Counts
counts_after_callback r c = record {
  ios = min (c.ios + 1) (2 ^ 64 - 1);
  blocks = min (c.blocks + natural_part r.result) (2 ^ 64 - 1);
}

-- each registered Count counts
abbrev pub counts_after : List CallbackId → AioResult → Counts → Counts
counts_after [] r c = c
counts_after (Count ∷ ids) r c = counts_after ids r (counts_after_callback r c)
counts_after (File ∷ ids) r c = counts_after ids r c
counts_after (Buffer ∷ ids) r c = counts_after ids r c
counts_after (ZeroBuffer ∷ ids) r c = counts_after ids r c
counts_after (MarkBuffer ∷ ids) r c = counts_after ids r c
