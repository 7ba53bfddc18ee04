use Rattle.std.proofs.Common.{refl, rules}
use Rattle.read_stream.proofs.blocks.Blocks.take.Goals as goal

pub returns : goal.returns
returns g c = record {
  taken = record {
    asked = record {
      block = c.args.block;
      per_buffer_data = c.args.per_buffer_data;
      want = c.want_of-want.result;
    };
    item = refl;
    want = c.want_of-want.ensures;
    queue = search rules;
    plan = search rules;
    over = search rules;
    is_run = c.plan_block-run.ensures.run;
    reads = search rules;
  };
}
