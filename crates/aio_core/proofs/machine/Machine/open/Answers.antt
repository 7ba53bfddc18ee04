use Rattle.std.proofs.Common.{rules, ◌≡◌, ◌*◌, ◌+◌, [], length, replicate}
use Rattle.aio_word.specs.declared.Config.{Config}
use Rattle.aio_word.specs.Events.{first_word}
use Rattle.aio_core.proofs.OpenedInvariant.{opened-invariant}
use Rattle.aio_core.proofs.machine.Machine.open.Goals as goal

pub invariant_of-result : goal.invariant_of-result
invariant_of-result c =
    let config : Config =
    record {
      backends = c.args.backends;
      per_backend = c.args.per_backend;
      runners =
          c.args.runners;
      start = c.args.start;
    } in
    let words : c.in_ok-words.words.items ≡ replicate (c.args.backends * c.args.per_backend)
    (first_word config) = search rules in
    let lists : c.in_ok-lists.lists.items ≡ replicate (c.args.backends + c.args.runners) [] =
    search rules in
    let one_per_handle : length c.in_ok-last_claimers.last_claimers.items
    ≡ c.args.backends * c.args.per_backend = search rules in
    opened-invariant config c.in_ok-words.words.items c.in_ok-lists.lists.items
    c.in_ok-last_claimers.last_claimers.items
    record {
      some_backends = c.requires.backends.0;
      few_backends = c.requires.backends.1;
      some_handles = c.requires.per_backend.0;
      few_handles = c.requires.per_backend.1;
      few_runners = c.requires.runners;
      start = c.requires.start;
    }
    words lists one_per_handle

pub returns-clause-lawful_machine : goal.returns-clause-lawful_machine
returns-clause-lawful_machine c = (invariant_of-result c).lawful_machine
