use Rattle.record_tests.proofs.disk.given_pages.Goals as goal

pub returns-clause-case : goal.returns-clause-case
returns-clause-case g c =
    c.stream_records_end_in_six_ways.ensures.case g.W.World.told g.W.World.relations c.args.io.now
    c.args.damaged c.requires.fits c.requires.ended c.requires.ids
