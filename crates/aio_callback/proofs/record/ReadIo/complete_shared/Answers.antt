use Rattle.std.proofs.Common.{arith}
use Rattle.aio_callback.proofs.AnswerCompletes.{completed_after, fits_after, aim_after}
use Rattle.aio_callback.proofs.record.ReadIo.complete_shared.Goals as goal

pub finish_all-requires-clause-few : goal.finish_all-requires-clause-few
finish_all-requires-clause-few g c =
    let e = c.run_shared.ensures in
    let d = completed_after g.W.World.told c.args.self.now c.run_shared.new.self
    c.requires.answered e.value e.room.0 in
    let few = d.few in
    let room = e.room.1 in
    omega arith

pub finish_all-requires-clause-good : goal.finish_all-requires-clause-good
finish_all-requires-clause-good g c =
    let e = c.run_shared.ensures in
    (completed_after g.W.World.told c.args.self.now c.run_shared.new.self
    c.requires.answered e.value e.room.0).good

pub returns-clause-completed : goal.returns-clause-completed
returns-clause-completed g c =
    let e = c.run_shared.ensures in
    completed_after g.W.World.told c.args.self.now c.run_shared.new.self
    c.requires.answered e.value e.room.0

pub returns-clause-fits : goal.returns-clause-fits
returns-clause-fits g c relations aimed within =
    let e = c.run_shared.ensures in
    fits_after g.W.World.told relations c.args.self.now c.run_shared.new.self
    c.requires.answered e.value e.room.0 aimed (e.some aimed) within

pub returns-clause-aim : goal.returns-clause-aim
returns-clause-aim g c =
    aim_after g.W.World.told c.args.self.now c.run_shared.new.self c.requires.answered
    c.run_shared.ensures.value
