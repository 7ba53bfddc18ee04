use Rattle.aio_callback.proofs.StreamReadEnds.{six_ways, all_given}
use Rattle.aio_callback.proofs.MarksAllowed.{marks_allowed}
use Rattle.aio_callback.proofs.laws.stream_records_end_in_six_ways.Goals as goal

pub returns-clause-case : goal.returns-clause-case
returns-clause-case c told relations r damaged = six_ways told r relations damaged

pub returns-clause-given : goal.returns-clause-given
returns-clause-given c = all_given

pub returns-clause-marks : goal.returns-clause-marks
returns-clause-marks c = marks_allowed
