use Rattle.read_stream.proofs.stream.ReadStream.may_start_last.Goals as goal

pub returns-then-free-self-clause-front : goal.returns-then-free-self-clause-front
returns-then-free-self-clause-front g c = λ block front free. c.is_front_read.ensures block front
