use denote.Param.Send.{sendable}
use Rattle.scan_rounds.proofs.beside.lead_beside.Goals as goal

pub join_mut-requires-after_bounds : goal.join_mut-requires-after_bounds
join_mut-requires-after_bounds g c κs within = let bounds = c.type_bounds in (
  (
    (search sendable, c.requires.serve, c.requires.may.exchange.terms),
    (search sendable, search sendable, search sendable, search sendable),
  ),
  (
    (search sendable, c.requires.may),
    (search sendable, search sendable, search sendable, search sendable),
  ),
)
