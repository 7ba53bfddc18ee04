use Rattle.std.proofs.Common.{arith}
use Rattle.scan_rounds.proofs.backend.Backend.read_map.Goals as goal

pub read_map-requires-clause-may : goal.read_map-requires-clause-may
read_map-requires-clause-may g c κs within =
    let is = c.requires.is in
    let (room, own, enough) = c.requires.room in
    let few = c.pages-pages.ensures.few in record {
      disk_actor = is.disk_actor;
      backend = is.backend;
      room = (room, own, omega arith);
      desk = is.desk;
      relation_in = c.requires.relation;
      within = omega arith;
    }
