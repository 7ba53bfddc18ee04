use Rattle.std.proofs.Common.{◌≡◌, length, ap, arith}
use Rattle.stream_tests.proofs.helpers.listed_streams.pages_of.Goals as goal

pub open-stream-requires-clause-room : goal.open-stream-requires-clause-room
open-stream-requires-clause-room g c =
    let long : length c.new.result ≡ length c.args.list.items =
    ap (λ z. length z) c.new.ensures in
    (c.room-room.result, c.room-room.ensures, omega arith)
