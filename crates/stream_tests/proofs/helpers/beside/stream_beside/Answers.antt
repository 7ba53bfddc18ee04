use Rattle.std.proofs.Common.{◌≡◌, length, ap, arith}
use Rattle.stream_tests.proofs.helpers.beside.stream_beside.Goals as goal

pub open-stream-requires-clause-room : goal.open-stream-requires-clause-room
open-stream-requires-clause-room g c =
    let long : length c.new-blocks.result ≡ length c.in_ok-list.list.items =
    ap (λ z. length z) c.new-blocks.ensures in
    (c.room-room.result, c.room-room.ensures, omega arith)
