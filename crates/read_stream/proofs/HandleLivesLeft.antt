-- How many lives an actor's handles have left.
use Rattle.std.proofs.Common.{ℕ, ◌^◌, ◌<◌, ◌≤◌, arith}
use Rattle.aio_word.specs.declared.Config.{Config}
use Rattle.aio_word.specs.declared.Known.{Known}
use Rattle.aio_handle.specs.FreeHandles.{IsRoom}

pub room_below : (c : Config) (p : Known) (room : ℕ) → p.number < c.backends → IsRoom c p room
    → room < 2 ^ 58
room_below c p room backend r = let e = r.exact backend in let f = e.3 in omega arith

pub room_is_one : (c : Config) (p : Known) (room other : ℕ) → p.number < c.backends
    → IsRoom c p room → IsRoom c p other → other ≤ room
room_is_one c p room other backend r s =
    let e = r.exact backend in
    let f = s.for_each e.0 e.1 e.2 in
    let g = e.3 in omega arith
