-- How far the streams of a desk have come in a relation, and with which distance the next begins.
use Rattle.std.specs.Prelude.{ℕ, ◌+◌, ◌-◌, ◌^◌, ◌==◌, ◌&&◌, nat_le, nat_lt, min, if◌then◌else◌}
use Rattle.read_stream.specs.declared.reached.Reached.{Reached}

-- no stream has read anything
abbrev pub nothing_reached : Reached
nothing_reached = record { relation = 0; next = 0; blocks = 0; distance = 1 }

-- how many blocks were read before this one: none in another relation, or where the last stream
-- ended behind it
abbrev pub blocks_before : Reached → ℕ → ℕ → ℕ
blocks_before r relation first =
    if (r.relation == relation) && nat_le r.next first then r.blocks else 0

-- the distance with which a stream begins that has so many blocks before it: that of the last one
-- at its end, or behind fewer than 256 blocks 1, as after read_stream_reset of read_stream.c
abbrev pub first_distance : ℕ → ℕ → ℕ
first_distance before distance = if nat_lt before 256 then 1 else distance

-- one stream more has so many blocks of the relation to read, from the first one on
abbrev pub reached_by : Reached → ℕ → ℕ → ℕ → ℕ → Reached
reached_by r relation first count distance = record {
  relation = relation;
  next = first + count;
  blocks = min (blocks_before r relation first + count) (2 ^ 64 - 1);
  distance = first_distance (blocks_before r relation first) distance;
}
