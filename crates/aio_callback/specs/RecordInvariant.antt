-- What is true of the fields of every record.
use Rattle.std.specs.Prelude.{vec_capacity, ◌⊎◌, []}
use Rattle.std.specs.Prelude.{◌≡◌, ◌+◌, ◌^◌, ◌≤◌, ◌<◌, true, length, IfSome, take, ◌≢◌}
use Rattle.aio_word.specs.declared.Class.TheVariants.{Unended}
use Rattle.read_callbacks.specs.Chain.{IsWithin, good_count}
use Rattle.aio_callback.specs.declared.record.ReadIo.TheInside.{Inside}

pub record RecordInvariant (r : Inside) : Type 0 where
  pub few : r.id_count ≤ 4
  pub most : r.room ≤ 128
  pub capacity : r.room ≤ vec_capacity r.pages
  pub room_or_none : (r.pages.items ≡ []) ⊎ (length r.pages.items ≡ r.room)
  pub marks : length r.marks.items ≡ r.room
  pub within : r.count ≤ r.room
  pub in_range : r.first + r.count ≤ 2 ^ 32
  pub some : r.aimed ≡ true → 0 < r.count
  pub answered : IfSome r.raw (λ a. IsWithin r.count a)
  pub read : r.label.ended ≢ Unended → length r.pages.items ≡ r.room
  pub good : r.label.ended ≢ Unended → good_count (take r.id_count r.ids) r.result ≤ r.count
