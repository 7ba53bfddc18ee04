use Rattle.std.proofs.Common.{◌≡◌, [], ◌∷◌, ◌++◌, length, ℕ, arith, ap, sym, ◌∙◌, List, subst}
use Rattle.std.proofs.Common.{replicate, length-append}
use Rattle.aio_word.specs.Stands.{IsIn}
use Rattle.aio_callback.specs.ReadIoView.{ReadIoView}
use Rattle.circular_buffer.specs.Buffer.{Buffer}
use Rattle.std.proofs.lemmas.List.{length-replicate}
use Rattle.read_stream.proofs.PushedList.{each-pushed}
use Rattle.read_stream.proofs.reads.Reads.make.Goals as goal

abbrev blank : List ℕ
blank = replicate 8192 0

pub loop-preserved : goal.loop-preserved
loop-preserved g c =
    let r : ReadIoView = c.in_ok-record.record in
    let xs : List ReadIoView = c.loop.free.items in
    let is : c.push.new.queue ≡ record { items = xs ++ r ∷ []; capacity = c.loop.free.capacity } =
    c.push.ensures in
    let items : c.push.new.queue.items ≡ xs ++ r ∷ [] = ap (λ (z : Buffer ReadIoView). z.items) is
    in
    let cap : c.push.new.queue.capacity ≡ c.loop.free.capacity =
    ap (λ (z : Buffer ReadIoView). z.capacity) is in
    let more = length-append xs (r ∷ []) in
    let whole : length c.push.new.queue.items ≡ length (xs ++ r ∷ []) =
    ap (λ (z : List ReadIoView). length z) items in
    let was = c.loop.invariant.1 in
    let room : length r.pages ≡ c.args.room =
    ap (λ (z : ReadIoView). length z.pages) c.in_ok-record.ensures
    ∙ length-replicate c.args.room blank in (
      cap ∙ c.loop.invariant.0,
      omega arith,
      subst (λ (z : List ReadIoView). (y : ReadIoView) → IsIn y z → length y.pages ≡ c.args.room)
          (sym items)
          (each-pushed (λ y. length y.pages ≡ c.args.room) xs r c.loop.invariant.2 room),
    )
