-- Pieces of a fixed size, of which only the end counts.
use Rattle.std.proofs.Common.{◌≡◌, ℕ, ◌+◌, ◌-◌, ◌≤◌, List, ◌++◌, length, take, drop, ap, ◌∙◌, arith}
use Rattle.std.proofs.Common.{drop-drop, length-take}
use Rattle.std.proofs.Math.Seq.{drop-append-add}
use Rattle.std.proofs.lemmas.List.{drop-append-le}
use Rattle.std.proofs.lemmas.Simd.{put_chunk_is}
use lib.Lanes.{put_chunk}

-- what stands from its last `len` bytes on, where a piece of `size` bytes was stored to end at `end`
pub drop-put_chunk : (end size len : ℕ) (buf piece : List ℕ) → length piece ≡ size → size ≤ end
    → end ≤ length buf → len ≤ size
    → drop (end - len) (put_chunk (end - size) buf piece) ≡ drop (size - len) piece ++ drop end buf
drop-put_chunk end size len buf piece is room within few =
    let front = take (end - size) buf in
    let rest = drop (length piece) (drop (end - size) buf) in
    let there : end - len ≡ length front + (size - len) =
    omega (arith, length-take (end - size) buf) in
    let last : end - size + length piece ≡ end = omega arith in
    ap (drop (end - len)) (put_chunk_is (end - size) buf piece (omega arith))
    ∙ ap (λ (n : ℕ). drop n (front ++ (piece ++ rest))) there
    ∙ drop-append-add front (piece ++ rest) (size - len)
    ∙ drop-append-le (size - len) piece rest (omega arith)
    ∙ ap (λ (behind : List ℕ). drop (size - len) piece ++ behind)
    (drop-drop (length piece) (end - size) buf ∙ ap (λ (n : ℕ). drop n buf) last)
