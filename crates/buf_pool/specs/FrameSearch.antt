-- What a search over the frames looks for.
use Rattle.std.specs.Prelude.{◌≡◌, ℕ, ◌<◌, Bool, true, false, List, Option, length, MatchOption}
use Rattle.buf_pool.specs.declared.descriptor.Descriptor.{Descriptor}
use Rattle.buf_pool.specs.declared.strategy.FrameKind.{FrameKind}
use Rattle.buf_pool.specs.declared.strategy.FrameKind.TheVariants.{FreeFrame, UnpinnedFrame}
use Rattle.buf_pool.specs.Frames.{descriptor_at, is_free, is_unpinned}

-- whether a frame is such a one
abbrev pub is_of_kind : FrameKind → Descriptor → Bool
is_of_kind FreeFrame frame = is_free frame
is_of_kind UnpinnedFrame frame = is_unpinned frame

-- a search answers a frame that passes the test, and None exactly where no frame passes
abbrev pub IsSearchAnswer : (Descriptor → Bool) → List Descriptor → Option ℕ → Type 0
IsSearchAnswer test frames answer =
    MatchOption answer
    ((f : ℕ) → f < length frames → test (descriptor_at frames f) ≡ false)
    (λ f. (f < length frames) × (test (descriptor_at frames f) ≡ true))
