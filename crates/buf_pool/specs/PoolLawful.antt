-- What holds of the index of the pool whenever its lock is free.
use Rattle.std.specs.Prelude.{◌≡◌, ℕ, ◌<◌, List, Some}
use Rattle.aio_word.specs.declared.WaitRef.{WaitRef}
use Rattle.buf_pool.specs.declared.descriptor.Tag.{Tag}
use Rattle.buf_pool.specs.declared.descriptor.Descriptor.{Descriptor}
use Rattle.buf_pool.specs.declared.descriptor.Descriptor.TheVariants.{InProgress}
use Rattle.buf_pool.specs.Frames.{descriptor_at, tag_at}

-- No two frames have one tag, and the reference of an entry in progress is in range. By the form of
-- the list frames are distinct, and an entry in progress has one reference and no pins.
pub record PoolLawful (handles : ℕ) (frames : List Descriptor) : Type 0 where
  pub tags : (f g : ℕ) (tag : Tag)
      → tag_at frames f ≡ Some tag → tag_at frames g ≡ Some tag → f ≡ g
  pub references : (f : ℕ) (tag : Tag) (reference : WaitRef)
      → descriptor_at frames f ≡ InProgress tag reference → reference.handle < handles
