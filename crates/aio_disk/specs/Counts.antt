-- Counts of faults, of reads and of the like. The code keeps each in 64 bits, and it stays at its
-- last value once it is there.
use Rattle.std.specs.Prelude.{◌≡◌, ℕ, ◌+◌, ◌-◌, ◌^◌, ◌≤◌, ◌<◌, min, max, Result, OnErr}

-- the count with so many more: it never falls, and stays where it is once it is at its last value
abbrev pub count_plus : ℕ → ℕ → ℕ
count_plus more before = max before (min (before + more) (2 ^ 64 - 1))

-- the count has risen, or stands at its last value
abbrev pub CountRose : ℕ → ℕ → Type 0
CountRose before now = count_plus 1 before ≤ now

-- the count did not fall, and an error comes only where it rose
pub record HasCause {T E : Type 0} (before now : ℕ) (result : Result T E) : Type 0 where
  pub later : before ≤ now
  pub failed : OnErr result (CountRose before now)

-- the count rose where another is above 0, and stayed where that is 0
pub record RisesIfPositive (other before now : ℕ) : Type 0 where
  pub later : before ≤ now
  pub risen : 0 < other → CountRose before now
  pub unchanged : other ≡ 0 → now ≡ before

-- what a shelf counts: opens that failed; of the disks taken back, those that had failed at a
-- length, those that had failed at a read, and their reads
pub record ShelfCounts : Type 0 where
  pub open_faults : ℕ
  pub length_faults : ℕ
  pub faults : ℕ
  pub reads : ℕ
