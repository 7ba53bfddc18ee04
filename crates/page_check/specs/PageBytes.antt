-- The bytes of a page.
use Rattle.std.specs.Prelude.{◌≡◌, ℕ, ◌<◌, List, length}
use Rattle.std.specs.List.{All}

-- as many as a block has (`BLCKSZ`), and each is one
pub record IsPage (page : List ℕ) : Type 0 where
  pub size : length page ≡ 8192
  pub bytes : All (λ byte. byte < 256) page
