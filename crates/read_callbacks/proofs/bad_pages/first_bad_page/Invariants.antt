use Rattle.std.proofs.Common.{◌≡◌, ℕ, ◌<◌, ◌+◌, [], false, get_or}
use Rattle.read_callbacks.specs.Chain.{is_bad}
use Rattle.read_callbacks.proofs.bad_pages.first_bad_page.Given as goal

abbrev pub invariant-loop-index : goal.invariant-loop-index
invariant-loop-index l = (k : ℕ) → k < l.index
    → is_bad l.fn.checksums (l.fn.first + k) (get_or l.pages k []) ≡ false
