-- One more length that was taken.
use Rattle.std.proofs.Common.{◌≡◌, ℕ, zero, suc, ◌+◌, ◌<◌, ◌≤◌, List, [], ◌∷◌, ◌++◌, length, get_or}
use Rattle.std.proofs.Common.{arith, length-append, ◌∙◌, ◌*◌, sym, ap, refl}
use Rattle.std.specs.Prelude.{Option, Some, None, IfSome}
use Rattle.page_check.specs.Told.{Told, relation_block_count}
use Rattle.command_line.specs.Command.{number_limit}
use Rattle.run_report.specs.Run.{limit_known}
use Rattle.run_report.specs.Lengths.{HasAllLengths, AreToldLengths}

fit_more : (limit : ℕ) (lengths : List ℕ) (n : ℕ) → ((r : ℕ) → get_or lengths r 0 ≤ limit)
    → n ≤ limit
    → (r : ℕ) → get_or (lengths ++ n ∷ []) r 0 ≤ limit
fit_more limit [] n fit small zero = small
fit_more limit [] n fit small (suc r) = omega arith
fit_more limit (x ∷ lengths) n fit small zero = fit 0
fit_more limit (x ∷ lengths) n fit small (suc r) =
    fit_more limit lengths n (λ q. fit (suc q)) small r

are_more : (blocks : ℕ → ℕ) (lengths : List ℕ) (n : ℕ)
    → ((r : ℕ) → r < length lengths → get_or lengths r 0 ≡ blocks r)
    → n ≡ blocks (length lengths) → (r : ℕ) → r < length (lengths ++ n ∷ [])
    → get_or (lengths ++ n ∷ []) r 0 ≡ blocks r
are_more blocks [] n are last zero below = last
are_more blocks [] n are last (suc r) below = absurd (omega arith)
are_more blocks (x ∷ lengths) n are last zero below = are 0 (omega arith)
are_more blocks (x ∷ lengths) n are last (suc r) below =
    are_more (λ q. blocks (suc q)) lengths n (λ q under. are (suc q) (omega arith)) last r
    (omega arith)

are_told : (told : Option Told) (lengths : List ℕ) (r n : ℕ) → length lengths ≡ r
    → AreToldLengths told lengths → IfSome told (λ t. n ≡ relation_block_count t r)
    → AreToldLengths told (lengths ++ n ∷ [])
are_told None lengths r n all are last = tt
are_told (Some t) lengths r n all are last =
    are_more (relation_block_count t) lengths n are (last ∙ ap (relation_block_count t) (sym all))

-- the limit by the segment size of the disk, which is that of what it tells
pub limit_is : (told : Option Told) (segment : ℕ) → IfSome told (λ t. t.segment ≡ segment)
    → limit_known told segment ≡ 16 * segment
limit_is None segment same = refl
limit_is (Some t) segment same = ap (λ (n : ℕ). 16 * n) same

pub no_lengths : (told : Option Told) (segment : ℕ) (lengths : List ℕ)
    → limit_known told segment ≤ number_limit → lengths ≡ []
    → HasAllLengths told segment 0 lengths
no_lengths None segment lengths small none = rw none (record {
  all = refl;
  fit = λ r. omega arith;
  in_range = small;
  told_lengths = tt;
})
no_lengths (Some t) segment lengths small none = rw none (record {
  all = refl;
  fit = λ r. omega arith;
  in_range = small;
  told_lengths = λ r below. absurd (omega arith);
})

pub HasLengths-more : (told now : Option Told) (segment : ℕ) (lengths more : List ℕ) (r n : ℕ)
    → now ≡ told → HasAllLengths told segment r lengths
    → IfSome now (λ t. n ≡ relation_block_count t r) → n ≤ limit_known told segment
    → more ≡ lengths ++ n ∷ []
    → HasAllLengths told segment (r + 1) more
HasLengths-more told now segment lengths more r n same taken last small is = rw is (record {
  all = omega (arith, length-append lengths (n ∷ []), taken.all);
  fit = fit_more (limit_known told segment) lengths n taken.fit small;
  in_range = taken.in_range;
  told_lengths = are_told told lengths r n taken.all taken.told_lengths (rw (← same) last);
})
