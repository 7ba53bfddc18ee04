-- What a record has for a block, by the way in which its read ended.
use Rattle.std.proofs.Common.{◌≡◌, ◌≢◌, ℕ, ◌+◌, ◌-◌, ◌<◌, ◌≤◌, ap, sym, subst, arith, ◌∙◌}
use Rattle.std.specs.Prelude.{Option, IfSome}
use Rattle.page_check.specs.Told.{Told, relation_block_count}
use Rattle.page_check.specs.declared.rules.DamagedPages.{DamagedPages}
use Rattle.page_check.specs.declared.rules.DamagedPages.TheVariants.{Refuse}
use Rattle.aio_word.specs.declared.Class.TheVariants as class
use Rattle.aio_result.specs.declared.AioResult.{AioResult}
use Rattle.aio_result.specs.declared.Status.TheVariants.{Good, Partial, Warning, Error}
use Rattle.aio_callback.specs.StreamOutcomes.{IsStreamOutcome, Whole, Rest, Warned, Invalid, Unread, PastEnd}
use Rattle.aio_callback.specs.StreamOutcomes.{given_count}
use Rattle.aio_callback.specs.ReadIoView.{ReadIoView}
use Rattle.read_callbacks.specs.GoodPages.{HasBadPage}
use Rattle.read_stream.specs.Parts.{CoversBlock}

not-good : Good ≡ Error → ⊥
not-good e = cc

not-partial : Partial ≡ Error → ⊥
not-partial e = cc

not-warning : Warning ≡ Error → ⊥
not-warning e = cc

module _ (damaged : DamagedPages) (told : Option Told) (io : ReadIoView) (block : ℕ)
    (has : CoversBlock io block) where
  -- its number of good pages
  abbrev g : ℕ
  g = given_count io.result

  -- where no error stands at the block, the read ended before it
  pub part_rest : IsStreamOutcome damaged told io → g ≤ block - io.first → (io.result.status ≡ Error → ⊥)
      → io.first < block
  part_rest (Whole is ended) le fine =
      let n : g ≡ io.count = ap (λ (z : AioResult). given_count z) is in
      let (a, b) = has in absurd (omega arith)
  part_rest (Rest n is some few ended) le fine =
      let m : g ≡ n = ap (λ (z : AioResult). given_count z) is in
      let (a, b) = has in omega arith
  part_rest (Warned k n on any marked is some most ended) le fine =
      let m : g ≡ n = ap (λ (z : AioResult). given_count z) is in
      let (a, b) = has in omega arith
  part_rest (Invalid i off is below bad) le fine =
      absurd (fine (ap (λ (z : AioResult). z.status) is))
  part_rest (Unread is ended) le fine = absurd (fine (ap (λ (z : AioResult). z.status) is))
  part_rest (PastEnd is ended past) le fine = absurd (fine (ap (λ (z : AioResult). z.status) is))

  pub part_invalid : IsStreamOutcome damaged told io → block - io.first ≡ g → io.result.status ≡ Error
      → io.result.id ≡ 2
      → (damaged ≡ Refuse) × HasBadPage told io.checksums io.relation block
  part_invalid (Whole is ended) at error two =
      absurd (not-good (sym (ap (λ (z : AioResult). z.status) is) ∙ error))
  part_invalid (Rest n is some few ended) at error two =
      absurd (not-partial (sym (ap (λ (z : AioResult). z.status) is) ∙ error))
  part_invalid (Warned k n on any marked is some most ended) at error two =
      absurd (not-warning (sym (ap (λ (z : AioResult). z.status) is) ∙ error))
  part_invalid (Invalid i off is below bad) at error two =
      let m : g ≡ i = ap (λ (z : AioResult). given_count z) is in
      let (a, b) = has in
      let at : io.first + i ≡ block = omega arith in
      (off, subst (λ (z : ℕ). HasBadPage told io.checksums io.relation z) at bad)
  part_invalid (Unread is ended) at error two =
      let m : io.result.id ≡ 1 = ap (λ (z : AioResult). z.id) is in absurd (omega arith)
  part_invalid (PastEnd is ended past) at error two =
      let m : io.result.id ≡ 1 = ap (λ (z : AioResult). z.id) is in absurd (omega arith)

  pub part_unread : IsStreamOutcome damaged told io → block - io.first ≡ g → io.result.status ≡ Error
      → io.result.id ≢ 2 → io.result.error ≡ 1
      → (io.first ≡ block) × (io.label.ended ≡ class.Failed)
  part_unread (Whole is ended) at error not_two one =
      absurd (not-good (sym (ap (λ (z : AioResult). z.status) is) ∙ error))
  part_unread (Rest n is some few ended) at error not_two one =
      absurd (not-partial (sym (ap (λ (z : AioResult). z.status) is) ∙ error))
  part_unread (Warned k n on any marked is some most ended) at error not_two one =
      absurd (not-warning (sym (ap (λ (z : AioResult). z.status) is) ∙ error))
  part_unread (Invalid i off is below bad) at error not_two one =
      absurd (not_two (ap (λ (z : AioResult). z.id) is))
  part_unread (Unread is ended) at error not_two one =
      let m : g ≡ 0 = ap (λ (z : AioResult). given_count z) is in
      let (a, b) = has in (omega arith, ended)
  part_unread (PastEnd is ended past) at error not_two one =
      let m : io.result.error ≡ 2 = ap (λ (z : AioResult). z.error) is in absurd (omega arith)

  pub part_past : IsStreamOutcome damaged told io → block - io.first ≡ g → io.result.status ≡ Error
      → io.result.id ≢ 2 → io.result.error ≢ 1
      → IfSome told (λ t. relation_block_count t io.relation ≤ block)
  part_past (Whole is ended) at error not_two not_one =
      absurd (not-good (sym (ap (λ (z : AioResult). z.status) is) ∙ error))
  part_past (Rest n is some few ended) at error not_two not_one =
      absurd (not-partial (sym (ap (λ (z : AioResult). z.status) is) ∙ error))
  part_past (Warned k n on any marked is some most ended) at error not_two not_one =
      absurd (not-warning (sym (ap (λ (z : AioResult). z.status) is) ∙ error))
  part_past (Invalid i off is below bad) at error not_two not_one =
      absurd (not_two (ap (λ (z : AioResult). z.id) is))
  part_past (Unread is ended) at error not_two not_one =
      absurd (not_one (ap (λ (z : AioResult). z.error) is))
  part_past (PastEnd is ended past) at error not_two not_one =
      let m : g ≡ 0 = ap (λ (z : AioResult). given_count z) is in
      let (a, b) = has in
      let at : io.first ≡ block = omega arith in
      subst (λ (z : ℕ). IfSome told (λ t. relation_block_count t io.relation ≤ z)) at past
