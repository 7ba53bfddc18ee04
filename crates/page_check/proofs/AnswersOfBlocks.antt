-- Answers to no block.
use Rattle.std.proofs.Common.{List, [], ◌∷◌, refl, arith}
use Rattle.page_check.specs.SynchronousAnswer.{Reading, Known, Unknown}
use Rattle.page_check.specs.SynchronousAnswer.{Entry, End}
use Rattle.page_check.specs.IsAnswer.{IsAnswer, Stop}
use Rattle.page_check.proofs.AnswersInOrder.{answered_none, answered_next}
use Rattle.page_check.proofs.NextAnswer.{IsReached, next-end}

-- reading begins at the first entry
reached_first : {P : Type 0} (found : Reading) (es : List (Entry P)) → IsReached found es 0
reached_first (Unknown rules) es = tt
reached_first (Known f) es = omega arith

module _ {P : Type 0} (found : Reading) (may : Entry P → Type 0) where
  pub answered_no_block : IsAnswer found may [] (record { pages = []; endings = End ∷ [] })
  answered_no_block =
      answered_next found may [] [] (Stop End) (answered_none found may [])
      (next-end may [] 0 found (reached_first found []) refl)
