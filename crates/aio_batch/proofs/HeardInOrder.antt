-- What a method hears in two calls.
use Rattle.std.proofs.Common.{◌∙◌, List, [], ◌++◌, refl, sym, ap, subst, append_assoc}
use Rattle.std.proofs.Common.{append-nil}
use Rattle.std.specs.Prelude.{Option, Some, None}
use Rattle.aio_word.specs.declared.WaitRef.{WaitRef}
use Rattle.aio_batch.specs.Heard.{AppendsHeard}

pub heard-nothing : (heard : Option (List WaitRef)) → AppendsHeard heard heard []
heard-nothing None = refl
heard-nothing (Some before) = ap (λ (z : List WaitRef). Some z) (sym (append-nil before))

pub heard-then : (a b c : Option (List WaitRef)) (xs ys : List WaitRef) → AppendsHeard a b xs
    → AppendsHeard b c ys → AppendsHeard a c (xs ++ ys)
heard-then None b c xs ys first next =
    subst (λ (z : Option (List WaitRef)). AppendsHeard z c ys) first next
heard-then (Some a) b c xs ys first next =
    subst (λ (z : Option (List WaitRef)). AppendsHeard z c ys) first next
    ∙ ap (λ (z : List WaitRef). Some z) (append_assoc a xs ys)
