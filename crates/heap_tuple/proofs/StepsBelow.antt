-- Steps lead to items of the page.
use Rattle.std.proofs.Common.{◌≡◌, ℕ, ◌-◌, ◌<◌, Bool, true, false, List, refl, arith, cond}
use Rattle.std.specs.Prelude.{Option, Some, None, IfSome, nat_le}
use Rattle.std.proofs.lemmas.Bool.{leb-true}
use Rattle.std.proofs.lemmas.Bool.Decides.{nat_tests}
use Rattle.page_check.specs.LinePointers.{line_pointer_count}
use Rattle.heap_tuple.specs.declared.header.TupleHeader.{TupleHeader}
use Rattle.heap_tuple.specs.Tuples.{tuple_of, step_of, step_by, is_stepping}

by_test : (b : Bool) (page : List ℕ) (block x : ℕ) (old_tuple : TupleHeader)
    → is_stepping page block x old_tuple ≡ b
    → IfSome (cond b (Some (old_tuple.position - 1)) None) (λ y. y < line_pointer_count page)
by_test false page block x old_tuple is = tt
by_test true page block x old_tuple is =
    let lower : nat_le 1 old_tuple.position ≡ true = grind (arith, nat_tests) in
    let upper : nat_le old_tuple.position (line_pointer_count page) ≡ true = grind (arith, nat_tests)
    in
    omega (
      arith,
      leb-true 1 old_tuple.position lower,
      leb-true old_tuple.position
          (line_pointer_count page) upper,
    )

by_header : (page : List ℕ) (block x : ℕ) (header : Option TupleHeader)
    → IfSome (step_by page block x header) (λ y. y < line_pointer_count page)
by_header page block x None = tt
by_header page block x (Some old_tuple) =
    by_test (is_stepping page block x old_tuple) page block x old_tuple refl

pub step_of-below : (page : List ℕ) (block x : ℕ)
    → IfSome (step_of page block x) (λ y. y < line_pointer_count page)
unfolding step_of
step_of-below page block x = by_header page block x (tuple_of page x)
