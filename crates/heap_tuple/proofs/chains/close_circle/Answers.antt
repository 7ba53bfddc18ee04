use Rattle.std.proofs.Common.{◌≡◌, ℕ, ◌-◌, ◌<◌, List, length, true, ap, sym, ◌∙◌, arith, get_or}
use Rattle.heap_tuple.specs.Chains.{contains}
use Rattle.heap_tuple.proofs.CircleOfPath.{end_of, end_inside, closed}
use Rattle.heap_tuple.proofs.chains.close_circle.Goals as goal

pub set_lengths-requires : goal.set_lengths-requires
set_lengths-requires c =
    let path = c.args.path.now.items in
    let shown : contains c.deref.result.now c.args.item
    ≡ true = rw c.deref.ensures.value c.requires.back in
    let place = c.place_of-start.ensures shown in
    let below : c.place_of-start.result < length path = omega
    (arith, place.0, ap length c.deref.ensures.value) in
    let there : get_or path c.place_of-start.result 0 ≡ c.args.item =
    ap (λ (l : List ℕ). get_or l c.place_of-start.result 0) (sym c.deref.ensures.value) ∙ place.1 in
    record {
      inside = λ x here. c.requires.inside x
          (end_inside path _ c.place_of-start.result x c.args.item
          (end_of path _ c.place_of-start.result c.deref-2.ensures.value) below there here);
    }

pub returns-clause-circle : goal.returns-clause-circle
returns-clause-circle c =
    let path = c.args.path.now.items in
    let shown : contains c.deref.result.now c.args.item
    ≡ true = rw c.deref.ensures.value c.requires.back in
    let place = c.place_of-start.ensures shown in
    let below : c.place_of-start.result < length path = omega
    (arith, place.0, ap length c.deref.ensures.value) in
    let there : get_or path c.place_of-start.result 0 ≡ c.args.item =
    ap (λ (l : List ℕ). get_or l c.place_of-start.result 0) (sym c.deref.ensures.value) ∙ place.1 in
    let size : c.len.result - c.place_of-start.result
    ≡ length path - c.place_of-start.result = omega
    (arith, c.len.ensures, c.deref.ensures.len, ap length c.deref.ensures.value) in
    closed _ _ path _ _ c.args.item c.place_of-start.result _
    (end_of path _ c.place_of-start.result c.deref-2.ensures.value)
    c.truncate.ensures.items below there size c.set_lengths.ensures.there
    c.set_lengths.ensures.elsewhere
