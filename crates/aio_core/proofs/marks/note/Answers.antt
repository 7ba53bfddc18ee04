use Rattle.std.proofs.Common.{◌≡◌, List, [], ◌∷◌, ◌++◌, length, refl, sym, ap, ◌∙◌, set, get_or}
use Rattle.std.proofs.Common.{Some, slice_get, OnOk, Result, Ok, Err}
use Rattle.std.proofs.lemmas.List.{set-get_or}
use Rattle.std.proofs.lemmas.Option.{slice_get-get_or, slice_get_read}
use Rattle.aio_word.specs.declared.Mark.{Mark}
use Rattle.aio_core.specs.Allowed.{lists_with_mark}
use Rattle.aio_core.proofs.marks.note.Goals as goal

on-ok : {T E : Type 0} (r : Result T E) (P Q : Type 0) → (P → Q) → OnOk r P → OnOk r Q
on-ok (Ok x) P Q f h = f h
on-ok (Err e) P Q f h = tt

pub returns-in-None-clause-ok : goal.returns-in-None-clause-ok
returns-in-None-clause-ok c =
    let at = slice_get-get_or c.args.lists.now c.args.actor [] c.requires in
    sym (set-get_or c.args.lists.now c.args.actor [])
    ∙ sym ((λ k. lists_with_mark c.args.lists.now c.args.actor c.args.handle c.args.generation
    (c.in-None.is k) (at k)))

pub returns-in-Some-clause-ok : goal.returns-in-Some-clause-ok
returns-in-Some-clause-ok c =
    let list : List Mark = c.index-lists-actor.result in
    let at : slice_get c.args.lists.now c.args.actor ≡ Some list =
    slice_get_read c.args.lists.now
    (length c.args.lists.now) c.args.actor list refl c.requires c.index-lists-actor.is in
    let same : get_or c.args.lists.now c.args.actor list ≡ list = sym c.index-lists-actor.is in
    on-ok c.push.result _ _
    (λ (e : c.push.new.self ≡ get_or c.args.lists.now c.args.actor list ++ record {
      handle =
          c.args.handle;
      generation = c.args.generation;
      kind = c.in-Some.kind;
    } ∷ []).
    ap (λ (l : List Mark). set c.args.lists.now c.args.actor l) (e
    ∙ ap (λ (l : List Mark). l ++ record {
      handle = c.args.handle;
      generation =
          c.args.generation;
      kind = c.in-Some.kind;
    } ∷ []) same)
    ∙ sym ((λ k. lists_with_mark c.args.lists.now c.args.actor c.args.handle c.args.generation
    (c.in-Some.is k) (at k))))
    c.push.ensures.ok
