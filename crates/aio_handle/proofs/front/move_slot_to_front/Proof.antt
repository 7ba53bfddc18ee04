-- `move_slot_to_front` changes the order in which the seat lists its slots.
use Rattle.std.proofs.Common.{Bool, true, false, cond, ◌==◌}
use Rattle.atomic_table.proofs.Names.{◌≡◌, ℕ, w64, List, [], ◌∷◌, refl, a_type, named, Val}
use Rattle.atomic_table.proofs.Names.{vint, vunit, vptr, inst_fn, SProp, emp, ent, id⊢, via, Fml}
use Rattle.atomic_table.proofs.Names.{ftrue, fsep, flft, sem, Logic, Ura, ‵, raw, ◌⊛◌, ◌$◌}
use Rattle.atomic_table.proofs.Names.{◌∵◌, !, qed, by, move, keep, split, join, fsplit, fsplit3}
use Rattle.atomic_table.proofs.Names.{fjoin, fjoin3, use0, use1, feq_i}
use Rattle.atomic_table.proofs.Names.{unit_lit, of_opd, returns, enter, alloc_all}
use Rattle.atomic_table.proofs.Names.{pass_all, free_all, look_at, sets, tables}
use Rattle.atomic_table.proofs.Names.{RattleType, owns, types_at, plain, usize}
use Rattle.atomic_table.proofs.Names.{yes, uint_vals, uint_Tells, stay_dropped, Goes-dropped}
use Rattle.atomic_table.proofs.Names.{nothing, param, layouts, Stays, walk_of}
use Rattle.atomic_table.proofs.Names.{fact, fact_i, Coded, mut_vals, mut_Tells}
use Rattle.atomic_table.proofs.Names.{opens, closes, stay_ref, Goes-ref}
use types.Kit.{frame}
use base.Share.{three_quarters}
use Rattle.atomic_table.proofs.Walks.{proved, leaves}
use Rattle.atomic_table.specs.Table.{Me}
use Rattle.atomic_table.specs.Seated.{TableId, mine, carried, seen, age, place, names}
use Rattle.atomic_table.specs.contracts.shared.Seat as seat
use Rattle.aio_handle.specs.MoveToFront.{insert_second, moved_to_front}
use Rattle.aio_handle.specs.contracts.front.move_slot_to_front.{ended, clauses}
use Rattle.aio_handle.specs.contracts.front.move_slot_to_front.Key.{name as #self}
use Rattle.aio_handle.proofs.front.move_slot_to_front.Statement.{statement}
use Rattle.aio_handle.proofs.front.move_slot_to_front.Code as code

module _ {M : Type 1} {𝓤 : Ura M} (𝓛 : Logic 𝓤) (R : RattleType) {V : Type 0} (cv : Coded V)
    (z : TableId) where
  abbrev out : List (ℕ × R.Denot) → Fml
  out = carried (age z) R (place z) (names z) z.slots

  swaps : (x : ℕ × R.Denot) (ys : List (ℕ × R.Denot)) → ent 𝓤 (sem 𝓛 (out (x ∷ ys)))
      (sem 𝓛 (out (insert_second x ys)))
  swaps x [] = id⊢ 𝓤 _
  swaps x (y ∷ ys) = qed 𝓛 (‵ (out (x ∷ y ∷ ys)) ∷ []) ∵ fsplit3 ! $ move ! (2 ∷ []) $ fsplit3 ! $
      move ! (0 ∷ 1 ∷ 3 ∷ 4 ∷ 2 ∷ []) $ frame ! $ frame ! $ frame ! $ frame ! $ by ! (id⊢ 𝓤 _)

  below : (x : ℕ × R.Denot) (xs ys : List (ℕ × R.Denot)) → ent 𝓤 (sem 𝓛 (out xs)) (sem 𝓛 (out ys))
      → ent 𝓤 (sem 𝓛 (out (x ∷ xs))) (sem 𝓛 (out (x ∷ ys)))
  below x xs ys e = qed 𝓛 (‵ (out (x ∷ xs)) ∷ []) ∵ fsplit3 ! $ frame ! $ frame ! $ by ! e

  chosen : (b : Bool) (x : ℕ × R.Denot) (xs ys : List (ℕ × R.Denot)) → ent 𝓤 (sem 𝓛 (out xs))
      (sem 𝓛 (out ys))
      → ent 𝓤 (sem 𝓛 (out (x ∷ xs))) (sem 𝓛 (out (cond b (x ∷ xs) (insert_second x ys))))
  chosen true x xs ys e = id⊢ 𝓤 _
  chosen false x xs ys e = via 𝓤 (sem 𝓛 (out (x ∷ ys))) (below x xs ys e) (swaps x ys)

  moves-to-front : (k : ℕ) (cs : List (ℕ × R.Denot))
      → ent 𝓤 (sem 𝓛 (out cs)) (sem 𝓛 (out (moved_to_front k cs)))
  moves-to-front k [] = id⊢ 𝓤 _
  moves-to-front k (x ∷ xs) = chosen (x.0 == k) x xs (moved_to_front k xs) (moves-to-front k xs)

  pub seated : (id k : ℕ) (v : V) (cs : List (ℕ × R.Denot)) → ent 𝓤
      (sem 𝓛 (mine R cv.code z id (v, cs))) (sem 𝓛 (mine R cv.code z id (v, moved_to_front k cs)))
  seated id k v cs = qed 𝓛 (‵ (seen cv.code z.views_name id three_quarters v) ∷ ‵ (out cs) ∷ []) ∵
      frame ! $ by ! (moves-to-front k cs)

pub move_slot_to_front_spec : {M : Type 1} → statement M
move_slot_to_front_spec 𝓤 𝓛 𝓜 𝓡 wired T U _ _ =
    let H = 𝓛.H in let 𝓣 = tables 𝓤 H 𝓜 𝓡 𝓡.env in let R : RattleType = param 0 T
    in let W : RattleType = param 1 U in let En = ended T U in
    let inst = layouts (a_type ∷ a_type ∷ []) (T, (U, tt)) in let fn = inst_fn inst code.function
    in let Sr : RattleType = seat.the_row R W in let sitter = plain (λ _. Sr) in
    let hs : Stays En.signature.params En.kept =
    (stay_ref (0 ∷ []) tt sitter, (stay_dropped (plain (λ _. usize)) yes, tt)) in let c =
    clauses T U 𝓛 𝓜.mem 𝓡.returns in
    proved 𝓛 En hs c 𝓜 𝓡 (
      Goes-ref 𝓛 3 0 tt sitter,
      (Goes-dropped 𝓛 3 (plain (λ _. usize)) yes (λ κs x f. refl), tt),
    ) (#self inst) fn
    (code.unfolded 𝓤 H 𝓜 𝓡 wired (T, (U, tt)))
    (λ κs. (mut_vals, (uint_vals w64, tt))) (λ κs.
    (mut_Tells (named 0) κs.0 Sr, (uint_Tells w64, tt))) (λ κs qs bounds a gh are.
    let b : ℕ = a.0.ref_ptr.0 in let o : ℕ = a.0.ref_ptr.1 in let h : Sr.Denot = a.0.now
    in let k : ℕ = a.1.0 in let z : TableId = h.table_id in let id : ℕ = h.id
    in let v : Me T.Denot U.Denot = h.me in let cv : Coded U.Denot = W.coded in
    let v' : Me T.Denot U.Denot = (v.0, moved_to_front k v.1) in let h' : Sr.Denot =
    record { marker = h.marker; table_id = z; id = id; me = v' } in let Told : Type 0 = (z ≡ z)
    × (id ≡ id) × (v' ≡ v') in
    let y : (walk_of 𝓛 En hs c).Ghost = (
      (
        κs,
        qs,
        bounds,
        a,
        (vptr b o ∷ [], (vint w64 k ∷ [], tt)),
      ),
      gh,
    ) in let Post : Val → SProp 𝓤 =
    (walk_of 𝓛 En hs c).post y in
    let others : Fml = fsep (flft κs.1.0 qs.1.0) (fsep (flft κs.1.1.0 qs.1.1.0) ftrue) in
    qed 𝓛 (((‵ (flft κs.0 qs.0) ⊛ ‵ others) ⊛ ‵ (owns (types_at En.signature.params κs) a y.0.4))
    ∷ raw ((c κs a).requires gh) ∷ []) ∵
    split ! $ split ! $ move ! (2 ∷ []) $ fsplit ! $ fsplit3 ! $ keep ! (1 ∷ 2 ∷ 4 ∷ 5 ∷ []) $
    enter ! 𝓣.C 𝓣.Λ fn (vptr b o ∷ vint w64 k ∷ []) Post $ alloc_all !
    (λ l. pass_all ! refl ((tt, tt), ((tt, record { fits = are.1.0.1 }), tt)) $
    opens ! tt Sr b o (λ ts. move ! (1 ∷ []) $ fsplit ! $ move ! (1 ∷ []) $ use1 𝓛
    (‵ (mine R cv.code z id v')) (seated 𝓛 R cv z id k v.0 v.1) $ move ! (1 ∷ 0 ∷ []) $ fjoin !
    $ move ! (1 ∷ 0 ∷ []) $
    closes ! tt Sr h' ts b o $ feq_i ! (List Val) (vptr b o ∷ []) (vptr b o ∷ []) refl $ fjoin3 ! $
    nothing ! $ nothing ! $ fjoin ! $ move ! (1 ∷ 0 ∷ []) $ fjoin ! $ move ! (1 ∷ 2 ∷ []) $ join
    ! $
    sets ! (of_opd ! (unit_lit !)) refl (tt, tt) $ use0 𝓛 (raw (fact 𝓤 Told))
    (fact_i 𝓤 Told (emp 𝓤) (refl, refl, refl)) $ feq_i ! (List Val) (vunit ∷ []) (vunit ∷ [])
    refl $
    returns ! (look_at ! 0 refl) $ free_all ! refl $ keep ! (2 ∷ 3 ∷ 0 ∷ 1 ∷ []) $ by !
    (leaves 𝓛 En hs c y vunit tt (h', (tt, tt)) (tt, (tt, tt))))))
