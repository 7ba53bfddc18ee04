-- `split_bytes` lends the bytes of the first pages, and the other pages: a walk of its MIR. Assumes `Logic`.
use mathlib.Core.Path.{◌≡◌, refl, sym}
use Prim.Native.Nat.{ℕ, ◌+◌, ◌-◌, ◌*◌, ◌^◌, ◌<◌, ◌≤◌}
use native.Mathlib.Omega.{arith}
use mathlib.Core.List.{List, [], ◌∷◌}
use lib.ListN.{length, drop as drop_list, length-drop}
use seplogic.Ra.Ura.{Ura}
use mir.Syntax.{named, w64, int_big}
use mir.Val.{Val, Fits, vint, vstruct, vcons, vnil}
use base.Logic.{SProp, ent, via, guard_i}
use base.Fml.{Lft, GName, Share, ftrue, flft}
use prog.Memory.{Memory}
use prog.Routine.{Routine}
use prog.Wp.{Env, Calls, Loops, WpFn, Tables}
use types.Logic.{Logic}
use contract.Monad.{Fun}
use contract.Running.{tables, tables_of}
use sound.WpLaws.{WpFn-mono}
use types.Kit.{Item, ‵, ◌⊛◌, later, some, at_ret, ◌$◌, ◌∵◌, !, qed, move, keep, split, split3, join, learn, fsplit, fjoin, feq_i, fpack, use2, await, pick, suffices, frame, done}
use types.Part.{whole, sub, agg}
use types.Run.{Opd, stop, fld, hop, from, addr, bin, and_then, no_more, of_opd, first, blocks, exec, returns, enter}
use types.ByLocal.{alloc_all, pass_all, free_all, look_at, look_in_at, get, get_in, sets, sets_last, env}
use denote.Builtin.{u8, usize}
use denote.Exit.{yes, no}
use denote.Follow.{both_by}
use denote.Plain.{uint_vals, uint_Tells}
use denote.RattleType.{RattleType, Valss, owns}
use denote.Ref.{MutBor}
use denote.Signature.{plain, mut_slice_of}
use denote.Slice.{MutSlice, Room, slice_val, mut_slice_vals, mut_slice_Tells}
use denote.Steps.{nothing}
use denote.Struct.Declared.{shape}
use denote.Struct.Struct.{within}
use denote.Struct.Tuple.{tuple_type}
use denote.Triple.Clauses.{Clauses}
use denote.Triple.Entry.{on_entry}
use denote.Triple.Spec.{Meets, triple_of}
use denote.Triple.Table.{entered}
use denote.Triple.Walked.{needs, Stays, stay_dropped, walk_of, ends_at, walked, Goes-dropped, Goes-spent_slice, walk_Meets}
use Rattle.std.proofs.Common.{lit<}
use Rattle.std.proofs.mem.Facts.{says_three}
use Rattle.page_check.specs.contracts.page.Page.{the_row as P}
use Rattle.page_check.specs.contracts.page.split_bytes as f
use Rattle.page_check.specs.contracts.page.split_bytes.Key.{name as #split_bytes}
use Rattle.page_check.proofs.page.split_bytes.Statement as stated
use Rattle.page_check.proofs.page.split_bytes.Code as code
use Rattle.page_check.proofs.PageRow.{first_ref, other_ref, split_lent, lends_split}

-- of the parameters nothing is left to the function: the pages are lent on
abbrev stayed : Stays f.ended.signature.params f.ended.kept
stayed = (stay_dropped (mut_slice_of (0 ∷ []) tt (plain (λ _. P))) no, (stay_dropped (plain (λ _. usize)) yes, tt))

module _ {M : Type 1} {𝓤 : Ura M} (𝓛 : Logic 𝓤) (at_mem : Memory → SProp 𝓤) (run : Routine → Fun 𝓤) where
  open 𝓛 use {H}

  abbrev clauses : Clauses 𝓤 f.ended
  clauses = f.clauses 𝓛 at_mem run

  -- the constant `PAGE_SIZE`
  page_size : {K : Type 0} {Γ : List (Item 𝓤)} {E : Env 𝓤 H} → Opd K 𝓛 Γ E (int_big w64 8192) (vint w64 8192)
  page_size = record { go = λ Kt h. via 𝓤 (Kt (vint w64 8192)) h (guard_i 𝓤 (Fits w64 8192) (Kt (vint w64 8192)) (record { fits = lit< tt })) }

  module _ (C : Calls 𝓤 H) (Λ : Loops 𝓤 H) (κ : Lft) (q : Share) (b o : ℕ) (γ : GName) (ys : List (List ℕ)) (m : ℕ) where
    abbrev pages : MutBor (List (List ℕ))
    pages = record { ref_ptr = (b, o); ghost_name = γ; now = ys }

    abbrev bound : (walk_of 𝓛 f.ended stayed clauses).Ghost
    bound = (((κ, tt), (q, tt), tt, (pages, (m, tt)), (mut_slice_vals pages, (vint w64 m ∷ [], tt))), tt)

    abbrev Post : Val → SProp 𝓤
    Post = (walk_of 𝓛 f.ended stayed clauses).post bound

    abbrev halves : List RattleType
    halves = MutSlice (named 0) κ u8 ∷ MutSlice (named 0) κ P ∷ []

    -- the result, where there are n other pages
    abbrev pair : ℕ → ℕ → Val
    pair k n = vstruct (vcons (slice_val (b, o) k) (vcons (slice_val (b, m * 8192 + o) n) vnil))

    walk : Room P (length ys) → m < 2 ^ 64 → m ≤ length ys
        → ent 𝓤 (on_entry 𝓛 f.ended.signature (κ, tt) (q, tt) (pages, (m, tt)) (mut_slice_vals pages, (vint w64 m ∷ [], tt))) (WpFn 𝓤 H C Λ code.function (slice_val (b, o) (length ys) ∷ vint w64 m ∷ []) Post)
    unfolding both_by
    walk rm fm le =
        let fit : length ys * 8192 < 2 ^ 63 = rm.1 in
        let fn : length ys < 2 ^ 64 = rm.0 in
        let back : List (List ℕ) = drop_list m ys in
        let lb : length back ≡ length ys - m = length-drop m ys in
        let fk : m * 8192 < 2 ^ 64 = omega arith in
        let fr : length ys - m < 2 ^ 64 = omega arith in
        let one : GName × GName → MutBor (List ℕ) = first_ref 𝓛 (named 0) κ q b o γ ys m le in
        let two : GName × GName → MutBor (List (List ℕ)) = other_ref 𝓛 (named 0) κ q b o γ ys m le in
        let v : Val = pair (m * 8192) (length ys - m) in
        qed 𝓛 ((‵ (flft κ q) ⊛ ‵ ftrue) ∷ ‵ (owns (MutSlice (named 0) κ P ∷ usize ∷ []) (pages, (m, tt)) (mut_slice_vals pages, (vint w64 m ∷ [], tt))) ∷ []) ∵ enter ! C Λ code.function (slice_val (b, o) (length ys) ∷ vint w64 m ∷ []) _ $
        alloc_all ! (λ l. pass_all ! refl ((tt, (tt, (record { fits = fn }, tt))), ((tt, record { fits = fm }), tt)) $
        let En : Env 𝓤 H = env (code.function).locals l in
        -- let others = pages.len() - count;
        sets ! (of_opd ! (get_in ! (fld ! refl (stop !)) (sub ! 1 refl (whole !)))) refl (tt, record { fits = fn }) $
        sets ! (bin ! (get ! refl) (get ! refl) le) refl (tt, record { fits = fr }) $
        -- let start = pages.as_mut_ptr();
        sets ! (addr ! (from ! (fld ! refl (hop ! (look_in_at ! 1 (sub ! 0 refl (whole !))) (stop !))))) refl (tt, tt) $
        first ! $ blocks ! $
        -- from_raw_parts_mut(start as *mut u8, count * PAGE_SIZE)
        sets ! (of_opd ! (get ! refl)) refl (tt, tt) $
        sets ! (bin ! (get ! refl) page_size (record { fits = fk })) refl (tt, record { fits = fk }) $
        sets ! (agg ! (and_then ! (get ! refl) (and_then ! (get ! refl) (no_more !)))) refl (tt, (tt, (record { fits = fk }, tt))) $
        -- from_raw_parts_mut(start.add(count), others)
        sets ! (bin ! (get ! refl) page_size (record { fits = fk })) refl (tt, record { fits = fk }) $
        sets ! (bin ! (get ! refl) (get ! refl) tt) refl (tt, tt) $
        sets ! (agg ! (and_then ! (get ! refl) (and_then ! (get ! refl) (no_more !)))) refl (tt, (tt, (record { fits = fr }, tt))) $
        sets_last ! (agg ! (and_then ! (get ! refl) (and_then ! (get ! refl) (no_more !)))) refl (tt, ((tt, (record { fits = fk }, tt)), ((tt, (record { fits = fr }, tt)), tt))) $
        exec ! C Λ En code.Mir.t-5 (at_ret En Post) $
        sets ! (of_opd ! (get ! refl)) refl (tt, ((tt, (record { fits = fk }, tt)), ((tt, (record { fits = fr }, tt)), tt))) $
        split ! $ move ! (2 ∷ []) $ fsplit ! $ move ! (0 ∷ 2 ∷ []) $
        use2 𝓛 (later (some (split_lent 𝓛 (named 0) κ q b o γ ys m le))) (lends_split 𝓛 (named 0) κ q b o γ ys m le (fk, omega arith) (omega arith, omega arith) (mut_slice_vals pages)) $ await ! tt $ pick ! (λ δ. learn ! (λ many.
        split3 ! $ nothing ! $ move ! (2 ∷ 0 ∷ []) $ fjoin ! $ move ! (1 ∷ 0 ∷ []) $ fjoin ! $
        feq_i ! (List Val) (v ∷ []) (pair (length (one δ).now) (length back) ∷ []) (λ i. pair (sym many i) (sym lb i) ∷ []) $ fjoin ! $
        fpack ! (Valss halves) (within (shape (tuple_type halves)) (one δ, (two δ, tt)) (v ∷ [])) (slice_val (b, o) (length (one δ).now) ∷ [], (slice_val (b, m * 8192 + o) (length back) ∷ [], tt)) $
        move ! (1 ∷ []) $ split ! $ move ! (2 ∷ 0 ∷ 1 ∷ []) $
        returns ! (look_at ! 0 refl) $ free_all ! refl $ keep ! (0 ∷ 1 ∷ 2 ∷ 4 ∷ []) $
        suffices ! _ (ends_at 𝓛 f.ended stayed clauses bound v (one δ, two δ) (tt, (tt, tt)) (tt, (tt, tt))) $
        nothing ! $ nothing ! $ fjoin ! $ nothing ! $ fjoin ! $ join ! $ move ! (1 ∷ 3 ∷ []) $ join ! $ join ! $ frame ! $ says_three ! (refl, many, refl) $ done !)))

  meets : (𝓣 : Tables 𝓤 H) → Meets 𝓛 f.signature (WpFn 𝓤 H 𝓣.C 𝓣.Λ code.function) (f.spec 𝓛 at_mem run)
  meets 𝓣 =
      walk_Meets 𝓛 f.ended stayed (Goes-spent_slice 𝓛 1 (0 ∷ []) tt (plain (λ _. P)), (Goes-dropped 𝓛 1 (plain (λ _. usize)) yes (λ κs x f. refl), tt)) clauses (WpFn 𝓤 H 𝓣.C 𝓣.Λ code.function) (WpFn-mono 𝓤 H 𝓛.laws 𝓣 code.function)
      (walked 𝓛 f.ended stayed clauses (WpFn 𝓤 H 𝓣.C 𝓣.Λ code.function) (λ κs. (mut_slice_vals, (uint_vals w64, tt))) (λ κs. (mut_slice_Tells (named 0) κs.0 P, (uint_Tells w64, tt)))
      (λ κs qs bounds a g are. needs 𝓤 (a.1.0 ≤ length a.0.now) _
      (walk 𝓣.C 𝓣.Λ κs.0 qs.0 a.0.ref_ptr.0 a.0.ref_ptr.1 a.0.ghost_name a.0.now a.1.0 are.0.0.1 are.1.0.1)))

pub split_bytes_spec : {M : Type 1} → stated.statement M
unfolding tables_of
split_bytes_spec 𝓤 𝓛 𝓜 𝓡 wired =
    entered 𝓤 𝓛.H (triple_of 𝓛 f.signature (f.spec 𝓛 𝓜.mem 𝓡.returns))
    (tables 𝓤 𝓛.H 𝓜 𝓡 𝓡.env).C (tables 𝓤 𝓛.H 𝓜 𝓡 𝓡.env).Λ #split_bytes code.function (code.unfolded 𝓤 𝓛.H 𝓜 𝓡 wired)
    (meets 𝓛 𝓜.mem 𝓡.returns (tables_of 𝓤 𝓛.H 𝓜 (tables 𝓤 𝓛.H 𝓜 𝓡 𝓡.env)))
