-- Pages in a row are their bytes in a row, and what else their places have. Assumes `Logic`.
--     page_out, page_in     one page.        pages_out, pages_in     a row of them
--     lends_bytes           a `&mut [Page]` is lent on as the `&mut [u8]` of its bytes, and follows it
--     lends_split           the bytes of the first pages are lent, beside the other pages
use mathlib.Core.Path.{◌≡◌, refl, sym, ap, subst, ◌∙◌}
use Prim.Native.Nat.{ℕ, zero, suc, ◌+◌, ◌-◌, ◌*◌, ◌≤◌}
use native.Mathlib.Nat.{suc-mul, zero-mul}
use native.Mathlib.Omega.{arith}
use mathlib.Core.List.{List, [], ◌∷◌, ◌++◌}
use lib.ListN.{length, take, drop as drop_list, take-append-drop, length-drop, length-append}
use seplogic.Ra.Ura.{Ura}
use mir.Syntax.{Lifetime, ty_array, ty_int, ty_struct, w8}
use mir.Val.{Val}
use base.Logic.{SProp, ent, sep, ex, emp, guard}
use base.Fraction.{full_share}
use base.Stored.{coded_list}
use base.Fml.{Fml, Lft, GName, Share, ftrue, fsep, feq, flft, fobs, fbor, fleft}
use types.Logic.{Logic, sem}
use types.Kit.{Item, ‵, ◌⊛◌, ◌$◌, ◌∵◌, !, qed, move, keep, drop, fsplit, fsplit3, fjoin, fpick, fpack, updating, await, later, some, use0, use1, use2, group, pick, now, show, done, split, split3, rewrite, feq_l, feq_i, given, learn, check}
use types.SemTy.{cells, Arr, Body}
use types.Follow.{after₂, takes_part, takes_two}
use types.Mut.{open_ref}
use base.Logic.{id⊢}
use denote.Builtin.{u8}
use denote.Memory.{mem, part_at, part_of, cell_raw, raw_all}
use denote.ArrayMemory.{Array-apart, Array-whole}
use denote.Index.{row, whole_in, whole_out}
use denote.Array.{Array}
use denote.Ref.{MutBor}
use denote.Slice.{MutSlice, Room, slice_val}
use denote.Follow.{follows}
use denote.FollowSlice.{heres_id, slice_of}
use denote.Struct.Members.{Member, raw_tys, parts_at, Lone}
use denote.Struct.Parts.{shape_of, Struct-left, left_Struct}
use denote.Struct.Struct.{Struct}
use borrow.Table.Elements.{at, at_mul, cut_app, join_app, length-take-le}
use Rattle.std.specs.List.{flat_map}
use Rattle.std.specs.Simd.{first_chunks}
use Rattle.page_check.specs.contracts.page.Page.{the_row as P}
use Rattle.page_check.specs.contracts.page.Page.TheInside.{the_row as F, struct}
use Rattle.page_check.specs.declared.page.Page.TheInside.{Inside}

-- the struct of one array
abbrev member : Member
member = record { row = Array u8 8192; ty = ty_array (ty_int w8) 8192 }

abbrev members : List Member
members = member ∷ []

-- the array lies where the struct does
at_start : (o : ℕ) → o + 0 ≡ o
at_start o = omega arith

-- the fields of a page that is seen as x
abbrev Fields : List ℕ → Type 0
Fields x = (a : Inside) × ((a.bytes ≡ x) × Unit {0})

module _ {M : Type 1} {𝓤 : Ura M} (𝓛 : Logic 𝓤) (b : ℕ) where
  open 𝓛 use {H}

  -- what the place of a page has beside its bytes
  abbrev left : ℕ → Fml
  left o = fleft full_share (ty_struct [] (raw_tys members)) (raw_tys members) b o

  abbrev pub lefts : ℕ → ℕ → Fml
  lefts zero o = ftrue
  lefts (suc n) o = fsep (left o) (lefts n (o + 8192))

  page_out : (x : List ℕ) (o : ℕ) → ent 𝓤 (sem 𝓛 ((mem P).own_at x b o)) (guard 𝓤 (length x ≡ 8192) (sem 𝓛 (fsep (cells (mem u8) x b o) (left o))))
  unfolding part_of
  page_out x o = qed 𝓛 (‵ (part_at P full_share x b o) ∷ []) ∵ fpick ! (λ vs. fsplit ! $ move ! (1 ∷ []) $ fpick ! (λ y. fsplit ! $ keep ! (2 ∷ 0 ∷ []) $ fjoin ! $
      fpack ! (List Val) (λ us. fsep (cell_raw full_share (raw_all F.mir) us b o) (F.own_val y.0 us)) vs $
      use1 𝓛 (‵ (parts_at full_share members 0 (y.0.bytes, tt) b o) ⊛ ‵ (left o)) (Struct-left 𝓛 full_share struct.name members ((λ z ws g. subst Lone (sym g.1.0.0) tt), tt) (y.0.bytes, tt) b o) $ split ! $ fsplit ! $ move ! (1 ∷ []) $ drop ! $
      rewrite ! 0 (λ (p : ℕ). ‵ (part_at (Array u8 8192) full_share y.0.bytes b p)) (at_start o) refl $
      rewrite ! 0 (λ (z : List ℕ). ‵ (part_at (Array u8 8192) full_share z b o)) y.1.0 refl $
      use1 𝓛 (‵ (fsep (feq ℕ (length x) 8192) (row u8 full_share x b o))) (Array-apart 𝓛 u8 full_share tt 8192 x b o) $ fsplit ! $ feq_l ! (λ e.
      use1 𝓛 (‵ (cells (mem u8) x b o)) (whole_in 𝓛 u8 x b o) $ fjoin ! $ check ! e $ done !)))

  page_in : (x : List ℕ) (o : ℕ) → length x ≡ 8192 → ent 𝓤 (sem 𝓛 (fsep (cells (mem u8) x b o) (left o))) (sem 𝓛 ((mem P).own_at x b o))
  unfolding part_of
  page_in x o e = qed 𝓛 (‵ (fsep (cells (mem u8) x b o) (left o)) ∷ []) ∵ fsplit ! $
      use1 𝓛 (‵ (row u8 full_share x b o)) (whole_out 𝓛 u8 x b o) $ feq_i ! ℕ (length x) 8192 e $ fjoin ! $
      use1 𝓛 (‵ (part_at (Array u8 8192) full_share x b o)) (Array-whole 𝓛 u8 full_share 8192 x b o) $
      rewrite ! 0 (λ (p : ℕ). ‵ (part_at (Array u8 8192) full_share x b p)) (sym (at_start o)) refl $
      use0 𝓛 (‵ ftrue) (id⊢ 𝓤 (emp 𝓤)) $ move ! (1 ∷ 0 ∷ []) $ fjoin ! $
      use2 𝓛 (‵ (part_at (Struct (shape_of struct.name members)) full_share (x, tt) b o)) (left_Struct 𝓛 full_share struct.name members (x, tt) b o) $
      fpick ! (λ vs. fsplit ! $ move ! (1 ∷ []) $ use0 𝓛 (‵ ftrue) (id⊢ 𝓤 (emp 𝓤)) $ move ! (1 ∷ 0 ∷ []) $ fjoin ! $
      fpack ! (Fields x) (λ y. fsep (F.own_val y.0 vs) ftrue) (record { bytes = x }, (refl, tt)) $ move ! (1 ∷ 0 ∷ []) $ fjoin ! $
      fpack ! (List Val) (λ us. fsep (cell_raw full_share (raw_all P.mir) us b o) (P.own_val x us)) vs $ done !)

  pub pages_out : (ys : List (List ℕ)) (o : ℕ)
      → ent 𝓤 (sem 𝓛 (cells (mem P) ys b o)) (guard 𝓤 (length (flat_map (λ x. x) ys) ≡ length ys * 8192) (sem 𝓛 (fsep (cells (mem u8) (flat_map (λ x. x) ys) b o) (lefts (length ys) o))))
  pages_out [] o = qed 𝓛 (‵ (cells (mem P) [] b o) ∷ []) ∵ use0 𝓛 (‵ ftrue) (id⊢ 𝓤 (emp 𝓤)) $ fjoin ! $ check ! (sym (zero-mul 8192)) $ done !
  pages_out (y ∷ ys) o =
      let rest : List ℕ = flat_map (λ x. x) ys in
      qed 𝓛 (‵ (cells (mem P) (y ∷ ys) b o) ∷ []) ∵ fsplit ! $
      use1 𝓛 (given (length y ≡ 8192) (‵ (fsep (cells (mem u8) y b o) (left o)))) (page_out y o) $ learn ! (λ e. fsplit ! $ move ! (2 ∷ []) $
      use1 𝓛 (given (length rest ≡ length ys * 8192) (‵ (fsep (cells (mem u8) rest b (o + 8192)) (lefts (length ys) (o + 8192))))) (pages_out ys (o + 8192)) $ learn ! (λ k. fsplit ! $
      let on : at o (mem u8).size (length y) ≡ length y * 1 + o = at_mul o (mem u8).size (length y) in
      let past : o + 8192 ≡ at o (mem u8).size (length y) = omega arith in
      let step : suc (length ys) * 8192 ≡ length ys * 8192 + 8192 = suc-mul (length ys) 8192 in
      let both : length (y ++ rest) ≡ length y + length rest = length-append y rest in
      rewrite ! 0 (λ (p : ℕ). ‵ (cells (mem u8) rest b p)) past refl $ move ! (2 ∷ 0 ∷ []) $
      use2 𝓛 (‵ (cells (mem u8) (y ++ rest) b o)) (join_app 𝓛 (mem u8) y rest b o) $ move ! (2 ∷ 1 ∷ []) $ fjoin ! $ move ! (1 ∷ 0 ∷ []) $ fjoin ! $ check ! (omega arith) $ done !))

  pub pages_in : (k : ℕ) (xs : List ℕ) (o : ℕ) → k * 8192 ≡ length xs → ent 𝓤 (sem 𝓛 (fsep (cells (mem u8) xs b o) (lefts k o))) (sem 𝓛 (cells (mem P) (first_chunks 8192 k xs) b o))
  pages_in zero xs o e = qed 𝓛 (‵ (fsep (cells (mem u8) xs b o) (lefts 0 o)) ∷ []) ∵ drop ! $ done !
  pages_in (suc k) xs o e =
      let step : suc k * 8192 ≡ k * 8192 + 8192 = suc-mul k 8192 in
      let long : length (take 8192 xs) ≡ 8192 = length-take-le 8192 xs (omega arith) in
      let fewer : length (drop_list 8192 xs) ≡ length xs - 8192 = length-drop 8192 xs in
      let on : at o (mem u8).size (length (take 8192 xs)) ≡ length (take 8192 xs) * 1 + o = at_mul o (mem u8).size (length (take 8192 xs)) in
      let past : at o (mem u8).size (length (take 8192 xs)) ≡ o + 8192 = omega arith in
      qed 𝓛 (‵ (fsep (cells (mem u8) xs b o) (lefts (suc k) o)) ∷ []) ∵ fsplit ! $
      rewrite ! 0 (λ (l : List ℕ). ‵ (cells (mem u8) l b o)) (sym (take-append-drop 8192 xs)) refl $
      use1 𝓛 (‵ (cells (mem u8) (take 8192 xs) b o) ⊛ ‵ (cells (mem u8) (drop_list 8192 xs) b (at o (mem u8).size (length (take 8192 xs))))) (cut_app 𝓛 (mem u8) (take 8192 xs) (drop_list 8192 xs) b o) $ split ! $
      move ! (2 ∷ []) $ fsplit ! $ move ! (2 ∷ 0 ∷ []) $ fjoin ! $
      use1 𝓛 (‵ ((mem P).own_at (take 8192 xs) b o)) (page_in (take 8192 xs) o long) $ move ! (2 ∷ []) $
      rewrite ! 0 (λ (p : ℕ). ‵ (cells (mem u8) (drop_list 8192 xs) b p)) past refl $ move ! (0 ∷ 2 ∷ []) $ fjoin ! $
      use1 𝓛 (‵ (cells (mem P) (first_chunks 8192 k (drop_list 8192 xs)) b (o + 8192))) (pages_in k (drop_list 8192 xs) (o + 8192) (omega arith)) $
      move ! (1 ∷ 0 ∷ []) $ fjoin ! $ done !

pub length-chunks : {X : Type 0} (n k : ℕ) (xs : List X) → length (first_chunks n k xs) ≡ k
length-chunks n zero xs = refl
length-chunks n (suc k) xs = ap (λ (j : ℕ). suc j) (length-chunks n k (drop_list n xs))

module _ {M : Type 1} {𝓤 : Ura M} (𝓛 : Logic 𝓤) (ℓ : Lifetime) (κ : Lft) (q : Share) (b o : ℕ) (γ : GName) (ys : List (List ℕ)) where
  open 𝓛 use {H, A}

  abbrev xs : List ℕ
  xs = flat_map (λ x. x) ys

  abbrev cut : List ℕ → List (List ℕ)
  cut = first_chunks 8192 (length ys)

  -- the bytes are lent, and there are 8192 for each page
  abbrev pub bytes_lent : GName → Item 𝓤
  bytes_lent δ = given (length xs ≡ length ys * 8192) (‵ ((MutSlice ℓ κ u8).own_val (record { ref_ptr = (b, o); ghost_name = δ; now = xs }) (slice_val (b, o) (length xs) ∷ [])) ⊛ ‵ (flft κ q) ⊛ ‵ (follows (Array P 0) (Array u8 0) γ δ cut))

  abbrev pub BytesLent : GName → SProp 𝓤
  BytesLent δ = guard 𝓤 (length xs ≡ length ys * 8192) (sep 𝓤 (sem 𝓛 ((MutSlice ℓ κ u8).own_val (record { ref_ptr = (b, o); ghost_name = δ; now = xs }) (slice_val (b, o) (length xs) ∷ []))) (sep 𝓤 (A.lft κ q) (sem 𝓛 (follows (Array P 0) (Array u8 0) γ δ cut))))

  puts_pages : length xs ≡ length ys * 8192 → (ws : List ℕ)
      → ent 𝓤 (sep 𝓤 (sem 𝓛 ((Arr (mem u8) (length xs)).own_at ws b o)) (sem 𝓛 (lefts 𝓛 b (length ys) o))) (sem 𝓛 ((Arr (mem P) (length ys)).own_at (cut ws) b o))
  puts_pages l ws = qed 𝓛 (‵ ((Arr (mem u8) (length xs)).own_at ws b o) ∷ ‵ (lefts 𝓛 b (length ys) o) ∷ []) ∵ fsplit ! $ feq_l ! (λ e. fjoin ! $
      use1 𝓛 (‵ (cells (mem P) (cut ws) b o)) (pages_in 𝓛 b (length ys) ws o (sym (e ∙ l))) $
      feq_i ! ℕ (length (cut ws)) (length ys) (length-chunks 8192 (length ys) ws) $ fjoin ! $ done !)

  pub lends_bytes : Room u8 (length ys * 8192) → (vs : List Val)
      → ent 𝓤 (sep 𝓤 (sem 𝓛 ((MutSlice ℓ κ P).own_val (record { ref_ptr = (b, o); ghost_name = γ; now = ys }) vs)) (A.lft κ q)) (H.⇛ (ex 𝓤 BytesLent))
  lends_bytes rm vs = qed 𝓛 (‵ ((MutSlice ℓ κ P).own_val (record { ref_ptr = (b, o); ghost_name = γ; now = ys }) vs) ∷ ‵ (flft κ q) ∷ []) ∵ updating ! $ fsplit3 ! $ drop ! $
      rewrite ! 0 (λ (l : List (List ℕ)). ‵ (fobs γ ((coded_list P.coded).code l))) (heres_id P ys) refl $ open_ref ! tt (Arr (mem P) (length ys)) {b = b} {o = o} $ fsplit ! $ drop ! $
      use1 𝓛 (given (length xs ≡ length ys * 8192) (‵ (fsep (cells (mem u8) xs b o) (lefts 𝓛 b (length ys) o)))) (pages_out 𝓛 b ys o) $ learn ! (λ l. fsplit ! $
      feq_i ! ℕ (length xs) (length xs) refl $ fjoin ! $ move ! (2 ∷ 3 ∷ 4 ∷ 0 ∷ 1 ∷ []) $ group ! 5 $
      use1 𝓛 (later (some (λ (δ : GName). ‵ (fobs δ ((coded_list u8.coded).code xs)) ⊛ ‵ (fbor κ (Body (Arr (mem u8) (length xs)) b o δ)) ⊛ ‵ (flft κ q) ⊛ ‵ (follows (Array P 0) (Array u8 0) γ δ cut))))
      (takes_part 𝓛 (Arr (mem P) (length ys)) (Arr (mem u8) (length xs)) cut κ q b o b o γ (sem 𝓛 (lefts 𝓛 b (length ys) o)) (puts_pages l) ((coded_list P.coded).code ys) ((coded_list P.coded).code ys) xs) $ await ! tt $ pick ! (λ δ. split3 ! $
      use2 𝓛 (‵ ((MutSlice ℓ κ u8).own_val (record { ref_ptr = (b, o); ghost_name = δ; now = xs }) (slice_val (b, o) (length xs) ∷ []))) (slice_of 𝓛 u8 ℓ κ b o δ xs (subst (Room u8) (sym l) rm)) $ now ! $ show ! BytesLent δ $ check ! l $ done !))

module _ {M : Type 1} {𝓤 : Ura M} (𝓛 : Logic 𝓤) (ℓ : Lifetime) (κ : Lft) (q : Share) (b o : ℕ) (γ : GName) (ys : List (List ℕ)) (m : ℕ) (le : m ≤ length ys) where
  open 𝓛 use {H, A}

  abbrev front : List (List ℕ)
  front = take m ys

  abbrev back : List (List ℕ)
  back = drop_list m ys

  abbrev bytes : List ℕ
  bytes = flat_map (λ x. x) front

  abbrev p : ℕ
  p = m * 8192 + o

  abbrev together : List ℕ → List (List ℕ) → List (List ℕ)
  together ws zs = first_chunks 8192 m ws ++ zs

  abbrev pub first_ref : GName × GName → MutBor (List ℕ)
  first_ref δ = record { ref_ptr = (b, o); ghost_name = δ.0; now = bytes }

  abbrev pub other_ref : GName × GName → MutBor (List (List ℕ))
  other_ref δ = record { ref_ptr = (b, p); ghost_name = δ.1; now = back }

  abbrev tie : GName × GName → Fml
  tie δ = after₂ (Arr (mem P) 0) (Arr (mem u8) 0) (Arr (mem P) 0) γ δ.0 δ.1 together

  abbrev pub split_lent : GName × GName → Item 𝓤
  split_lent δ = given (length bytes ≡ m * 8192) (‵ ((MutSlice ℓ κ u8).own_val (first_ref δ) (slice_val (b, o) (length bytes) ∷ [])) ⊛ ‵ ((MutSlice ℓ κ P).own_val (other_ref δ) (slice_val (b, p) (length back) ∷ [])) ⊛ ‵ (flft κ q) ⊛ ‵ (tie δ))

  abbrev pub SplitLent : GName × GName → SProp 𝓤
  SplitLent δ = guard 𝓤 (length bytes ≡ m * 8192) (sep 𝓤 (sem 𝓛 ((MutSlice ℓ κ u8).own_val (first_ref δ) (slice_val (b, o) (length bytes) ∷ []))) (sep 𝓤 (sem 𝓛 ((MutSlice ℓ κ P).own_val (other_ref δ) (slice_val (b, p) (length back) ∷ []))) (sep 𝓤 (A.lft κ q) (sem 𝓛 (tie δ)))))

  starts : (k : ℕ) → k ≡ m → at o 8192 k ≡ p
  starts k e = at_mul o 8192 k ∙ ap (λ (j : ℕ). j * 8192 + o) e

  puts_split : length bytes ≡ m * 8192 → (ws : List ℕ) (zs : List (List ℕ))
      → ent 𝓤 (sep 𝓤 (sem 𝓛 ((Arr (mem u8) (length bytes)).own_at ws b o)) (sep 𝓤 (sem 𝓛 ((Arr (mem P) (length back)).own_at zs b p)) (sem 𝓛 (lefts 𝓛 b m o)))) (sem 𝓛 ((Arr (mem P) (length ys)).own_at (together ws zs) b o))
  puts_split l ws zs = qed 𝓛 (‵ ((Arr (mem u8) (length bytes)).own_at ws b o) ∷ ‵ ((Arr (mem P) (length back)).own_at zs b p) ∷ ‵ (lefts 𝓛 b m o) ∷ []) ∵ fsplit ! $ feq_l ! (λ e. move ! (1 ∷ []) $ fsplit ! $ feq_l ! (λ k.
      let whole : length (take m ys) ≡ m = length-take-le m ys le in
      let fewer : length back ≡ length ys - m = length-drop m ys in
      let many : length (first_chunks 8192 m ws) ≡ m = length-chunks 8192 m ws in
      let both : length (together ws zs) ≡ length (first_chunks 8192 m ws) + length zs = length-append (first_chunks 8192 m ws) zs in
      move ! (1 ∷ 2 ∷ []) $ fjoin ! $ use1 𝓛 (‵ (cells (mem P) (first_chunks 8192 m ws) b o)) (pages_in 𝓛 b m ws o (sym (e ∙ l))) $ move ! (1 ∷ []) $
      rewrite ! 0 (λ (j : ℕ). ‵ (cells (mem P) zs b j)) (sym (starts (length (first_chunks 8192 m ws)) many)) refl $ move ! (1 ∷ 0 ∷ []) $
      use2 𝓛 (‵ (cells (mem P) (together ws zs) b o)) (join_app 𝓛 (mem P) (first_chunks 8192 m ws) zs b o) $
      feq_i ! ℕ (length (together ws zs)) (length ys) (omega arith) $ fjoin ! $ done !))

  pub lends_split : Room u8 (m * 8192) → Room P (length back) → (vs : List Val)
      → ent 𝓤 (sep 𝓤 (sem 𝓛 ((MutSlice ℓ κ P).own_val (record { ref_ptr = (b, o); ghost_name = γ; now = ys }) vs)) (A.lft κ q)) (H.⇛ (ex 𝓤 SplitLent))
  lends_split rm roomy vs = qed 𝓛 (‵ ((MutSlice ℓ κ P).own_val (record { ref_ptr = (b, o); ghost_name = γ; now = ys }) vs) ∷ ‵ (flft κ q) ∷ []) ∵ updating ! $ fsplit3 ! $ drop ! $
      let whole : length front ≡ m = length-take-le m ys le in
      rewrite ! 0 (λ (l : List (List ℕ)). ‵ (fobs γ ((coded_list P.coded).code l))) (heres_id P ys) refl $ open_ref ! tt (Arr (mem P) (length ys)) {b = b} {o = o} $ fsplit ! $ drop ! $
      rewrite ! 0 (λ (l : List (List ℕ)). ‵ (cells (mem P) l b o)) (sym (take-append-drop m ys)) refl $
      use1 𝓛 (‵ (cells (mem P) front b o) ⊛ ‵ (cells (mem P) back b (at o (mem P).size (length front)))) (cut_app 𝓛 (mem P) front back b o) $ split ! $
      rewrite ! 1 (λ (j : ℕ). ‵ (cells (mem P) back b j)) (starts (length front) whole) refl $
      use1 𝓛 (given (length bytes ≡ length front * 8192) (‵ (fsep (cells (mem u8) bytes b o) (lefts 𝓛 b (length front) o)))) (pages_out 𝓛 b front o) $ learn ! (λ l'. fsplit ! $
      let l : length bytes ≡ m * 8192 = l' ∙ ap (λ (j : ℕ). j * 8192) whole in
      rewrite ! 1 (λ (j : ℕ). ‵ (lefts 𝓛 b j o)) whole refl $
      feq_i ! ℕ (length bytes) (length bytes) refl $ fjoin ! $ move ! (2 ∷ []) $ feq_i ! ℕ (length back) (length back) refl $ fjoin ! $
      -- [the other pages; the bytes; the rest of the pages' places; the open borrow; ..]
      move ! (3 ∷ 4 ∷ 5 ∷ 1 ∷ 0 ∷ 2 ∷ []) $ group ! 6 $
      use1 𝓛 (later (some (λ (δ : GName × GName). (‵ (fobs δ.0 ((coded_list u8.coded).code bytes)) ⊛ ‵ (fbor κ (Body (Arr (mem u8) (length bytes)) b o δ.0))) ⊛ (‵ (fobs δ.1 ((coded_list P.coded).code back)) ⊛ ‵ (fbor κ (Body (Arr (mem P) (length back)) b p δ.1))) ⊛ ‵ (flft κ q) ⊛ ‵ (tie δ))))
      (takes_two 𝓛 (Arr (mem P) (length ys)) (Arr (mem u8) (length bytes)) (Arr (mem P) (length back)) together κ q b o b o b p γ (sem 𝓛 (lefts 𝓛 b m o)) (puts_split l) ((coded_list P.coded).code ys) ((coded_list P.coded).code ys) bytes back) $ await ! tt $ pick ! (λ δ. split3 ! $
      use1 𝓛 (‵ ((MutSlice ℓ κ u8).own_val (first_ref δ) (slice_val (b, o) (length bytes) ∷ []))) (slice_of 𝓛 u8 ℓ κ b o δ.0 bytes (subst (Room u8) (sym l) rm)) $ move ! (1 ∷ []) $
      use1 𝓛 (‵ ((MutSlice ℓ κ P).own_val (other_ref δ) (slice_val (b, p) (length back) ∷ []))) (slice_of 𝓛 P ℓ κ b p δ.1 back roomy) $ move ! (1 ∷ 0 ∷ []) $ now ! $ show ! SplitLent δ $ check ! l $ done !))
