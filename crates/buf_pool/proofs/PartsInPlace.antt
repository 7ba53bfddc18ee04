-- How the parts of a pool are made, one after the other.
use Rattle.std.proofs.Common.{◌≡◌, ℕ, suc, ◌+◌, ◌<◌, ◌≤◌, List, [], ◌∷◌, ◌++◌, length}
use Rattle.std.proofs.Common.{arith, ⊎_elim, ◌∙◌, ap, sym, subst, refl}
use Rattle.std.proofs.lemmas.List.{get_or_push, get_or_append_left, length_push}
use Rattle.std.proofs.lemmas.List.Sums.{sum_by_push}
use Rattle.std.proofs.lemmas.Bool.{cases_lt}
use Rattle.crossbeam_utils.specs.declared.cache_padded.CachePadded.{CachePadded}
use Rattle.page_check.specs.declared.world.World.{Ghosts}
use Rattle.buf_pool.specs.declared.part.Part.{Part}
use Rattle.buf_pool.specs.Parts.{part_count, part_size, first_frame}
use Rattle.buf_pool.specs.PoolParts.{slots_of, frames_of, IsPart, AreInPlace, AreParts}
use Rattle.buf_pool.proofs.PartFrames.{next_first, first_of_all, first_after_last}

module _ {W : Type 0} {m : Ghosts W} where
  -- these are the parts below this number, and the next one begins at this frame
  pub record AreSoFar (frames part first : ℕ) (parts : List (CachePadded (Part W m))) : Type 0 where
    pub count : length parts ≡ part
    pub start : first ≡ first_frame frames part
    pub sum : frames_of parts ≡ first
    pub places : AreInPlace frames parts

  -- with the next part
  pub one_more : (frames part first size : ℕ) (parts : List (CachePadded (Part W m)))
      (next : CachePadded (Part W m))
      → AreSoFar frames part first parts → IsPart frames part next → slots_of next ≡ size
      → size ≡ part_size frames part → AreSoFar frames (suc part) (first + size)
      (parts ++ next ∷ [])
  one_more frames part first size parts next so_far is slots has = record {
    count = omega (arith, length_push parts next, so_far.count);
    start = omega (arith, so_far.start, has, next_first frames part);
    sum = omega (arith, sum_by_push slots_of parts next, so_far.sum, slots);
    places = λ p other inside.
        ⊎_elim
        (λ (before : p < length parts).
        subst (λ x. IsPart frames p x) (sym (get_or_append_left parts (next ∷ []) other p before))
        (so_far.places p other before))
        (λ (last : length parts ≤ p).
        let size : length (parts ++ next ∷ []) ≡ length parts + 1 = length_push parts next in
        let here : length parts ≡ p = omega arith in
        let at : part ≡ p = sym so_far.count ∙ here in
        subst (λ x. IsPart frames p x) (sym (get_or_push parts next other p here))
        (is.0 ∙ at, is.1))
        (cases_lt p (length parts));
  }

  -- with none yet
  pub none_so_far : (frames : ℕ) (parts : List (CachePadded (Part W m))) → parts ≡ []
      → AreSoFar frames 0 0 parts
  none_so_far frames parts e =
      subst (λ x. AreSoFar frames 0 0 x) (sym e) (record {
        count = refl;
        start = sym (first_of_all frames);
        sum = refl;
        places = λ p other inside. absurd (omega (arith, inside));
      })

  -- with the last one the pool is whole
  pub whole : (frames part first : ℕ) (parts : List (CachePadded (Part W m))) → 16 ≤ frames
      → part ≡ part_count frames → AreSoFar frames part first parts → frames_of parts ≡ frames
  whole frames part first parts least last so_far =
      so_far.sum ∙ so_far.start ∙ ap (first_frame frames) last ∙ first_after_last frames least

  pub divided : (frames part first : ℕ) (parts : List (CachePadded (Part W m))) → 16 ≤ frames
      → part ≡ part_count frames → AreSoFar frames part first parts
      → AreParts (frames_of parts) parts
  divided frames part first parts least last so_far =
      subst (λ x. AreParts x parts) (sym (whole frames part first parts least last so_far))
      (record {
        range = least;
        count = so_far.count ∙ last;
        places = so_far.places;
      })
