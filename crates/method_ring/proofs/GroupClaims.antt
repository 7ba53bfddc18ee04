-- I/Os that are claimed for a group.
use Rattle.std.proofs.Common.{◌≡◌, ◌≢◌, ℕ, ◌+◌, List, [], ◌∷◌, ◌++◌, length, Some}
use Rattle.std.proofs.Common.{refl, sym, ap, ◌∙◌, subst, ⊎_elim, arith, append-nil, append_assoc}
use Rattle.std.proofs.Common.{length-append}
use Rattle.std.proofs.lemmas.List.{map-append}
use Rattle.page_check.specs.declared.world.World.{Ghosts as WorldGhosts}
use Rattle.aio_word.specs.declared.Known.{Known}
use Rattle.aio_word.specs.declared.Mark.{Mark}
use Rattle.aio_word.specs.declared.Word.{Word}
use Rattle.aio_word.specs.declared.WaitRef.{WaitRef}
use Rattle.aio_word.specs.declared.Kind.TheVariants as kind
use Rattle.aio_word.specs.declared.Step.TheVariants as event
use Rattle.aio_word.specs.Stands.{IsIn, seen_rank}
use Rattle.aio_word.specs.Tokens.{AppendsMarks, MarksOnceAndSeen, IsClaimed, make_mark}
use Rattle.aio_handle.specs.UnchangedTokens.{ClaimUnchanged}
use Rattle.aio_handle.specs.Labels.{bound_label}
use Rattle.aio_handle.specs.LifeWords.{unclaimed_word, claimed_word}
use Rattle.aio_handle.specs.CallEvents.{EventMade, WordLoaded}
use Rattle.aio_handle.proofs.ListsGrow.{claim-grows, appends-none, appends-then, look-on}
use Rattle.aio_handle.proofs.TokensStay.{claim-unchanged-by-claim, claimed-is-other}
use Rattle.aio_handle.proofs.TokensStay.{claim-unchanged-by-look}
use Rattle.aio_callback.specs.ReadIoView.{ReadIoView, ReadFits, record_aim}
use Rattle.method_ring.specs.ClaimedIos.{ClaimedIo, claimed_mark, without_claimed}
use Rattle.method_ring.specs.ClaimedIos.{claimed_with_number, IsClaimedIo}
use Rattle.method_ring.specs.ClaimedIos.{AllClaimedIos, NumbersBelow}
use Rattle.method_ring.specs.RingRunner.{group_claims, GathersIos}
use Rattle.method_ring.proofs.NumberedLookup.{in-pushed, apart-push, apart-without, in-without}
use Rattle.method_ring.proofs.NumberedLookup.{others-differ}

-- what is held stays held where each token is kept
pub held-on : {W : Type 0} (world : WorldGhosts W) (p q : Known) (x : ClaimedIo)
    → ClaimUnchanged x.1.0 p q → IsClaimedIo world p x → IsClaimedIo world q x
held-on world p q x k h = record {
  claimed = k.claimed h.claimed;
  aim = k.aims (record_aim x.1.1) h.aim;
  label = h.label;
  fits = h.fits;
}

pub below-push : (held : List ClaimedIo) (x : ClaimedIo) → x.0 ≡ length held
    → NumbersBelow (length held) held
    → NumbersBelow (length (held ++ x ∷ [])) (held ++ x ∷ [])
below-push held x same below y i =
    let n = length-append held (x ∷ []) in
    ⊎_elim (λ old. let b = below y old in omega arith)
    (λ (e : x ≡ y). let z : x.0 ≡ y.0 = ap (λ (h : ClaimedIo). h.0) e in omega arith)
    (in-pushed held x y i)

-- a claim that was won
pub gathers-won : {W : Type 0} (world : WorldGhosts W) (p q : Known) (held : List ClaimedIo)
    (t : WaitRef) (c : WaitRef × ReadIoView) → MarksOnceAndSeen (seen_rank p) p.marks → c.0 ≡ t
    → EventMade event.Claim t.handle (unclaimed_word t.generation) (claimed_word t.generation)
    (record_aim c.1) p q
    → IsClaimed q c.0 → IsIn (c.0, record_aim c.1) q.aims
    → c.1.label ≡ bound_label t.handle t.generation
    → ReadFits world.told world.relations c.1 → NumbersBelow (length held) held
    → AllClaimedIos world p held
    → GathersIos world 1 p q held (held ++ (length held, c) ∷ [])
gathers-won world p q held t c keeps same m token aim label fits below holds =
    let x : ClaimedIo = (length held, c) in record {
      others = x ∷ [];
      at_most = omega arith;
      claimed_ios_are = refl;
      numbers = below-push held x refl below;
      marks_grow = subst (λ (z : WaitRef). AppendsMarks p q (make_mark z kind.Claimed ∷ []))
          (sym same)
          (claim-grows t.handle t.generation (record_aim c.1) p q m);
      all_claimed = record {
        each = λ y i. ⊎_elim
            (λ old. held-on world p q y
            (claim-unchanged-by-claim y.1.0 t.handle t.generation (record_aim c.1) p q keeps m)
            (holds.each y old))
            (λ (e : x ≡ y). subst (λ (z : ClaimedIo). IsClaimedIo world q z) e (record {
              claimed = token;
              aim = aim;
              label = label ∙ sym (ap (λ (z : WaitRef). bound_label z.handle z.generation) same);
              fits = fits;
            })) (in-pushed held x y i);
        references_differ = apart-push held x holds.references_differ (λ y i e. claimed-is-other
            y.1.0 t.handle
            t.generation (record_aim c.1) p q keeps m (holds.each y i).claimed (e ∙ same));
      };
    }

-- a claim that was lost
pub gathers-lost : {W : Type 0} (world : WorldGhosts W) (p q : Known) (held : List ClaimedIo)
    (h : ℕ) (w : Word) → WordLoaded h w p q → NumbersBelow (length held) held
    → AllClaimedIos world p held → GathersIos world 1 p q held held
gathers-lost world p q held h w l below holds = record {
  others = [];
  at_most = omega arith;
  claimed_ios_are = sym (append-nil held);
  numbers = below;
  marks_grow = look-on h w p q l;
  all_claimed = record {
    each = λ y i. held-on world p q y (claim-unchanged-by-look y.1.0 h w p q l)
        (holds.each y i);
    references_differ = holds.references_differ;
  };
}

pub gathers-none : {W : Type 0} (world : WorldGhosts W) (p : Known) (held : List ClaimedIo)
    → NumbersBelow (length held) held → AllClaimedIos world p held
    → GathersIos world 0 p p held held
gathers-none world p held below holds = record {
  others = [];
  at_most = omega arith;
  claimed_ios_are = sym (append-nil held);
  numbers = below;
  marks_grow = appends-none p;
  all_claimed = holds;
}

pub gathers-then : {W : Type 0} (world : WorldGhosts W) (n m : ℕ) (p q r : Known)
    (held held' held'' : List ClaimedIo) → GathersIos world n p q held held'
    → GathersIos world m q r held' held''
    → GathersIos world (n + m) p r held held''
gathers-then world n m p q r held held' held'' a b = record {
  others = a.others ++ b.others;
  at_most = let x = a.at_most in let y = b.at_most in let z = length-append a.others b.others in
      omega arith;
  claimed_ios_are = b.claimed_ios_are ∙ (ap (λ (hs : List ClaimedIo). hs ++ b.others)
      a.claimed_ios_are
      ∙ append_assoc held a.others b.others);
  numbers = b.numbers;
  marks_grow = subst (λ (ms : List Mark). AppendsMarks p r ms)
      (sym (map-append claimed_mark a.others b.others))
      (appends-then p q r (group_claims a.others) (group_claims b.others) a.marks_grow
      b.marks_grow);
  all_claimed = b.all_claimed;
}

-- what is left is held, after one I/O has ended
pub held-without : {W : Type 0} (world : WorldGhosts W) (p q : Known) (n : ℕ)
    (held : List ClaimedIo)
    (x : ClaimedIo) → claimed_with_number n held ≡ Some x
    → ((t : WaitRef) → t ≢ x.1.0 → ClaimUnchanged t p q) → AllClaimedIos world p held
    → AllClaimedIos world q (without_claimed n held)
held-without world p q n held x is kept holds = record {
  each = λ y i. held-on world p q y
      (kept y.1.0 (others-differ n held x y holds.references_differ is i))
      (holds.each y (in-without n held y i));
  references_differ = apart-without n held holds.references_differ;
}
