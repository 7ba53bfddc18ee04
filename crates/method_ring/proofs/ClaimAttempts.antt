-- What an actor saw to stays so, whatever comes before or after.
use Rattle.std.proofs.Common.{List, [], ◌∷◌, ◌++◌, ap, ◌∙◌, inl, inr, ⊎_elim, append_assoc}
use Rattle.std.specs.List.{All}
use Rattle.std.proofs.lemmas.List.Elements.{All-push, All-append, All-nil}
use Rattle.aio_word.specs.declared.Known.{Known}
use Rattle.aio_word.specs.declared.Kind.TheVariants as kind
use Rattle.aio_word.specs.declared.Look.{Look}
use Rattle.aio_word.specs.declared.Mark.{Mark}
use Rattle.aio_word.specs.declared.WaitRef.{WaitRef}
use Rattle.aio_word.specs.Words.{packed_word}
use Rattle.aio_word.specs.Tokens.{AppendsMarks, make_mark}
use Rattle.aio_word.proofs.ReplacedElement.{in-left, in-right}
use Rattle.aio_handle.specs.KnownChanges.{look}
use Rattle.method_ring.specs.ClaimAttempts.{AppendsClaim, FindsUnclaimable}
use Rattle.method_ring.specs.ClaimAttempts.{ClaimsOrFindsUnclaimable}

sees-later : (t : WaitRef) (ms : List Mark) (p q r : Known) → ClaimsOrFindsUnclaimable p q t
    → AppendsMarks q r ms
    → ClaimsOrFindsUnclaimable p r t
sees-later t ms p q r s g = ⊎_elim
    (λ (c : AppendsClaim t p q). inl (record {
      more = c.more ++ ms;
      marks = g.marks ∙ (ap (λ (l : List Mark). l ++ ms) c.marks ∙ append_assoc p.marks c.more ms);
      has_claim = in-left (make_mark t kind.Claimed) c.more ms c.has_claim;
    }))
    (λ (f : FindsUnclaimable t p q). inr (record {
      more = f.more ++ g.looks.0;
      looks = g.looks.1 ∙ (ap (λ (l : List Look). l ++ g.looks.0) f.looks
          ∙ append_assoc p.looks f.more g.looks.0);
      word = f.word;
      lawful = f.lawful;
      look_found = in-left (look t.handle (packed_word f.word)) f.more g.looks.0 f.look_found;
      not_claimable = f.not_claimable;
    })) s

sees-earlier : (t : WaitRef) (ms : List Mark) (p q r : Known) → AppendsMarks p q ms
    → ClaimsOrFindsUnclaimable q r t
    → ClaimsOrFindsUnclaimable p r t
sees-earlier t ms p q r g s = ⊎_elim
    (λ (c : AppendsClaim t q r). inl (record {
      more = ms ++ c.more;
      marks = c.marks ∙ (ap (λ (l : List Mark). l ++ c.more) g.marks
          ∙ append_assoc p.marks ms c.more);
      has_claim = in-right (make_mark t kind.Claimed) ms c.more c.has_claim;
    }))
    (λ (f : FindsUnclaimable t q r). inr (record {
      more = g.looks.0 ++ f.more;
      looks = f.looks ∙ (ap (λ (l : List Look). l ++ f.more) g.looks.1
          ∙ append_assoc p.looks g.looks.0 f.more);
      word = f.word;
      lawful = f.lawful;
      look_found = in-right (look t.handle (packed_word f.word)) g.looks.0 f.more f.look_found;
      not_claimable = f.not_claimable;
    })) s

pub each-later : (ts : List WaitRef) (ms : List Mark) (p q r : Known)
    → All (ClaimsOrFindsUnclaimable p q) ts
    → AppendsMarks q r ms → All (ClaimsOrFindsUnclaimable p r) ts
each-later ts ms p q r all g = λ k d lt. sees-later _ ms p q r (all k d lt) g

pub each-of-none : (p q : Known) → All (ClaimsOrFindsUnclaimable p q) []
each-of-none p q = All-nil (ClaimsOrFindsUnclaimable p q)

pub each-of-one : (p q : Known) (t : WaitRef) → ClaimsOrFindsUnclaimable p q t
    → All (ClaimsOrFindsUnclaimable p q) (t ∷ [])
each-of-one p q t s = All-push (ClaimsOrFindsUnclaimable p q) [] t (each-of-none p q) s

-- what was seen to before a turn, and in it
pub each-then : (ts us : List WaitRef) (ms ns : List Mark) (p q r : Known)
    → All (ClaimsOrFindsUnclaimable p q) ts
    → AppendsMarks p q ms → AppendsMarks q r ns → All (ClaimsOrFindsUnclaimable q r) us
    → All (ClaimsOrFindsUnclaimable p r) (ts ++ us)
each-then ts us ms ns p q r before grows more now = All-append (ClaimsOrFindsUnclaimable p r) ts us
    (each-later ts ns p q r before more) (λ k d lt. sees-earlier _ ms p q r grows (now k d lt))
