-- A table of one actor: its list has all marks of an incarnation.
use Rattle.std.proofs.Common.{◌≡◌, ◌≢◌, ℕ, ◌+◌, ◌*◌, ◌<◌, List, [], ◌∷◌, ◌++◌, length}
use Rattle.std.proofs.Common.{sum_by, refl, sym, ap, ◌∙◌, subst, inr, ⊎_elim, arith, nat_lt}
use Rattle.std.proofs.lemmas.Bool.Decides.{nat_tests}
use Rattle.std.proofs.lemmas.List.Sums.{sum_by-cons}
use mathlib.Core.Logic.{dite}
use native.Mathlib.Decide.{ℕ_discrete}
use Rattle.aio_word.specs.declared.Config.{Config}
use Rattle.aio_word.specs.declared.Class.{Class}
use Rattle.aio_word.specs.declared.Kind.{Kind}
use Rattle.aio_word.specs.declared.Kind.TheVariants as kind
use Rattle.aio_word.specs.declared.Step.TheVariants as event
use Rattle.aio_word.specs.declared.Known.{Known}
use Rattle.aio_word.specs.declared.Mark.{Mark}
use Rattle.aio_word.specs.Events.{actor_count, handle_count, owner, kind_place, mark_rank}
use Rattle.aio_word.specs.Events.{is_mark, count_at_rank, mark_count, wait_ref}
use Rattle.aio_word.proofs.ReplacedElement.{in-left}
use Rattle.aio_word.proofs.AppendKeepsHandle.{mark_by_parts, counted-in}
use Rattle.aio_word.proofs.ListWithMark.{with_mark-list}
use Rattle.aio_word.specs.Stands.{IsIn, one_if, seen_rank, AtMoment}
use Rattle.aio_word.specs.Tokens.{MarksOnceAndSeen}
use Rattle.aio_word.proofs.EventEffect.{get-at}
use Rattle.aio_word.proofs.OwnMarksBoundWord.{kind_place-small, has-counted, is-that}
use Rattle.aio_handle.specs.CallEvents.{EventMade, HasWholeLife}
use Rattle.aio_handle.specs.LifeWords.{completed_word, taken_word}
use Rattle.aio_handle.proofs.TokensAfterEvent.{counts-apart, marks-once-on, stands-new}

sole : (ps : List Known) (p : Known) → length ps ≡ 1 → IsIn p ps → ps ≡ p ∷ []
sole [] p e i = absurd i
sole (q ∷ []) p e i = ⊎_elim (λ x. ap (λ (z : Known). z ∷ []) x) (λ x. absurd x) i
sole (q ∷ r ∷ ps) p e i = absurd (omega arith)

less-six : (o : ℕ) → o ≢ 6 → o < 8 → one_if (nat_lt o 6) ≡ one_if (nat_lt o 7)
less-six o ne lt = grind (arith, nat_tests)

pub one-list : (c : Config) (p : Known) (h : ℕ) (class : Class) (g : ℕ)
    → AtMoment c p h (completed_word class g) → actor_count c ≡ 1 → (k : Kind)
    → mark_count (wait_ref h g) k p.marks ≡ one_if (nat_lt (kind_place k) 6)
one-list c p h class g m one k =
    let s = m.words_match_lists.each_handle h (completed_word class g)
    (get-at m.machine.words h (completed_word class g) m.word) in
    let e : m.parts ≡ p ∷ [] = sole m.parts p (m.all ∙ one) m.here in
    let f : Known → ℕ = λ q. count_at_rank h (8 * g + kind_place k) q.marks in
    let a : sum_by f (p ∷ []) ≡ one_if (nat_lt (kind_place k) 6) = subst
    (λ (z : List Known). sum_by f z ≡ one_if (nat_lt (kind_place k) 6)) e (s.now k) in
    let b = sum_by-cons f p [] in
    let z : sum_by f [] ≡ 0 = refl in
    let goal : f p ≡ one_if (nat_lt (kind_place k) 6) = omega arith in goal

-- after the owner has taken the result, the seven marks up to Local stand once each in its list,
-- and no other
pub seven-marks : (c : Config) (p q : Known) (h : ℕ) (class : Class) (g : ℕ) (aim : List ℕ)
    → MarksOnceAndSeen (seen_rank p) p.marks → p.config ≡ c
    → EventMade event.Local h (completed_word class g) (taken_word class g) aim p q
    → actor_count c ≡ 1
    → (k : Kind)
    → mark_count (wait_ref h g) k q.marks ≡ one_if (nat_lt (kind_place k) 7)
seven-marks c p q h class g aim kp cf m one k =
    let was = one-list c p h class g
    (subst (λ (z : Config). AtMoment z p h (completed_word class g)) cf m.moment) one k in
    dite (ℕ_discrete (kind_place k) 6)
    (λ e.
    let st : 0 < count_at_rank h (8 * g + 6) q.marks = subst
    (λ (z : Known). 0 < count_at_rank h (8 * g + 6) z.marks) (sym m.is)
    (stands-new (seen_rank p) h g (kind.Local class) p.marks kp m.before) in
    let le = (marks-once-on event.Local h (completed_word class g)
    (taken_word class g) aim p q m kp).once h
    (8 * g + 6) in
    let one' : count_at_rank h (8 * g + 6) q.marks ≡ 1 = omega arith in
    subst (λ (z : ℕ). count_at_rank h (8 * g + z) q.marks ≡ one_if (nat_lt z 7)) (sym e) one')
    (λ ne. counts-apart event.Local h (completed_word class g) (taken_word class g) aim p q m h
    (8 * g + kind_place k) (inr (λ x. ne (omega arith))) ∙
    (was ∙ less-six (kind_place k) ne (kind_place-small k)))

pub is-io : (k : Kind) → kind_place k ≡ 4 → (x : Class) × (k ≡ kind.Io x)
is-io kind.Defined e = absurd (omega arith)
is-io kind.Staged e = absurd (omega arith)
is-io kind.Submitted e = absurd (omega arith)
is-io kind.Claimed e = absurd (omega arith)
is-io (kind.Io x) e = (x, refl)
is-io kind.Shared e = absurd (omega arith)
is-io (kind.Local x) e = absurd (omega arith)
is-io kind.Reclaimed e = absurd (omega arith)

pub mark-is : (m : Mark) (h g : ℕ) (k : Kind) → m.handle ≡ h → m.generation ≡ g → m.kind ≡ k
    → m ≡ mark_by_parts h g k
mark-is m h g k eh eg ek = λ i. mark_by_parts (eh i) (eg i) (ek i)

-- a mark that is counted once stands in the list, with the word's class
io-stands : (c : Config) (p : Known) (h : ℕ) (class : Class) (g : ℕ)
    → AtMoment c p h (completed_word class g) → count_at_rank h (8 * g + 4) p.marks ≡ 1
    → IsIn (mark_by_parts h g (kind.Io class)) p.marks
io-stands c p h class g m one =
    let found = has-counted (λ x. one_if (is_mark h (8 * g + 4) x)) p.marks (omega arith) in
    let (eh, er) = is-that h (8 * g + 4) found.it found.more in
    let small = kind_place-small found.it.kind in
    let four : kind_place found.it.kind ≡ 4 = omega arith in
    let same : found.it.generation ≡ g = omega arith in
    let (x, ek) = is-io found.it.kind four in
    let s = m.words_match_lists.each_handle h (completed_word class g)
    (get-at m.machine.words h (completed_word class g) m.word) in
    let is : found.it ≡ mark_by_parts h g (kind.Io x) = mark-is found.it h g
    (kind.Io x) eh same ek in
    let here : IsIn (mark_by_parts h g (kind.Io x)) p.marks = subst
    (λ (z : Mark). IsIn z p.marks) is found.within in
    subst (λ (z : Class). IsIn (mark_by_parts h g (kind.Io z)) p.marks)
    (s.class_of_io p m.here x here) here

-- after the owner has taken the result in a table of one actor, its list has the whole life up to
-- there
pub whole-life : (c : Config) (p q : Known) (h : ℕ) (class : Class) (g : ℕ) (aim : List ℕ)
    → MarksOnceAndSeen (seen_rank p) p.marks → p.config ≡ c → h < handle_count c
    → EventMade event.Local h (completed_word class g) (taken_word class g) aim p q
    → actor_count c ≡ 1
    → HasWholeLife (wait_ref h g) class q
whole-life c p q h class g aim kp cf range m one =
    let moment : AtMoment c p h (completed_word class g) = subst
    (λ (z : Config). AtMoment z p h (completed_word class g)) cf m.moment in
    let marks : q.marks ≡ p.marks ++ mark_by_parts h g (kind.Local class) ∷ [] = ap
    (λ (z : Known). z.marks) m.is in
    let under : (x : Mark) → IsIn x p.marks → x.handle ≡ h → mark_rank x < 8 * g + 6 = λ x i e.
    let seen = kp.below h (mark_rank x)
    (subst (λ (k : ℕ). 0 < count_at_rank k (mark_rank x) p.marks) e (counted-in x p.marks i)) in
    let le = m.before in omega arith in
    let list = with_mark-list c h g (kind.Local class) p q
    (ap (λ (z : Known). z.number) m.is) marks range
    (λ _. subst (λ (z : Config). p.number ≡ owner z h) cf (m.by_owner tt)) under
    (moment.words_match_lists.each_list p moment.here) in record {
      once = seven-marks c p q h class g aim kp cf m one;
      ordered = list.ordered;
      executed = subst (λ (z : List Mark). IsIn (mark_by_parts h g (kind.Io class)) z) (sym marks)
          (in-left (mark_by_parts h g (kind.Io class)) p.marks
          (mark_by_parts h g (kind.Local class) ∷ [])
          (io-stands c p h class g moment (one-list c p h class g moment one (kind.Io class))));
    }
