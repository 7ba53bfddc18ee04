-- Events that neither begin nor end a life, hand nothing out, take nothing back and claim nothing.
use Rattle.std.proofs.Common.{◌≡◌, ◌≢◌, ℕ, ◌<◌, List, ap, subst, arith, Some}
use Rattle.aio_word.specs.declared.Class.{Class}
use Rattle.aio_word.specs.declared.Step.{Step as Event}
use Rattle.aio_word.specs.declared.Step.TheVariants as event
use Rattle.aio_word.specs.declared.Kind.{Kind}
use Rattle.aio_word.specs.declared.Kind.TheVariants as kind
use Rattle.aio_word.specs.declared.Word.{Word}
use Rattle.aio_word.specs.declared.Known.{Known}
use Rattle.aio_word.specs.Events.{kind_place, kind_of_step}
use Rattle.aio_word.proofs.EventRows.{some-kind}
use Rattle.aio_handle.specs.CallEvents.{EventMade}

abbrev pub IsPlain : Event → Type 0
IsPlain event.Stage = Unit {0}
IsPlain event.Submit = Unit {0}
IsPlain (event.Io class) = Unit {0}
IsPlain event.Shared = Unit {0}
IsPlain event.Local = Unit {0}
IsPlain _ = ⊥

-- a mark that neither begins nor ends a life, and is no claim
abbrev IsBetween : Kind → Type 0
IsBetween k = (0 < kind_place k) × (kind_place k < 7) × (kind_place k ≢ 3)

between-of : (k z : Kind) → k ≡ z → IsBetween k → IsBetween z
between-of k z e = subst (λ (y : Kind). IsBetween y) e

pub plain-kind : (e : Event) (class : Class) (k : Kind) → IsPlain e → kind_of_step class e ≡ Some k
    → IsBetween k
plain-kind event.HandOut class k pl lv = absurd pl
plain-kind event.Release class k pl lv = absurd pl
plain-kind event.Define class k pl lv = absurd pl
plain-kind event.Stage class k pl lv = between-of kind.Staged k (some-kind kind.Staged k lv)
    (omega arith, omega arith, (λ x. omega arith))
plain-kind event.Submit class k pl lv = between-of kind.Submitted k (some-kind kind.Submitted k lv)
    (omega arith, omega arith, (λ x. omega arith))
plain-kind event.Claim class k pl lv = absurd pl
plain-kind (event.Io ended) class k pl lv = between-of (kind.Io ended) k
    (some-kind (kind.Io ended) k lv) (omega arith, omega arith, (λ x. omega arith))
plain-kind event.Shared class k pl lv = between-of kind.Shared k (some-kind kind.Shared k lv)
    (omega arith, omega arith, (λ x. omega arith))
plain-kind event.Local class k pl lv = between-of (kind.Local class) k
    (some-kind (kind.Local class) k lv) (omega arith, omega arith, (λ x. omega arith))
plain-kind event.Reclaim class k pl lv = absurd pl

pub plain-out : (e : Event) (h : ℕ) (w w' : Word) (aim : List ℕ) (p q : Known)
    → EventMade e h w w' aim p q → IsPlain e → q.out ≡ p.out
plain-out event.HandOut h w w' aim p q m pl = absurd pl
plain-out event.Release h w w' aim p q m pl = absurd pl
plain-out event.Define h w w' aim p q m pl = absurd pl
plain-out event.Stage h w w' aim p q m pl = ap (λ (z : Known). z.out) m.is
plain-out event.Submit h w w' aim p q m pl = ap (λ (z : Known). z.out) m.is
plain-out event.Claim h w w' aim p q m pl = absurd pl
plain-out (event.Io class) h w w' aim p q m pl = ap (λ (z : Known). z.out) m.is
plain-out event.Shared h w w' aim p q m pl = ap (λ (z : Known). z.out) m.is
plain-out event.Local h w w' aim p q m pl = ap (λ (z : Known). z.out) m.is
plain-out event.Reclaim h w w' aim p q m pl = absurd pl
