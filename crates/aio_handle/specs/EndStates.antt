-- What stands when a table is closed.
use Rattle.std.specs.Prelude.{◌≡◌, ℕ, ◌≤◌, ◌+◌, List, None}
use mathlib.Core.Option.{some}
use lib.ListN.{get_elem?}
use Rattle.aio_word.specs.declared.Config.{Config}
use Rattle.aio_word.specs.declared.Word.{Word}
use Rattle.aio_word.specs.declared.WaitRef.{WaitRef}
use Rattle.aio_word.specs.declared.State.TheVariants.{Idle}
use Rattle.aio_word.specs.declared.Known.{Known}
use Rattle.aio_word.specs.declared.Kind.TheVariants as kind
use Rattle.aio_word.specs.declared.Class.{Class}
use Rattle.aio_word.specs.Events.{mark_count, make_mark}
use Rattle.aio_word.specs.Stands.{IsIn, Stands}
use Rattle.aio_word.specs.Totals.{incarnations, by_backends, by_runners}

-- each incarnation that the actor has defined it has reclaimed
abbrev pub AllReclaimed : Known → Type 0
AllReclaimed p = (t : WaitRef) → mark_count t kind.Defined p.marks
    ≤ mark_count t kind.Reclaimed p.marks

-- the actor is at rest, with no token out: no handle is handed out, and no incarnation is in the
-- middle of its life
abbrev pub HasNoOwnerTokens : Known → Type 0
HasNoOwnerTokens p = (p.out ≡ None) × AllReclaimed p

-- no token of these actors is out. Then no I/O is claimed and not shared either, since its owner
-- would have it in flight
abbrev pub NoneHasOwnerTokens : List Known → Type 0
NoneHasOwnerTokens parts = (p : Known) → IsIn p parts → HasNoOwnerTokens p

-- the lists of these actors stand for words that are all Idle, and as many incarnations were
-- claimed as are over
pub record EndState (c : Config) (parts : List Known) : Type 0 where
  pub words : List Word
  pub words_match_lists : Stands c words parts
  pub idle : (h : ℕ) (w : Word) → get_elem? words h ≡ some w → w.state ≡ Idle
  pub totals_agree : incarnations c words ≡ by_backends c parts + by_runners c parts

-- the three numbers that the totals have
pub record TotalsView : Type 0 where
  pub incarnations : ℕ
  pub by_backends : ℕ
  pub by_runners : ℕ

-- the numbers are those of the lists, and of words that are all Idle
pub record AreTotals (c : Config) (parts : List Known) (totals : TotalsView) : Type 0 where
  pub end_state : EndState c parts
  pub incarnations_are : totals.incarnations ≡ incarnations c end_state.words
  pub by_backends_are : totals.by_backends ≡ by_backends c parts
  pub by_runners_are : totals.by_runners ≡ by_runners c parts
  pub sum : totals.incarnations ≡ totals.by_backends + totals.by_runners

-- the incarnation was executed by one of these actors, and ended with this class
abbrev pub IsExecutedIn : List Known → WaitRef → Class → Type 0
IsExecutedIn parts t class = (q : Known) × IsIn q parts × IsIn (make_mark t (kind.Io class)) q.marks
