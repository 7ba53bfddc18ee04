-- What Stands says, with one number, the rank, in place of generation and place: a device of
-- proofs. The law pairs_and_ranks_agree says that both say the same.
use Rattle.std.specs.Prelude.{◌≡◌, ℕ, ◌+◌, ◌*◌, ◌≤◌, Bool, ◌&&◌, ◌==◌, nat_lt, nat_le}
use Rattle.std.specs.Prelude.{List, length, sum_by}
use mathlib.Core.Option.{some}
use lib.ListN.{get_elem?}
use Rattle.aio_word.specs.declared.State.TheVariants.{Idle, HandedOut}
use Rattle.aio_word.specs.declared.Class.{Class}
use Rattle.aio_word.specs.declared.Word.{Word}
use Rattle.aio_word.specs.declared.Kind.TheVariants as kind
use Rattle.aio_word.specs.declared.Config.{Config}
use Rattle.aio_word.specs.declared.Mark.{Mark}
use Rattle.aio_word.specs.declared.Known.{Known}
use Rattle.aio_word.specs.Words.{IsLawful, last_generation, word_rank}
use Rattle.aio_word.specs.Events.{handle_count, owner, count_at_rank}
use Rattle.aio_word.specs.Stands.{IsIn, one_if, total_at_rank, seen_rank, IsLawfulList}

-- whether a mark of this rank is due where the word has that rank
abbrev pub is_due : ℕ → ℕ → ℕ → Bool
is_due start rank n = nat_le (8 * start) n && nat_lt n rank

-- the lists stand for the word of one handle, by ranks
pub record StandsForHandleByRank (c : Config) (parts : List Known) (handle : ℕ)
    (w : Word) : Type 0 where
  pub lawful : IsLawful w
  pub begun : c.start ≤ w.generation
  pub last : w.generation ≡ last_generation → w.state ≡ Idle
  -- of the ranks from the first generation on, each below the word's has its mark once
  pub counted : (n : ℕ) → total_at_rank handle n parts ≡ one_if (is_due c.start (word_rank w) n)
  pub claimed : (p : Known) → IsIn p parts → (g : ℕ)
      → (count_at_rank handle (8 * g + 4) p.marks ≤ count_at_rank handle (8 * g + 3) p.marks)
      × (count_at_rank handle (8 * g + 5) p.marks ≤ count_at_rank handle (8 * g + 3) p.marks)
  pub class_of_io : (p : Known) → IsIn p parts → (m : Mark) (class : Class) → IsIn m p.marks
      → m.handle ≡ handle → m.generation ≡ w.generation → m.kind ≡ kind.Io class → class ≡ w.class
  pub class_of_local : (p q : Known) → IsIn p parts → IsIn q parts → (m n : Mark) (one other : Class)
      → IsIn m p.marks → IsIn n q.marks
      → m.handle ≡ handle → n.handle ≡ handle → m.generation ≡ n.generation
      → m.kind ≡ kind.Io one → n.kind ≡ kind.Local other → one ≡ other
  pub seen : (p : Known) → IsIn p parts → seen_rank p handle ≤ word_rank w

-- the lists stand for the words, by ranks
pub record StandsByRank (c : Config) (words : List Word) (parts : List Known) : Type 0 where
  pub one_per_handle : length words ≡ handle_count c
  pub distinct_numbers : (n : ℕ) → sum_by (λ (p : Known). one_if (p.number == n)) parts ≤ 1
  pub each_handle : (h : ℕ) (w : Word) → get_elem? words h ≡ some w
      → StandsForHandleByRank c parts h w
  pub each_list : (p : Known) → IsIn p parts → IsLawfulList c p
  pub one_out : (h i : ℕ) (v w : Word) → get_elem? words h ≡ some v → get_elem? words i ≡ some w
      → v.state ≡ HandedOut → w.state ≡ HandedOut → owner c h ≡ owner c i → h ≡ i
