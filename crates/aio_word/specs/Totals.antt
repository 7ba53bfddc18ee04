-- The totals of a table that was closed, counted over lives.
use Rattle.std.specs.Prelude.{ℕ, ◌-◌, cond, nat_lt, List, sum_by}
use Rattle.aio_word.specs.declared.Config.{Config}
use Rattle.aio_word.specs.declared.Word.{Word}
use Rattle.aio_word.specs.declared.Known.{Known}
use Rattle.aio_word.specs.Tokens.{claimed_mark_count}

-- how many incarnations are over
abbrev pub incarnations : Config → List Word → ℕ
incarnations c words = sum_by (λ (w : Word). w.generation - c.start) words

-- how many incarnations the backends have claimed
abbrev pub by_backends : Config → List Known → ℕ
by_backends c parts =
    sum_by (λ (p : Known). cond (nat_lt p.number c.backends) (claimed_mark_count p.marks) 0) parts

-- how many the runners have claimed
abbrev pub by_runners : Config → List Known → ℕ
by_runners c parts =
    sum_by (λ (p : Known). cond (nat_lt p.number c.backends) 0 (claimed_mark_count p.marks)) parts
