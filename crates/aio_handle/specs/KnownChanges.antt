-- What a step on a word does to what its actor knows.
use Rattle.std.specs.Prelude.{ℕ, max, List, [], ◌∷◌, ◌++◌, Option, Some, None, slice_set}
use Rattle.aio_word.specs.declared.Step.{Step as Event}
use Rattle.aio_word.specs.declared.Word.{Word}
use Rattle.aio_word.specs.declared.WaitRef.{WaitRef}
use Rattle.aio_word.specs.declared.Look.{Look}
use Rattle.aio_word.specs.declared.Known.{Known}
use Rattle.aio_word.specs.Words.{packed_word, word_rank}
use Rattle.aio_word.specs.Events.{kind_of_step, with_mark, wait_ref}
use Rattle.aio_word.specs.Stands.{seen_rank}
use Rattle.aio_word.specs.declared.Step.TheVariants as step

abbrev pub look : ℕ → ℕ → Look
look h n = record { handle = h; word = n }

-- the incarnation that is out afterwards
abbrev pub out_after : Option WaitRef → WaitRef → Event → Option WaitRef
out_after out t step.HandOut = Some t
out_after out t step.Release = None
out_after out t step.Define = None
out_after out t _ = out

abbrev pub aims_after : List (WaitRef × List ℕ) → WaitRef → List ℕ → Event → List (WaitRef × List ℕ)
aims_after aims t aim step.Submit = aims ++ (t, aim) ∷ []
aims_after aims t aim step.Claim = aims ++ (t, aim) ∷ []
aims_after aims t aim _ = aims

abbrev pub seen_after : Known → ℕ → Word → List ℕ
seen_after p h w = slice_set p.seen h (max (seen_rank p h) (word_rank w))

-- what the actor knows after the event on the handle h, whose word w became w', for a record with
-- this aim
abbrev pub known_after : Event → ℕ → Word → Word → List ℕ → Known → Known
known_after e h w w' aim p = record {
  config = p.config;
  number = p.number;
  marks = with_mark p.marks h w.generation (kind_of_step w.class e);
  out = out_after p.out (wait_ref h w.generation) e;
  seen = seen_after p h w';
  looks = p.looks ++ look h (packed_word w) ∷ [];
  aims = aims_after p.aims (wait_ref h w.generation) aim e;
}

-- what it knows after it found the word w
abbrev pub known_after_look : ℕ → Word → Known → Known
known_after_look h w p = record {
  config = p.config;
  number = p.number;
  marks = p.marks;
  out = p.out;
  seen = seen_after p h w;
  looks = p.looks ++ look h (packed_word w) ∷ [];
  aims = p.aims;
}
