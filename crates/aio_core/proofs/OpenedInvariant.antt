-- A machine that was just opened keeps what a machine keeps.
use Rattle.std.proofs.Common.{◌≡◌, ℕ, List, [], length, replicate, sym, ap, subst, arith}
use Rattle.aio_word.specs.declared.Config.{Config}
use Rattle.aio_word.specs.declared.Mark.{Mark}
use Rattle.aio_word.specs.declared.Word.{Word}
use Rattle.aio_word.specs.Words.{word_place}
use Rattle.aio_word.specs.Events.{Machine, handle_count, actor_count, first_word, first_machine}
use Rattle.aio_word.proofs.EventEffect.{get-at}
use Rattle.aio_word.proofs.ReachableIsLawful.{first-is-lawful, at-replicate}
use Rattle.aio_word.specs.Stands.{IsLawfulMachine}
use mathlib.Core.Option.{some}
use lib.ListN.{get_elem?}
use Rattle.aio_core.specs.Claimers.{IsInBounds, MachineInvariant}

pub opened-invariant : (c : Config) (words : List Word) (lists : List (List Mark))
    (claimers : List ℕ)
    → IsInBounds c → words ≡ replicate (handle_count c) (first_word c)
    → lists ≡ replicate (actor_count c) []
    → length claimers ≡ handle_count c
    → MachineInvariant c record { words = words; lists = lists } claimers
opened-invariant c words lists claimers bounds is none one_per_handle =
    let same : first_machine c ≡ record { words = words; lists = lists } =
    λ k. record { words = sym is k; lists = sym none k } in
    record {
      bounds = bounds;
      lawful_machine = subst (λ (m : Machine). IsLawfulMachine c m) same (first-is-lawful c bounds.start);
      one_per_handle = one_per_handle;
      claimer = λ h w at past. absurd (
          let first : first_word c ≡ w =
          at-replicate (handle_count c) h (first_word c) w
          (subst (λ (ws : List Word). get_elem? ws h ≡ some w) is (get-at words h w at)) in
          let place : 0 ≡ word_place w = ap word_place first in omega arith);
    }
