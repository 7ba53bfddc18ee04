-- What options that are not refused together say of the settings.
use Rattle.std.proofs.Common.{◌≡◌, ℕ, ◌≤◌, List, refl, sym, ◌∙◌, Bool, true, false}
use Rattle.std.specs.Prelude.{◌≢◌, Option, Some, None, IfSome, codes, ◌&&◌, ◌||◌, is_some}
use Rattle.std.specs.Prelude.{if◌then◌else◌}
use Rattle.clap.specs.Words.{Row, Text, first_of}
use Rattle.command_line.specs.Command.{HasNoRange, TellsNoFault, generated_page_limit}
use Rattle.command_line.specs.Numbers.{number_if_given}
use Rattle.command_line.specs.PageOptions.{HasPageOptions}
use Rattle.command_line.specs.RefusedOptions.{are_refused, is_refused_with_damage}
use Rattle.command_line.specs.RefusedOptions.{is_refused_with_make}
use Rattle.command_line.specs.Words.{given_options}
use Rattle.command_line.specs.declared.words.given_options.GivenOptions.{GivenOptions}
use Rattle.page_check.specs.declared.rules.DamagedPages.TheVariants.{Give, Refuse, Zero}
use Rattle.page_faults.specs.declared.options.CheckOptions.{CheckOptions}
use Rattle.scan_settings.specs.declared.page_text.PageText.TheVariants.{Faults, Items, Tuples}
use Rattle.scan_settings.specs.declared.settings.ScanSettings.{ScanSettings}

neither : (a b : Bool) → (a || b) ≡ false → (a ≡ false) × (b ≡ false)
neither false b is = (refl, is)
neither true b is = absurd (cc)

not_both : (a b : Bool) → (a && b) ≡ false → a ≡ true → b ≡ false
not_both true b is given = is
not_both false b is given = absurd (cc)

not_before : (a b : Bool) → (a && b) ≡ false → b ≡ true → a ≡ false
not_before false b is given = refl
not_before true b is given = sym given ∙ is

first_of_both : (a b : Bool) → a ≡ true → (a || b) ≡ true
first_of_both true b is = refl
first_of_both false b is = absurd (cc)

last_of_both : (a b : Bool) → b ≡ true → (a || b) ≡ true
last_of_both true b is = refl
last_of_both false b is = is

no_give : (zero told : Bool) → told ≡ false
    → (if zero then Zero else if told then Give else Refuse) ≢ Give
no_give true told none is = absurd (cc)
no_give false true none is = absurd (cc)
no_give false false none is = absurd (cc)

no_faults : (tuples : Bool) (options : CheckOptions)
    → (if tuples then Tuples else Items) ≢ Faults options
no_faults true options is = absurd (cc)
no_faults false options is = absurd (cc)

items : (tuples : Bool) → tuples ≡ false → (if tuples then Tuples else Items) ≡ Items
items true none = absurd (cc)
items false none = refl

module _ (given : GivenOptions) (s : ScanSettings) (taken : are_refused given ≡ false)
    (has : HasPageOptions given s) where
  -- of no damaged page is told, where pages are generated, or left out by a map
  none_told : (given.zero_damaged || (given.make || given.map)) ≡ true
      → (given.check || given.show_damaged) ≡ false
  none_told other =
      let behind = (neither (is_refused_with_make given) _ taken).1 in
      not_before _ _ (neither (is_refused_with_damage given) _ behind).0 other

  no_fault : (given.check || given.show_damaged) ≡ false → TellsNoFault s
  no_fault none = record {
    none_given = λ is. no_give given.zero_damaged (given.check || given.show_damaged) none
        (sym has.damaged ∙ is);
    is_listing = λ options is. no_faults given.tuples options
        (sym (has.listing (neither given.check given.show_damaged none).0) ∙ is);
  }

  pub no_fault_beside_map : given.map ≡ true → TellsNoFault s
  no_fault_beside_map map = no_fault (none_told (last_of_both given.zero_damaged _
      (last_of_both given.make _ map)))

  pub no_range_beside_make : (n : ℕ) (from to : Option ℕ) → (1 ≤ n) × (n ≤ generated_page_limit)
      → given.make ≡ true → (given.from ≡ false → from ≡ None) → (given.to ≡ false → to ≡ None)
      → HasNoRange (Some n) from to s
  no_range_beside_make n from to within make no_from no_to =
      let others = not_both given.make _ (neither (is_refused_with_make given) _ taken).0 make in
      let behind_from = neither given.from _ others in
      let behind_to = neither given.to _ behind_from.1 in
      let flags = neither given.checksums given.tuples behind_to.1 in
      let told = none_told (last_of_both given.zero_damaged _ (first_of_both given.make _ make)) in (
        within.0,
        within.1,
        no_from behind_from.0,
        no_to behind_to.0,
        has.checksums ∙ flags.0,
        has.listing (neither given.check given.show_damaged told).0 ∙ items given.tuples flags.1,
        (no_fault told).none_given,
      )

none_by : (digits least most : ℕ) (word : Option Text) (number : Option ℕ)
    → number_if_given digits least most word ≡ Some number → is_some word ≡ false → number ≡ None
none_by digits least most None number is none = cc
none_by digits least most (Some word) number is none = absurd (cc)

given_by : (digits least most n : ℕ) (word : Option Text)
    → number_if_given digits least most word ≡ Some (Some n) → is_some word ≡ true
given_by digits least most n None is = absurd (cc)
given_by digits least most n (Some word) is = refl

-- what `--make` says of words that are taken
pub no_range_of_words : (rows : List Row) (generated from to : Option ℕ) (s : ScanSettings)
    → are_refused (given_options rows) ≡ false → HasPageOptions (given_options rows) s
    → number_if_given 7 1 4096 (first_of (codes "make") rows) ≡ Some generated
    → number_if_given 7 0 2097151 (first_of (codes "from") rows) ≡ Some from
    → number_if_given 7 0 2097151 (first_of (codes "to") rows) ≡ Some to
    → IfSome generated (λ n. (1 ≤ n) × (n ≤ generated_page_limit))
    → HasNoRange generated from to s
no_range_of_words rows None from to s taken has make_is from_is to_is within = tt
no_range_of_words rows (Some n) from to s taken has make_is from_is to_is within =
    no_range_beside_make (given_options rows) s taken has n from to within
    (given_by 7 1 4096 n _ make_is) (none_by 7 0 2097151 _ from from_is)
    (none_by 7 0 2097151 _ to to_is)
