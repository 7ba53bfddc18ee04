-- Which options are refused together, and which without another.
use Rattle.std.specs.Prelude.{Bool, not, ◌&&◌, ◌||◌}
use Rattle.command_line.specs.declared.words.given_options.GivenOptions.{GivenOptions}

-- generated pages are scanned whole, have no checksums, and only their sums are told
abbrev pub is_refused_with_make : GivenOptions → Bool
is_refused_with_make given =
    given.make && (given.from || (given.to || (given.checksums || given.tuples)))

-- where damaged pages are told of, none is zeroed, generated or left out by a map
abbrev pub is_refused_with_damage : GivenOptions → Bool
is_refused_with_damage given =
    (given.check || given.show_damaged) && (given.zero_damaged || (given.make || given.map))

-- a check is no listing
abbrev pub is_refused_with_check : GivenOptions → Bool
is_refused_with_check given = given.check && (given.show_damaged || given.tuples)

-- what a check goes by, and what is left out by a map
abbrev pub lacks_its_option : GivenOptions → Bool
lacks_its_option given =
    ((given.end_lsn || given.next_xid) && not given.check) || (given.skip && not given.map)

abbrev pub are_refused : GivenOptions → Bool
are_refused given =
    is_refused_with_make given || (is_refused_with_damage given
    || (is_refused_with_check given || lacks_its_option given))
