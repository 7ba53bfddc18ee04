-- What becomes of damaged pages, and what is written of each page.
use Rattle.std.specs.Prelude.{◌≡◌, ℕ, Option, Some, None, false, ◌||◌, if◌then◌else◌}
use Rattle.command_line.specs.declared.words.given_options.GivenOptions.{GivenOptions}
use Rattle.page_check.specs.declared.rules.DamagedPages.{DamagedPages}
use Rattle.page_check.specs.declared.rules.DamagedPages.TheVariants.{Refuse, Zero, Give}
use Rattle.page_faults.specs.declared.options.Lsn.{Lsn}
use Rattle.scan_settings.specs.declared.page_text.PageText.{PageText}
use Rattle.scan_settings.specs.declared.page_text.PageText.TheVariants.{Items, Tuples, Faults}
use Rattle.scan_settings.specs.declared.settings.ScanSettings.{ScanSettings}

-- what becomes of damaged pages
abbrev pub damaged_pages : GivenOptions → DamagedPages
damaged_pages given =
    if given.zero_damaged then Zero
    else if given.check || given.show_damaged then Give else Refuse

-- what a listing has of each page
abbrev pub listing_text : GivenOptions → PageText
listing_text given = if given.tuples then Tuples else Items

-- what is written of each page
abbrev pub page_text_with : GivenOptions → Option (Option Lsn) → Option (Option ℕ) → Option PageText
page_text_with given (Some end_lsn) (Some next_xid) =
    Some (if given.check
    then Faults (record { checksums = given.checksums; end_lsn = end_lsn; next_xid = next_xid })
    else listing_text given)
page_text_with given _ _ = None

-- the settings have what the options ask for that say how damaged pages are read and what is written
pub record HasPageOptions (given : GivenOptions) (settings : ScanSettings) : Type 0 where
  pub checksums : settings.checksums ≡ given.checksums
  pub damaged : settings.damaged ≡ damaged_pages given
  pub listing : given.check ≡ false → settings.page_text ≡ listing_text given
