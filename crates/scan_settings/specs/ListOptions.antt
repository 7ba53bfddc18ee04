-- With which options blocks are listed.
use Rattle.page_check.specs.declared.rules.PageRules.{PageRules}
use Rattle.scan_settings.specs.declared.page_text.PageText.{PageText}

pub record ListOptions : Type 0 where
  -- how pages are read; where damaged ones are given as zeros, there is a warning of each
  pub rules : PageRules
  -- what is written of a page
  pub page_text : PageText

abbrev pub list_options : PageRules → PageText → ListOptions
list_options rules page_text = record { rules = rules; page_text = page_text }
