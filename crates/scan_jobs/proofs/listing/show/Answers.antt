use Rattle.scan_settings.specs.PageFormats.{page_format}
use Rattle.scan_jobs.proofs.OutputOfPages.{page_shown}
use Rattle.scan_jobs.proofs.listing.show.Goals as goal

pub returns-in-Page-clause-shown : goal.returns-in-Page-clause-shown
returns-in-Page-clause-shown c =
    rw c.in-Page.is
    (page_shown (page_format c.args.page_text) c.show_page.result _ c.args.text.now.items
    c.show_page.new.text.items c.args.warnings.now.items c.args.sums.now c.show_page.new.sums
    c.ending_by.result (λ is. absurd (cc))
    c.show_page.ensures.ok c.show_page.ensures.err c.ending_by.ensures.ok c.ending_by.ensures.err)

pub returns-in-Damaged-clause-shown : goal.returns-in-Damaged-clause-shown
returns-in-Damaged-clause-shown c =
    rw c.in-Damaged.is
    (page_shown (page_format c.args.page_text) c.show_page-in-Damaged.result _ c.args.text.now.items
    c.show_page-in-Damaged.new.text.items c.args.warnings.now.items c.args.sums.now
    c.show_page-in-Damaged.new.sums c.ending_by-in-Damaged.result (λ is. absurd (cc))
    c.show_page-in-Damaged.ensures.ok c.show_page-in-Damaged.ensures.err
    c.ending_by-in-Damaged.ensures.ok c.ending_by-in-Damaged.ensures.err)
