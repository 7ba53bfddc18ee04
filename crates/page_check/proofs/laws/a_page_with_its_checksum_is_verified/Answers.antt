use Rattle.page_check.proofs.VerifiedPages.{checksum_of-with, verified-with}
use Rattle.page_check.proofs.laws.a_page_with_its_checksum_is_verified.Goals as goal

pub returns-clause-same : goal.returns-clause-same
returns-clause-same c = checksum_of-with

pub returns-clause-verified : goal.returns-clause-verified
returns-clause-verified c = verified-with
