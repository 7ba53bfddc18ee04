-- What is not left out of a list, part by part.
use Rattle.std.proofs.Common.{◌≡◌, List, [], ◌∷◌, ◌++◌, refl, sym, ap, ◌∙◌}
use Rattle.std.specs.Prelude.{Option, Some, None}
use Rattle.std.proofs.lemmas.List.{map-append}
use Rattle.scan_jobs.specs.Jobs.{entries_of_job}
use Rattle.scan_jobs.specs.BlockFilter.{BlockFilter, unskipped_entries}
use Rattle.scan_jobs.specs.declared.job.Job.{Job}
use Rattle.lister.specs.ListerState.{unskipped_job_parts, unskipped_job_requests}
use Rattle.lister.specs.ListerState.{unskipped_parts}
use Rattle.request_list.specs.RemainingRequests.{resolved_parts, resolved_requests}
use Rattle.request_list.specs.RequestList.{Request, Part, blocks_of_parts}
use Rattle.request_list.specs.declared.cutter.ResolvedCommand.{ResolvedCommand}
use Rattle.request_list.proofs.PartsOfRequests.{blocks-append, unmarked_blocks_of_parts}
use Rattle.request_list.proofs.RemainingRequestsStep.{resolved_blocks}

-- the blocks of parts without those that are left out
pub unskipped_blocks : (skips : Option BlockFilter) (parts : List Part)
    → blocks_of_parts (unskipped_parts skips parts)
    ≡ unskipped_entries skips (blocks_of_parts parts)
unskipped_blocks None [] = refl
unskipped_blocks None (part ∷ parts) =
    ap (λ (l : List Request). part ++ l) (unskipped_blocks None parts)
unskipped_blocks (Some s) parts = unmarked_blocks_of_parts s.pages s.skip parts

-- the blocks of the parts of jobs
pub job_blocks : (skips : Option BlockFilter) (jobs : List Job)
    → blocks_of_parts (unskipped_job_parts skips jobs) ≡ unskipped_job_requests skips jobs
job_blocks skips [] = refl
job_blocks skips (j ∷ jobs) =
    ap (λ (l : List Request). entries_of_job skips j ++ l) (job_blocks skips jobs)

unskipped_of_job : (skips : Option BlockFilter) (j : Job)
    → unskipped_entries skips (entries_of_job None j) ≡ entries_of_job skips j
unskipped_of_job None j = refl
unskipped_of_job (Some s) j = refl

-- those of some jobs
pub unskipped_of_jobs : (skips : Option BlockFilter) (jobs : List Job)
    → unskipped_parts skips (unskipped_job_parts None jobs) ≡ unskipped_job_parts skips jobs
unskipped_of_jobs skips [] = refl
unskipped_of_jobs skips (j ∷ jobs) =
    ap (λ (part : Part). part ∷ unskipped_parts skips (unskipped_job_parts None jobs))
    (unskipped_of_job skips j)
    ∙ ap (λ (l : List Part). entries_of_job skips j ∷ l) (unskipped_of_jobs skips jobs)

-- what is left of a list from whose front jobs were cut off
pub unskipped_after_cut : (skips : Option BlockFilter) (jobs : List Job) (all rest : List Part)
    → all ≡ unskipped_job_parts None jobs ++ rest
    → unskipped_parts skips all ≡ unskipped_job_parts skips jobs ++ unskipped_parts skips rest
unskipped_after_cut skips jobs all rest cut =
    ap (unskipped_parts skips) cut
    ∙ map-append (unskipped_entries skips) (unskipped_job_parts None jobs) rest
    ∙ ap (λ (l : List Part). l ++ unskipped_parts skips rest) (unskipped_of_jobs skips jobs)

-- and the blocks of both
pub blocks_after_cut : (skips : Option BlockFilter) (jobs : List Job) (all rest : List Part)
    → all ≡ unskipped_job_parts None jobs ++ rest
    → unskipped_entries skips (blocks_of_parts all) ≡ unskipped_job_requests skips jobs
    ++ unskipped_entries skips (blocks_of_parts rest)
blocks_after_cut skips jobs all rest cut =
    sym (unskipped_blocks skips all)
    ∙ ap blocks_of_parts (unskipped_after_cut skips jobs all rest cut)
    ∙ blocks-append (unskipped_job_parts skips jobs) (unskipped_parts skips rest)
    ∙ ap (λ (l : List Request). l ++ blocks_of_parts (unskipped_parts skips rest))
    (job_blocks skips jobs)
    ∙ ap (λ (l : List Request). unskipped_job_requests skips jobs ++ l)
    (unskipped_blocks skips rest)

-- where nothing is left out
pub unskipped_none : (parts : List Part) → unskipped_parts None parts ≡ parts
unskipped_none [] = refl
unskipped_none (part ∷ parts) = ap (λ (l : List Part). part ∷ l) (unskipped_none parts)

-- the blocks of a command's parts without those that are left out
pub resolved_unskipped : (skips : Option BlockFilter) (a : ResolvedCommand)
    → blocks_of_parts (unskipped_parts skips (resolved_parts a))
    ≡ unskipped_entries skips (resolved_requests a)
resolved_unskipped skips a =
    unskipped_blocks skips (resolved_parts a) ∙ ap (unskipped_entries skips) (resolved_blocks a)
