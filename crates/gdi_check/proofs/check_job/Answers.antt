-- `gdi_check::check_job` meets its contract: the first byte that differs from the head's, then the job's end, then the pages. Assumes nothing.
use mathlib.Core.Path.{◌≡◌, refl, sym, ap, ◌∙◌}
use mathlib.Core.List.{List}
use Prim.Native.Nat.{ℕ, ◌<◌, ◌≤◌}
use native.Mathlib.Omega.{arith}
use borrow.Author.Tests.{le-ltb}
use lib.ListN.{length, drop}
use Rattle.std.proofs.Common.{rules, tests}
use Rattle.std.proofs.lemmas.Iterator.{IsFirst-from_position, YieldsList-from_slice, YieldsList-from_zip}
use Rattle.gdi_jobs.specs.Groups.{codes, head_bytes, group_cases}
use Rattle.std.specs.List.{zip, HoldsAt, AllWithin}
use Rattle.std.specs.Option.{MatchOption}
use Rattle.gdi_jobs.specs.Jobs.{longest, between, walk, walk_head, job_answer}
use Rattle.gdi_check.specs.Answers.{refused_as}
use Rattle.gdi_check.proofs.Head.{Same, Differ, first-differs, all-agree, job-ends}
use Rattle.gdi_check.proofs.check_job.Goals.{After-position}
use Rattle.gdi_check.proofs.check_job.Goals as goal

-- a job that is not too long
not-too-long : (job : List ℕ) → length job ≤ longest → job_answer job ≡ walk_head 0 head_bytes job
unfolding job_answer
not-too-long job h = rw (le-ltb longest (length job) h) refl

-- the first byte that differs, or none does
found : (c : After-position)
    → MatchOption c.position.result (AllWithin Same (zip head_bytes c.args.job.now) 0 (length (zip head_bytes c.args.job.now)))
    (λ i. (i < length (zip head_bytes c.args.job.now)) × HoldsAt Differ (zip head_bytes c.args.job.now) i × AllWithin Same (zip head_bytes c.args.job.now) 0 i)
unfolding codes head_bytes
found c =
    IsFirst-from_position {s = c.zip.result} c.position.new.self _ c.position.result Differ Same c.position.ensures.ran
    (YieldsList-from_zip (YieldsList-from_slice head_bytes (cc)) (YieldsList-from_slice c.args.job.now (cc))) (λ x q k. search (rules, tests)) (λ x q k. search (rules, tests))

pub returns-in-Some : goal.returns-in-Some
returns-in-Some c =
    let job = c.args.job.now in
    let first = rw c.in-Some.is at (found (goal.at.returns-in-Some c).After-position) in
    ap refused_as c.at-in-Some.ensures ∙ sym (not-too-long job (omega arith) ∙ first-differs head_bytes job c.in-Some.i first)

pub returns-then-job-lt86 : goal.returns-then-job-lt86
returns-then-job-lt86 c =
    let job = c.args.job.now in
    let none = rw c.in_default.is at (found (goal.at.returns-then-job-lt86 c).After-position) in
    ap refused_as c.at-then-job-lt86.ensures ∙ sym (not-too-long job (omega arith) ∙ job-ends head_bytes job none (omega (arith, group_cases.head_length)))

pub returns : goal.returns
returns c =
    let job = c.args.job.now in
    let n = group_cases.head_length in
    let none = rw c.in_default.is at (found (goal.at.returns c).After-position) in
    c.walk_pages.ensures
    ∙ ap (λ (k : ℕ). walk (between 0) 0 k (drop k job)) (sym n)
    ∙ sym (not-too-long job (omega arith) ∙ all-agree head_bytes job none (omega (arith, n)))
