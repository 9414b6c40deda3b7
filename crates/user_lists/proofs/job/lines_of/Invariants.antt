use Rattle.std.proofs.Common.{◌≡◌, map, take}
use Rattle.desk_model.specs.Jobs.{job_line}
use Rattle.user_lists.proofs.job.lines_of.Given as goal

-- the lines of the jobs so far
abbrev pub invariant-loop-job : goal.invariant-loop-job
invariant-loop-job l = l.lines ≡ map job_line (take l.job-index l.jobs)
