-- What holds of every job that words name. What the program promises does not rest on this page.
use Rattle.std.specs.Prelude.{ℕ, ◌≤◌, ⊤}
use Rattle.solver_words.specs.declared.job.Job.{Job}
use Rattle.solver_words.specs.declared.job.Source.TheVariants.{File, FromSeed}
use Rattle.solver_words.specs.declared.job.Job.TheVariants as job

-- how many files the job has, which the words from 1 on name
abbrev pub name_count : Job → ℕ
name_count (job.Solve File cache nodes narrow way memo) = 2
name_count (job.Solve (FromSeed seed) cache nodes narrow way memo) = 1
name_count job.Replay = 3
name_count (job.Deal seed) = 1
name_count job.Rules = 1

-- the numbers of the job are within their limits; a seed may be any number
abbrev pub IsWithinLimits : Job → Type 0
IsWithinLimits (job.Solve source cache nodes narrow way memo) = (1 ≤ cache) × (cache ≤ 4000000) × (1 ≤ nodes)
    × (nodes ≤ 1000000000000) × (narrow ≤ 1000000000000)
IsWithinLimits job.Replay = ⊤
IsWithinLimits (job.Deal seed) = ⊤
IsWithinLimits job.Rules = ⊤
