-- What the command words name: a job, or the first fault.
use Rattle.std.specs.Prelude.{ℕ, List, [], ◌∷◌, Bool, false, not, Option, Some, None, nat_eq, unwrap_or, Result}
use Rattle.std.specs.Prelude.{Ok, Err, codes, if◌then◌else◌}
use Rattle.std.specs.List.{starts_with}
use Rattle.std.specs.Str.{bytes_eq}
use Rattle.solver_words.specs.declared.fault.WordFault.{WordFault}
use Rattle.solver_words.specs.declared.fault.WordFault.TheVariants.{NoCommand, UnknownCommand, MissingName}
use Rattle.solver_words.specs.declared.fault.WordFault.TheVariants.{UnknownOption, MissingSeed}
use Rattle.solver_words.specs.declared.job.Job.{Job}
use Rattle.solver_words.specs.declared.job.Job.TheVariants as job
use Rattle.solver_words.specs.declared.job.MemoWord.TheVariants.{Linked}
use Rattle.solver_words.specs.declared.job.Way.TheVariants.{Both}
use Rattle.solver_words.specs.declared.job.Source.{Source}
use Rattle.solver_words.specs.declared.job.Source.TheVariants.{File, FromSeed}
use Rattle.solver_words.specs.declared.options.Options.{Options}
use Rattle.solver_words.specs.declared.options.Taker.TheVariants as taker
use Rattle.solver_words.specs.Choice.{◌>>=◌}
use Rattle.solver_words.specs.Options.{no_options, options_from}

-- the word does not begin with two dashes
abbrev pub is_name : List ℕ → Bool
is_name word = not (starts_with nat_eq word (codes "--"))

-- the words after a name
abbrev pub after_name : List (List ℕ) → Result (List (List ℕ)) WordFault
after_name [] = Err MissingName
after_name (name ∷ rest) = if is_name name then Ok rest else Err MissingName

-- there is no further word, the first of which would stand at the place
abbrev pub no_more : ℕ → List (List ℕ) → Result (Unit {0}) WordFault
no_more at [] = Ok tt
no_more at (word ∷ rest) = Err (UnknownOption at)

-- whether the next word names a deal
abbrev pub names_deal : List (List ℕ) → Bool
names_deal [] = false
names_deal (word ∷ rest) = is_name word

-- the seed, which has to be given
abbrev pub seed_of : Option ℕ → Result ℕ WordFault
seed_of None = Err MissingSeed
seed_of (Some seed) = Ok seed

-- the job that solves a deal of this source, with what the options say and their defaults
abbrev pub solve_given : Source → Options → Job
solve_given source given =
    job.Solve source (unwrap_or given.cache 100000) (unwrap_or given.nodes 1000000) (unwrap_or given.narrow 0)
    (unwrap_or given.way Both) (unwrap_or given.memo Linked)

-- after `solve` and the name of the rules: the name of the deal, then options
abbrev pub solve_file_of : List (List ℕ) → Result Job WordFault
solve_file_of words =
    after_name words >>= λ words. options_from taker.SolveFile 3 no_options words >>= λ given.
    Ok (solve_given File given)

-- the same with no name of a deal: options, a seed among them
abbrev pub solve_seed_of : List (List ℕ) → Result Job WordFault
solve_seed_of words =
    options_from taker.SolveSeed 2 no_options words >>= λ given. seed_of given.seed >>= λ seed.
    Ok (solve_given (FromSeed seed) given)

-- after `solve`: the name of the rules, then that of a deal or a seed
abbrev pub solve_of : List (List ℕ) → Result Job WordFault
solve_of words = after_name words >>= λ words. if names_deal words then solve_file_of words else solve_seed_of words

-- after `replay`: the names of the rules, the deal and the line
abbrev pub replay_of : List (List ℕ) → Result Job WordFault
replay_of words =
    after_name words >>= λ words. after_name words >>= λ words. after_name words >>= λ words. no_more 4 words >>= λ _.
    Ok job.Replay

-- after `deal`: the name of the rules, then the seed
abbrev pub deal_of : List (List ℕ) → Result Job WordFault
deal_of words =
    after_name words >>= λ words. options_from taker.Deal 2 no_options words >>= λ given. seed_of given.seed >>= λ seed.
    Ok (job.Deal seed)

-- after `rules`: the name of the rules
abbrev pub rules_of : List (List ℕ) → Result Job WordFault
rules_of words = after_name words >>= λ words. no_more 2 words >>= λ _. Ok job.Rules

-- the job that the words name, or their first fault
abbrev pub job_of : List (List ℕ) → Result Job WordFault
job_of [] = Err NoCommand
job_of (command ∷ words) =
    if bytes_eq command (codes "solve") then solve_of words
    else (if bytes_eq command (codes "replay") then replay_of words
    else (if bytes_eq command (codes "deal") then deal_of words
    else (if bytes_eq command (codes "rules") then rules_of words
    else Err UnknownCommand)))
