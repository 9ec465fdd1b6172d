-- The numbers of a job are within their limits.
use Rattle.std.proofs.Common.{◌≡◌, ◌+◌, ◌≤◌, ◌&&◌, ℕ, List, [], ◌∷◌, Result, Ok, Err, IfOk, Bool, true, false, cond}
use Rattle.std.proofs.Common.{codes, unwrap_or, refl, sym, subst, nat_le, lit≤}
use Rattle.std.proofs.lemmas.Bool.{leb-true}
use Rattle.std.specs.declared.option.Option.{Option}
use Rattle.std.specs.declared.option.Option.TheVariants.{Some, None}
use Rattle.std.specs.Str.{bytes_eq}
use Rattle.solver_words.specs.declared.fault.WordFault.{WordFault}
use Rattle.solver_words.specs.declared.fault.WordFault.TheVariants.{UnknownCommand, MissingValue}
use Rattle.solver_words.specs.declared.job.Job.{Job}
use Rattle.solver_words.specs.declared.job.Job.TheVariants.{Solve, Replay, Deal, Rules}
use Rattle.solver_words.specs.declared.job.MemoWord.TheVariants.{Linked}
use Rattle.solver_words.specs.declared.job.Way.TheVariants.{Both}
use Rattle.solver_words.specs.declared.job.Source.TheVariants.{File, FromSeed}
use Rattle.solver_words.specs.declared.options.Setting.{Setting}
use Rattle.solver_words.specs.declared.options.Setting.TheVariants.{Cache, Nodes, Narrow, Memo, Seed}
use Rattle.solver_words.specs.declared.options.Setting.TheVariants as setting
use Rattle.solver_words.specs.declared.options.Taker.{Taker}
use Rattle.solver_words.specs.declared.options.Taker.TheVariants.{SolveFile, SolveSeed}
use Rattle.solver_words.specs.declared.options.Taker.TheVariants as taker
use Rattle.solver_words.specs.declared.options.Options.{Options}
use Rattle.solver_words.specs.Numbers.{number_of, number_within, within}
use Rattle.solver_words.specs.Options.{no_options, setting_at, memo_named, way_named, value_at}
use Rattle.solver_words.specs.Options.{with_value, options_from}
use Rattle.solver_words.specs.Jobs.{solve_given, after_name, no_more, names_deal, seed_of, solve_file_of, solve_seed_of}
use Rattle.solver_words.specs.Jobs.{solve_of, replay_of, deal_of, rules_of, job_of}
use Rattle.solver_words.specs.Bounds.{IsWithinLimits}
use Rattle.solver_words.proofs.Choices.{ok_before}

-- A number within limits is at least the lower one and at most the higher one.
limits-within : (low high n : ℕ) (number : Option ℕ) → within low high number ≡ Some n → (low ≤ n) × (n ≤ high)
limits-within low high n None h = cc
limits-within low high n (Some m) h =
    let none : Option ℕ = None in
    let by_tests : (a b : Bool) → nat_le low m ≡ a → nat_le m high ≡ b → cond (a && b) (Some m) none ≡ Some n
    → (low ≤ n) × (n ≤ high) =
    λ a b. elim a as
    (λ a. nat_le low m ≡ a → nat_le m high ≡ b → cond (a && b) (Some m) none ≡ Some n → (low ≤ n) × (n ≤ high)) [
      | true ↦ elim b as
          (λ b. nat_le low m ≡ true → nat_le m high ≡ b → cond b (Some m) none ≡ Some n → (low ≤ n) × (n ≤ high)) [
            | true ↦ λ least most e.
                let same : m ≡ n = cc in
                subst (λ k. (low ≤ k) × (k ≤ high)) same (leb-true low m least, leb-true m high most)
            | false ↦ λ least most e. cc
          ]
      | false ↦ λ least most e. cc
    ] in
    by_tests (nat_le low m) (nat_le m high) refl refl h

-- A word that gives a number gives it exactly.
value_at-is : (at n : ℕ) (number : Option ℕ) → value_at at number ≡ Ok n → number ≡ Some n
value_at-is at n None h = cc
value_at-is at n (Some m) h = cc

limits-value_at : (at low high n : ℕ) (word : List ℕ) → value_at at (number_within low high word) ≡ Ok n
    → (low ≤ n) × (n ≤ high)
limits-value_at at low high n word h = limits-within low high n (number_of word) (value_at-is at n _ h)

-- The job that solves with these options has its numbers within their limits.
abbrev AreWithin : Options → Type 0
AreWithin given = IsWithinLimits (solve_given File given)

limits-with_value : (at : ℕ) (setting : Setting) (given more : Options) (word : List ℕ) → AreWithin given
    → with_value at setting given word ≡ Ok more
    → AreWithin more
limits-with_value at Cache given more word given_within h =
    let (n, is_number, rest) = ok_before (value_at at (number_within 1 4000000 word)) _ more h in
    let limits = limits-value_at at 1 4000000 n word is_number in
    let same : record given { cache = Some n } ≡ more = cc in
    subst AreWithin same (limits.0, limits.1, given_within.2, given_within.3, given_within.4)
limits-with_value at Nodes given more word given_within h =
    let (n, is_number, rest) = ok_before (value_at at (number_within 1 1000000000000 word)) _ more h in
    let limits = limits-value_at at 1 1000000000000 n word is_number in
    let same : record given { nodes = Some n } ≡ more = cc in
    subst AreWithin same (given_within.0, given_within.1, limits.0, limits.1, given_within.4)
limits-with_value at Narrow given more word given_within h =
    let (n, is_number, rest) = ok_before (value_at at (number_within 0 1000000000000 word)) _ more h in
    let limits = limits-value_at at 0 1000000000000 n word is_number in
    let same : record given { narrow = Some n } ≡ more = cc in
    subst AreWithin same (given_within.0, given_within.1, given_within.2, given_within.3, limits.1)
limits-with_value at setting.Way given more word given_within h =
    let (way, is_way, rest) = ok_before (value_at at (way_named word)) _ more h in
    let same : record given { way = Some way } ≡ more = cc in
    subst AreWithin same given_within
limits-with_value at Memo given more word given_within h =
    let (memo, is_memo, rest) = ok_before (value_at at (memo_named word)) _ more h in
    let same : record given { memo = Some memo } ≡ more = cc in
    subst AreWithin same given_within
limits-with_value at Seed given more word given_within h =
    let (n, is_number, rest) = ok_before (value_at at (number_within 0 18446744073709551615 word)) _ more h in
    let same : record given { seed = Some n } ≡ more = cc in
    subst AreWithin same given_within

limits-options_from : (taker : Taker) (at : ℕ) (given last : Options) (words : List (List ℕ)) → AreWithin given
    → options_from taker at given words ≡ Ok last
    → AreWithin last
limits-options_from taker at given last [] given_within h = let same : given ≡ last = cc in
    subst AreWithin same given_within
limits-options_from taker at given last (option ∷ []) given_within h =
    let (setting, is_setting, never) = ok_before (setting_at taker at option given) _ last h in
    absurd (let no : Err (MissingValue at) ≡ Ok last = never in cc)
limits-options_from taker at given last (option ∷ value ∷ rest) given_within h =
    let (setting, is_setting, h1) = ok_before (setting_at taker at option given) _ last h in
    let (more, is_more, h2) = ok_before (with_value (at + 1) setting given value) _ last h1 in
    limits-options_from taker (at + 2) more last rest
    (limits-with_value (at + 1) setting given more value given_within is_more) h2

limits-solve_file_of : (words : List (List ℕ)) (job : Job) → solve_file_of words ≡ Ok job → IsWithinLimits job
limits-solve_file_of words job h =
    let (one, is_one, h1) = ok_before (after_name words) _ job h in
    let (given, is_given, h2) = ok_before (options_from SolveFile 3 no_options one) _ job h1 in
    let same : Solve File (unwrap_or given.cache 100000) (unwrap_or given.nodes 1000000) (unwrap_or given.narrow 0)
    (unwrap_or given.way Both) (unwrap_or given.memo Linked) ≡ job = cc in
    subst IsWithinLimits same
    (limits-options_from SolveFile 3 no_options given one (lit≤ tt, lit≤ tt, lit≤ tt, lit≤ tt, lit≤ tt) is_given)

limits-solve_seed_of : (words : List (List ℕ)) (job : Job) → solve_seed_of words ≡ Ok job → IsWithinLimits job
limits-solve_seed_of words job h =
    let (given, is_given, h1) = ok_before (options_from SolveSeed 2 no_options words) _ job h in
    let (seed, is_seed, h2) = ok_before (seed_of given.seed) _ job h1 in
    let same : Solve (FromSeed seed) (unwrap_or given.cache 100000) (unwrap_or given.nodes 1000000)
    (unwrap_or given.narrow 0) (unwrap_or given.way Both) (unwrap_or given.memo Linked) ≡ job = cc in
    subst IsWithinLimits same
    (limits-options_from SolveSeed 2 no_options given words (lit≤ tt, lit≤ tt, lit≤ tt, lit≤ tt, lit≤ tt) is_given)

-- where one of two readings is chosen, what holds of both holds of it
either : (b : Bool) (first second : Result Job WordFault) (job : Job) → (first ≡ Ok job → IsWithinLimits job)
    → (second ≡ Ok job → IsWithinLimits job)
    → cond b first second ≡ Ok job → IsWithinLimits job
either true first second job of_first of_second h = of_first h
either false first second job of_first of_second h = of_second h

limits-solve_of : (words : List (List ℕ)) (job : Job) → solve_of words ≡ Ok job → IsWithinLimits job
limits-solve_of words job h =
    let (one, is_one, h1) = ok_before (after_name words) _ job h in
    either (names_deal one) (solve_file_of one) (solve_seed_of one) job (limits-solve_file_of one job)
    (limits-solve_seed_of one job) h1

pub if_ok-solve_of : (words : List (List ℕ)) (result : Result Job WordFault) → result ≡ solve_of words
    → IfOk result IsWithinLimits
if_ok-solve_of words (Ok job) is = limits-solve_of words job (sym is)
if_ok-solve_of words (Err fault) is = tt

limits-replay_of : (words : List (List ℕ)) (job : Job) → replay_of words ≡ Ok job → IsWithinLimits job
limits-replay_of words job h =
    let (one, is_one, h1) = ok_before (after_name words) _ job h in
    let (two, is_two, h2) = ok_before (after_name one) _ job h1 in
    let (three, is_three, h3) = ok_before (after_name two) _ job h2 in
    let (none, is_none, h4) = ok_before (no_more 4 three) _ job h3 in
    let same : Replay ≡ job = cc in
    subst IsWithinLimits same tt

limits-deal_of : (words : List (List ℕ)) (job : Job) → deal_of words ≡ Ok job → IsWithinLimits job
limits-deal_of words job h =
    let (one, is_one, h1) = ok_before (after_name words) _ job h in
    let (given, is_given, h2) = ok_before (options_from taker.Deal 2 no_options one) _ job h1 in
    let (seed, is_seed, h3) = ok_before (seed_of given.seed) _ job h2 in
    let same : Deal seed ≡ job = cc in
    subst IsWithinLimits same tt

limits-rules_of : (words : List (List ℕ)) (job : Job) → rules_of words ≡ Ok job → IsWithinLimits job
limits-rules_of words job h =
    let (one, is_one, h1) = ok_before (after_name words) _ job h in
    let (none, is_none, h2) = ok_before (no_more 2 one) _ job h1 in
    let same : Rules ≡ job = cc in
    subst IsWithinLimits same tt

no_job : (job : Job) (fault : WordFault) → Err fault ≡ Ok job → IsWithinLimits job
no_job job fault h = absurd (cc)

pub limits-job_of : (words : List (List ℕ)) (job : Job) → job_of words ≡ Ok job → IsWithinLimits job
limits-job_of [] job h = cc
limits-job_of (command ∷ words) job h =
    either (bytes_eq command (codes "solve")) (solve_of words) _ job (limits-solve_of words job)
    (either (bytes_eq command (codes "replay")) (replay_of words) _ job (limits-replay_of words job)
    (either (bytes_eq command (codes "deal")) (deal_of words) _ job (limits-deal_of words job)
    (either (bytes_eq command (codes "rules")) (rules_of words) _ job (limits-rules_of words job)
    (no_job job UnknownCommand))))
    h
