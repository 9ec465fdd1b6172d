-- The options of a command, as they are read from left to right.
use Rattle.std.specs.Prelude.{ℕ, ◌+◌, true, false, List, [], ◌∷◌, Bool, Option, Some, None, is_some, Result, Ok, Err}
use Rattle.std.specs.Prelude.{codes, if◌then◌else◌}
use Rattle.std.specs.Str.{bytes_eq}
use Rattle.solver_words.specs.declared.fault.WordFault.{WordFault}
use Rattle.solver_words.specs.declared.fault.WordFault.TheVariants.{UnknownOption, RepeatedOption}
use Rattle.solver_words.specs.declared.fault.WordFault.TheVariants.{MissingValue, BadOptionValue}
use Rattle.solver_words.specs.declared.job.MemoWord.{MemoWord}
use Rattle.solver_words.specs.declared.job.MemoWord.TheVariants.{Linked, Lru}
use Rattle.solver_words.specs.declared.job.Way.{Way}
use Rattle.solver_words.specs.declared.job.Way.TheVariants.{Foundations, Suits, Both}
use Rattle.solver_words.specs.declared.options.Setting.{Setting}
use Rattle.solver_words.specs.declared.options.Setting.TheVariants.{Cache, Nodes, Narrow, Memo, Seed}
use Rattle.solver_words.specs.declared.options.Setting.TheVariants as setting
use Rattle.solver_words.specs.declared.options.Taker.{Taker}
use Rattle.solver_words.specs.declared.options.Taker.TheVariants as taker
use Rattle.solver_words.specs.declared.options.Options.{Options}
use Rattle.solver_words.specs.Choice.{◌>>=◌}
use Rattle.solver_words.specs.Numbers.{number_within}

-- the option that the word names
abbrev pub setting_named : List ℕ → Option Setting
setting_named word =
    if bytes_eq word (codes "--cache") then Some Cache
    else (if bytes_eq word (codes "--nodes") then Some Nodes
    else (if bytes_eq word (codes "--narrow") then Some Narrow
    else (if bytes_eq word (codes "--way") then Some setting.Way
    else (if bytes_eq word (codes "--memo") then Some Memo
    else (if bytes_eq word (codes "--seed") then Some Seed
    else None)))))

-- the way that the word names
abbrev pub way_named : List ℕ → Option Way
way_named word =
    if bytes_eq word (codes "foundations") then Some Foundations
    else (if bytes_eq word (codes "suits") then Some Suits
    else (if bytes_eq word (codes "both") then Some Both
    else None))

-- the memo that the word names
abbrev pub memo_named : List ℕ → Option MemoWord
memo_named word =
    if bytes_eq word (codes "linked") then Some Linked
    else (if bytes_eq word (codes "lru") then Some Lru
    else None)

-- whether the command has the option: a seed is for commands with no deal file, the rest is for solving
abbrev pub has_option : Taker → Setting → Bool
has_option taker.SolveFile Cache = true
has_option taker.SolveFile Nodes = true
has_option taker.SolveFile Narrow = true
has_option taker.SolveFile setting.Way = true
has_option taker.SolveFile Memo = true
has_option taker.SolveFile Seed = false
has_option taker.SolveSeed setting = true
has_option taker.Deal Cache = false
has_option taker.Deal Nodes = false
has_option taker.Deal Narrow = false
has_option taker.Deal setting.Way = false
has_option taker.Deal Memo = false
has_option taker.Deal Seed = true

-- the option, if the command has it
abbrev pub of_command : Taker → Option Setting → Option Setting
of_command taker None = None
of_command taker (Some setting) = if has_option taker setting then Some setting else None

-- the option of the command that the word names
abbrev pub setting_of : Taker → List ℕ → Option Setting
setting_of taker word = of_command taker (setting_named word)

-- nothing was given
abbrev pub no_options : Options
no_options = record { cache = None; nodes = None; narrow = None; way = None; memo = None; seed = None }

-- the option was given
abbrev pub is_given : Setting → Options → Bool
is_given Cache given = is_some given.cache
is_given Nodes given = is_some given.nodes
is_given Narrow given = is_some given.narrow
is_given setting.Way given = is_some given.way
is_given Memo given = is_some given.memo
is_given Seed given = is_some given.seed

-- the option of the word at the place: it is known, and was not given before
abbrev pub setting_at : Taker → ℕ → List ℕ → Options → Result Setting WordFault
setting_at taker at word given = known_at at (setting_of taker word) given
  where
    known_at : ℕ → Option Setting → Options → Result Setting WordFault
    known_at at None given = Err (UnknownOption at)
    known_at at (Some setting) given = if is_given setting given then Err (RepeatedOption at) else Ok setting

-- the value, which the word at the place has to give
abbrev pub value_at : {V : Type 0} → ℕ → Option V → Result V WordFault
value_at at None = Err (BadOptionValue at)
value_at at (Some value) = Ok value

-- the options with this one too, whose value is the word at the place
abbrev pub with_value : ℕ → Setting → Options → List ℕ → Result Options WordFault
with_value at Cache given word = value_at at (number_within 1 4000000 word) >>= λ n.
    Ok (record given { cache = Some n })
with_value at Nodes given word = value_at at (number_within 1 1000000000000 word) >>= λ n.
    Ok (record given { nodes = Some n })
with_value at Narrow given word = value_at at (number_within 0 1000000000000 word) >>= λ n.
    Ok (record given { narrow = Some n })
with_value at setting.Way given word = value_at at (way_named word) >>= λ way. Ok (record given { way = Some way })
with_value at Memo given word = value_at at (memo_named word) >>= λ memo. Ok (record given { memo = Some memo })
with_value at Seed given word = value_at at (number_within 0 18446744073709551615 word) >>= λ n.
    Ok (record given { seed = Some n })

-- the options from the word at the place on, after those that were given before it
abbrev pub options_from : Taker → ℕ → Options → List (List ℕ) → Result Options WordFault
options_from taker at given [] = Ok given
options_from taker at given (option ∷ []) = setting_at taker at option given >>= λ setting. Err (MissingValue at)
options_from taker at given (option ∷ value ∷ rest) =
    setting_at taker at option given >>= λ setting. with_value (at + 1) setting given value >>= λ more.
    options_from taker (at + 2) more rest
