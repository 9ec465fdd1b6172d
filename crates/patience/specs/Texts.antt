-- The texts that are printed, each line ended by a newline.
use Rattle.std.specs.Prelude.{ℕ, List, [], ◌∷◌, ◌++◌, codes, decimal}
use Rattle.patience.specs.declared.report.FileRole.{FileRole}
use Rattle.patience.specs.declared.report.FileRole.TheVariants as role
use Rattle.patience.specs.declared.status.Status.{Status}
use Rattle.patience.specs.declared.status.Status.TheVariants.{Done, Usage, ShelfFailed, RulesRefused, DealRefused}
use Rattle.patience.specs.declared.status.Status.TheVariants.{LineRefused, SinkFailed, Memory}

-- the exit status of the program
abbrev pub status_number : Status → ℕ
status_number Done = 0
status_number Usage = 10
status_number ShelfFailed = 11
status_number RulesRefused = 12
status_number DealRefused = 13
status_number LineRefused = 14
status_number SinkFailed = 15
status_number Memory = 16

-- a text as one line
abbrev pub line : List ℕ → List ℕ
line text = text ++ 10 ∷ []

-- what a file of the job is called
abbrev pub role_text : FileRole → List ℕ
role_text role.Rules = codes "rules"
role_text role.Deal = codes "deal"
role_text role.Line = codes "line"

-- a file could not be fetched
abbrev pub failed_text : FileRole → List ℕ
failed_text file = line (codes "failed " ++ role_text file)

-- the words name no job
abbrev pub words_text : List ℕ → List ℕ
words_text fault = line (codes "refused words " ++ fault)

-- a file was refused
abbrev pub refused_text : FileRole → List ℕ → List ℕ
refused_text file fault = line (codes "refused " ++ role_text file ++ codes " " ++ fault)

-- the line of moves ends before a won board
abbrev pub ends_short_text : List ℕ
ends_short_text = codes "ends-short"

-- the first move that is not legal
abbrev pub illegal_text : ℕ → List ℕ
illegal_text at = codes "illegal " ++ decimal at

-- the line of moves wins
abbrev pub wins_text : ℕ → List ℕ
wins_text moves = line (codes "wins") ++ line (codes "moves " ++ decimal moves)
