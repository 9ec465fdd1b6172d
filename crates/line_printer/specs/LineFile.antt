-- The file of a line of moves, written and read.
use Rattle.std.specs.Prelude.{ℕ, ◌+◌, Bool, ◌==◌, ◌&&◌, nat_lt, List, [], ◌∷◌, ◌++◌, length, Option, Some, None, Result}
use Rattle.std.specs.Prelude.{Ok, Err, codes, count_by, if◌then◌else◌}
use Rattle.std.specs.List.{slice_split, before_first, after_first}
use Rattle.std.specs.Str.{bytes_eq}
use Rattle.game_rules.specs.Play.{is_empty}
use Rattle.game_rules.specs.declared.Move.{Move}
use Rattle.line_printer.specs.declared.fault.LineFault.{LineFault}
use Rattle.line_printer.specs.declared.fault.LineFault.TheVariants.{TooLong, BadMove}
use Rattle.line_printer.specs.MoveText.{move_text, move_of_text}

-- a text and the newline that ends it
abbrev pub ended : List ℕ → List ℕ
ended text = text ++ 10 ∷ []

-- the text of a line of moves: each move's text on a line of its own
abbrev pub line_text : List Move → List ℕ
line_text [] = []
line_text (m ∷ moves) = ended (move_text m) ++ line_text moves

-- the parts of a text between its newlines: its lines, and what follows the last of them
abbrev pub parts_of : List ℕ → List (List ℕ)
parts_of text = slice_split (λ b. b == 10) text

-- how many newlines a text has
abbrev pub newlines : List ℕ → ℕ
newlines text = count_by (λ b. b == 10) text

-- what follows the first line of a text
unfoldable pub after_line : List ℕ → List ℕ
after_line text = after_first (λ b. b == 10) text

-- whether a file opens as the text of a winnable verdict does
unfoldable pub has_head : List ℕ → Bool
has_head bytes = bytes_eq (before_first (λ b. b == 10) bytes) (codes "winnable")

-- the lines of the moves: where the file opens as the text of a winnable verdict, all but its first four lines
abbrev pub past_head : List ℕ → List ℕ
past_head bytes = if has_head bytes then after_line (after_line (after_line (after_line bytes))) else bytes

-- a move, and the moves that follow it; where there is no move, the fault at its line
abbrev pub with_move : ℕ → Option Move → Result (List Move) LineFault → Result (List Move) LineFault
with_move line None rest = Err (BadMove line)
with_move line (Some m) (Ok moves) = Ok (m ∷ moves)
with_move line (Some m) (Err fault) = Err fault

-- the moves of lines of which the first has this number, with nothing after the last of them
abbrev pub moves_from : ℕ → List (List ℕ) → Result (List Move) LineFault
moves_from line [] = Ok []
moves_from line (text ∷ parts) =
    if is_empty parts then (if is_empty text then Ok [] else Err (BadMove line))
    else with_move line (move_of_text text) (moves_from (line + 1) parts)

-- what a file of at most the limit's bytes gives: its moves or its first fault
abbrev pub line_within : ℕ → List ℕ → Result (List Move) LineFault
line_within limit bytes =
    if nat_lt limit (length bytes) then Err TooLong else
    if has_head bytes && nat_lt (newlines bytes) 4 then Err (BadMove (newlines bytes + 1)) else
    moves_from (if has_head bytes then 5 else 1) (parts_of (past_head bytes))

-- the greatest length of a file
unfoldable pub most_bytes : ℕ
most_bytes = 67108864

-- what a line file gives: its moves or its first fault
unfoldable pub line_of : List ℕ → Result (List Move) LineFault
line_of bytes = line_within most_bytes bytes
