-- The keys of boards up to the suits of a colour. What the program promises does not rest on this page.
use Rattle.std.specs.Prelude.{ℕ, List, [], ◌++◌, if◌then◌else◌}
use Rattle.game_rules.specs.declared.RuleParts.{RuleParts}
use Rattle.game_rules.specs.Rules.{is_foundation_goal}
use Rattle.game_rules.specs.Board.{Board}
use Rattle.same_boards.specs.Keys.{sorted_bytes, key_with}
use Rattle.same_boards.specs.Colours.{coloured_board, black_heights, red_heights}

-- the heights of each colour in ascending order, where the game has foundations
abbrev pub colour_height_bytes : RuleParts → Board → List ℕ
colour_height_bytes rules board =
    if is_foundation_goal rules.goal
    then sorted_bytes (black_heights rules board) ++ sorted_bytes (red_heights rules board)
    else []

-- the key that knows colours and ranks alone
abbrev pub colour_key_bytes : RuleParts → Board → List ℕ
colour_key_bytes rules board = key_with (colour_height_bytes rules board) rules (coloured_board board)
