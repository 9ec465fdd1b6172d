-- Boards that were kept, each with the line that reached it.
use Rattle.std.specs.Prelude.{ℕ, List, [], ◌∷◌, ◌++◌, slice_index_or, fold}
use Rattle.game_rules.specs.declared.Move.{Move}
use Rattle.shortest_line.specs.declared.kept.Reached.{Reached}

-- the keys of kept boards, and the line that reached each
pub record Tree : Type 0 where
  pub keys : List (List ℕ)
  pub lines : List (List Move)

-- the line of the board at a place
abbrev pub line_at : List (List Move) → ℕ → List Move
line_at lines place = slice_index_or lines place []

-- one more line: that of a place with a move behind it
abbrev pub with_line : List (List Move) → ℕ → Move → List (List Move)
with_line lines from by = lines ++ (line_at lines from ++ by ∷ []) ∷ []

-- the tree with one more board
abbrev pub with_board : Tree → List ℕ → ℕ → Move → Tree
with_board tree key from by = record { keys = tree.keys ++ key ∷ []; lines = with_line tree.lines from by }

-- the lines by how each board but the start was reached
unfoldable pub lines_of : List Reached → List (List Move)
lines_of reached = fold (λ lines r. with_line lines r.from r.by) ([] ∷ []) reached
