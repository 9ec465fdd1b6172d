-- The first line of a text. What the program promises does not rest on this page.
use Rattle.std.specs.Prelude.{ℕ, ◌+◌, ◌==◌, List, length, position}
use Rattle.std.specs.Option.{option_map_or}

-- the length of the first line of a text with its newline, and of the whole text where it has none
abbrev pub first_line_length : List ℕ → ℕ
first_line_length text = option_map_or (λ i. i + 1) (position (λ b. b == 10) text) (length text)
