-- Cards and entries, read back from their bytes.
use Rattle.std.specs.Prelude.{ℕ, ◌+◌, ◌-◌, ◌/◌, ◌%◌, ◌==◌, Option, Some, None, if◌then◌else◌}
use Rattle.card_piles.specs.declared.Card.{Card}
use Rattle.game_rules.specs.Board.{suit_at}

-- the card of a byte
abbrev pub card_of_byte : ℕ → Card
card_of_byte n = record { suit = suit_at ((n - 1) / 13); rank = (n - 1) % 13 + 1 }

-- the card of an entry's byte, and none for 0
abbrev pub entry_of_byte : ℕ → Option Card
entry_of_byte n = if n == 0 then None else Some (card_of_byte n)
