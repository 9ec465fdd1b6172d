-- How often the moves of a line turn the waste over.
use Rattle.std.specs.Prelude.{ℕ, zero, suc, List, [], ◌∷◌}
use Rattle.game_rules.specs.declared.Move.{Move}
use Rattle.game_rules.specs.declared.Move.TheVariants.{Carry, Deal, Redeal}

-- how many of the moves are redeals
abbrev pub redeals_in : List Move → ℕ
redeals_in [] = zero
redeals_in (Carry from to count ∷ moves) = redeals_in moves
redeals_in (Deal ∷ moves) = redeals_in moves
redeals_in (Redeal ∷ moves) = suc (redeals_in moves)
