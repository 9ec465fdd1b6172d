-- A safe move is legal.
use Rattle.std.proofs.Common.{◌&&◌, arith}
use Rattle.std.specs.Prelude.{IsTrue, ◌==◌}
use Rattle.game_rules.specs.declared.RuleParts.{RuleParts}
use Rattle.game_rules.specs.declared.Move.{Move}
use Rattle.game_rules.specs.declared.Move.TheVariants.{Carry, Deal, Redeal}
use Rattle.game_rules.specs.Board.{Board}
use Rattle.game_rules.specs.Play.{Legal, is_legal_move}
use Rattle.safe_moves.specs.Safe.{rules_allow, is_safe}
use Rattle.game_rules.proofs.Limits.{both}

pub legal-from_safe : (rules : RuleParts) (board : Board) (move : Move) → IsTrue (is_safe rules board move)
    → Legal rules board move
legal-from_safe rules board (Carry from to count) h =
    let to_free = both _ _ h in
    let to_foundation = both _ _ to_free.0 in
    let to_gives = both _ _ to_foundation.0 in
    let to_count = both (rules_allow rules && is_legal_move rules board (Carry from to count))
    (count == 1) to_gives.0 in
    (both (rules_allow rules) (is_legal_move rules board (Carry from to count)) to_count.0).1
legal-from_safe rules board Deal h = absurd (grind (arith, h))
legal-from_safe rules board Redeal h = absurd (grind (arith, h))
