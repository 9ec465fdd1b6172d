use Rattle.std.proofs.Common.{◌≡◌, ◌≤◌, ◌+◌}
use Rattle.card_links.specs.Chains.{size_at}
use Rattle.game_rules.specs.StockMoves.{after_stock_moves}
use Rattle.packed_state.specs.Packed.{board_of}
use Rattle.packed_state.proofs.Queues.{cut_at}
use Rattle.packed_state.proofs.Packed.border_after.Given as goal

abbrev pub invariant-loop-made : goal.invariant-loop-made
invariant-loop-made l =
    (cut_at l.border (board_of l.self) ≡ after_stock_moves l.rules l.made (board_of l.self))
    × (l.border.stock ≤ size_at l.self.links 89 + size_at l.self.links 88)
