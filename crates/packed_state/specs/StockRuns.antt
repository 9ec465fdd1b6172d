-- Many stock moves at once, and what their notes and a packed board determine.
use Rattle.std.specs.Prelude.{ℕ, ◌+◌, ◌-◌, Bool, nat_le, nat_lt, Option, Some, None, if◌then◌else◌}
use Rattle.card_links.specs.Chains.{size_at}
use Rattle.packed_state.specs.declared.stock.Border.{Border}
use Rattle.packed_state.specs.declared.stock.StockUndo.{StockUndo}
use Rattle.packed_state.specs.Packed.{Linked}
use Rattle.packed_state.specs.Turning.{turned, with_redeals}

-- the packed board with so many cards in the stock: one after the other they went to the waste, or came back from it
abbrev pub moved_to : Linked → ℕ → Linked
moved_to l n =
    if nat_lt n (size_at l.links 89) then turned l 89 88 (size_at l.links 89 - n)
    else turned l 88 89 (n - size_at l.links 89)

-- the packed board whose queue of stock and waste is cut at a border, with the redeals that the border says
abbrev pub cut_at : Border → Linked → Linked
cut_at border l = with_redeals (moved_to l border.stock) border.redeals_left

-- whether the queue can be cut there: stock and waste have so many cards
abbrev pub can_be_cut : Border → Linked → Bool
can_be_cut border l = nat_le border.stock (size_at l.links 89 + size_at l.links 88)

-- the earlier packed board that the notes of stock moves and a packed board determine
abbrev pub before_run : StockUndo → Linked → Option Linked
before_run undo l = if can_be_cut undo.before l then Some (cut_at undo.before l) else None
