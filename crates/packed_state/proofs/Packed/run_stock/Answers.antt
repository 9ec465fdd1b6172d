use Rattle.std.proofs.Common.{arith}
use Rattle.game_rules.proofs.StockMoves.{belongs-after_stock_moves}
use Rattle.packed_state.specs.Packed.{board_of}
use Rattle.packed_state.proofs.StockRuns.{can_cut, before_again, before_kept, cut_used, cut_cards, cut_stacked, cut_holds}
use Rattle.packed_state.proofs.Packed.run_stock.Goals as goal

pub cut-requires : goal.cut-requires
cut-requires c = can_cut c.args.self.now c.border_after-border.result c.border_after-border.ensures.fits

pub returns-clause-stacked : goal.returns-clause-stacked
returns-clause-stacked c = rw c.cut.ensures (cut_stacked c.args.self.now c.keep.ensures c.border_after-border.result)

pub returns-clause-can_go_back : goal.returns-clause-can_go_back
returns-clause-can_go_back c =
    rw c.cut.ensures
    (before_again c.args.self.now c.keep.ensures _ c.border_after-border.result c.border-before.ensures
    c.border_after-border.ensures.fits)

pub returns-clause-belongs : goal.returns-clause-belongs
returns-clause-belongs c =
    rw (c.cut.ensures, c.border_after-border.ensures.moved)
    (belongs-after_stock_moves c.args.rules.now c.args.k (board_of c.args.self.now) c.parts.ensures.playable
    c.requires.belongs c.requires.so_many c.args.k (omega arith))

pub returns-clause-cards : goal.returns-clause-cards
returns-clause-cards c = rw c.cut.ensures (cut_cards c.args.self.now c.keep.ensures c.border_after-border.result)

pub returns-clause-used : goal.returns-clause-used
returns-clause-used c = rw c.cut.ensures (cut_used c.args.self.now c.keep.ensures c.border_after-border.result)

pub returns-clause-holds : goal.returns-clause-holds
returns-clause-holds c =
    rw c.cut.ensures
    (λ holds. cut_holds c.args.self.now c.keep.ensures c.args.rules.now holds c.border_after-border.result
    c.border_after-border.ensures.fits)

pub returns-clause-same_notes : goal.returns-clause-same_notes
returns-clause-same_notes c =
    rw c.cut.ensures
    (λ undo. before_kept c.args.self.now c.keep.ensures undo c.border_after-border.result
    c.border_after-border.ensures.fits)
