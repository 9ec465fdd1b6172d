use Rattle.std.proofs.Common.{◌≡◌, ℕ, ◌+◌, ◌*◌, ◌-◌, ◌<◌, ◌∷◌, ◌++◌, List, drop, length, get_or, ap, ◌∙◌, sym, arith}
use Rattle.std.proofs.Common.{length-take, length-drop}
use Rattle.std.specs.Prelude.{Option, None}
use Rattle.std.proofs.lemmas.List.{get_or-drop, get_or-take}
use Rattle.card_piles.specs.declared.Card.{Card}
use Rattle.game_rules.specs.Board.{entry_at}
use Rattle.same_boards.specs.Keys.{row_bytes, entry_byte}
use Rattle.pile_symmetry.specs.Lines.{slots_of_row}
use Rattle.pile_symmetry.proofs.Ordering.{drop-one_more}
use Rattle.pile_symmetry.proofs.lines.RowsLines.put.Goals as goal

pub loop-back-preserved : goal.loop-back-preserved
loop-back-preserved g c =
    let board = g.R.Reader.board c.args.self.now.reader.now in
    let w = c.args.self.now.width in
    let i = c.args.i in
    let back = c.loop-back.back in
    let row : List (Option Card) = slots_of_row w board i in
    let inside : back < w = omega arith in
    let long : w ≡ length row =
    omega (arith, length-take w (drop (i * w) board.slots), length-drop (i * w) board.slots, c.requires.has.0) in
    let here : get_or row (w - 1 - back) None ≡ entry_at board.slots (i * w + (w - 1 - back)) =
    get_or-take w (drop (i * w) board.slots) (w - 1 - back) None (omega arith)
    ∙ get_or-drop (i * w) board.slots (w - 1 - back) None in
    c.put.ensures
    ∙ ap (λ (bytes : List ℕ). c.entry_byte.result ∷ bytes) c.loop-back.invariant
    ∙ ap (λ (byte : ℕ). byte ∷ (row_bytes (drop (w - back) row) ++ c.args.bytes.now))
    (c.entry_byte.ensures ∙ ap entry_byte (c.slot.ensures ∙ sym here))
    ∙ ap (λ (slots : List (Option Card)). row_bytes slots ++ c.args.bytes.now)
    (sym (drop-one_more row w back None long inside))
