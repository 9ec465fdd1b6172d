use Rattle.std.proofs.Common.{◌≡◌, ℕ, Bool, true, false, refl, sym, ◌∙◌, append_assoc, append-nil}
use Rattle.std.specs.Prelude.{if◌then◌else◌, length, IsTrue, is_some, ◌==◌}
use Rattle.std.specs.List.{list_all}
use Rattle.std.proofs.lemmas.Bool.{eqb-true}
use Rattle.std.proofs.lemmas.Grind.{flat_map-append}
use Rattle.game_rules.specs.Board.{Board}
use Rattle.game_rules.specs.Order.{entry_count}
use Rattle.legal_moves.proofs.offers.offers.Goals as goal

entries_of : (stacked : Bool) (have limit : ℕ) (all : Bool) → IsTrue (if stacked then all else have == limit)
    → (if stacked then 1 else limit) ≡ (if stacked then 1 else have)
entries_of true have limit all h = refl
entries_of false have limit all h = sym (eqb-true have limit h)

pub returns-clause-legal : goal.returns-clause-legal
returns-clause-legal g c to =
    let board : Board = g.T.Table.board c.args.table.now in
    let filled : IsTrue (if c.args.rules.now.stacked then list_all (λ e. is_some e) board.reserve
    else length board.reserve == c.args.rules.now.reserve) =
    c.requires.belongs.reserve_filled in
    let entries : c.entry_count.result ≡ entry_count c.args.rules.now board =
    c.entry_count.ensures ∙ entries_of c.args.rules.now.stacked (length board.reserve) c.args.rules.now.reserve
    (list_all (λ e. is_some e) board.reserve) filled in
    rw (
      c.push_singles-4.ensures.legal to,
      c.push_singles-3.ensures.legal to,
      c.push_single.ensures.legal to,
      c.push_singles-2.ensures.legal to,
      c.push_singles.ensures.legal to,
      c.push_piles.ensures.legal to,
      c.foundation_count.ensures,
      c.slot_count.ensures,
      c.cells.ensures,
      entries,
      c.requires.belongs.foundations,
      c.requires.belongs.slots,
      c.requires.belongs.piles,
      c.requires.belongs.cells,
    )
    (simp (flat_map-append, append-nil, append_assoc) refl)
