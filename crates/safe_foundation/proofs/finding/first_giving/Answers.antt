use Rattle.game_rules.specs.Board.{Board}
use Rattle.safe_foundation.proofs.Places.{first-pile, first-cell, first-entry, first-none}
use Rattle.safe_foundation.proofs.finding.first_giving.Goals as goal

pub returns-in-Some : goal.returns-in-Some
returns-in-Some g c =
    let board : Board = g.T.Table.board c.args.table.now in
    first-pile c.args.rules.now board c.args.card c.in-Some.i c.in-Some.ensures

pub returns-in-Some-first_cell : goal.returns-in-Some-first_cell
returns-in-Some-first_cell g c =
    let board : Board = g.T.Table.board c.args.table.now in
    first-cell c.args.rules.now board c.args.card c.in-Some-first_cell.i c.in_default.ensures
    c.in-Some-first_cell.ensures

pub returns-in-Some-first_entry : goal.returns-in-Some-first_entry
returns-in-Some-first_entry g c =
    let board : Board = g.T.Table.board c.args.table.now in
    first-entry c.args.rules.now board c.args.card c.in-Some-first_entry.i c.in_default.ensures
    c.in_default-first_cell.ensures c.in-Some-first_entry.ensures

pub returns : goal.returns
returns g c =
    let board : Board = g.T.Table.board c.args.table.now in
    first-none c.args.rules.now board c.args.card c.in_default.ensures c.in_default-first_cell.ensures
    c.in_default-first_entry.ensures
