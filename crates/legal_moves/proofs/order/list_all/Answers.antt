use Rattle.std.proofs.Common.{◌≡◌, List, append_assoc, refl}
use Rattle.std.specs.List.{flat_map}
use Rattle.game_rules.specs.declared.Move.{Move}
use Rattle.game_rules.specs.Board.{Board}
use Rattle.game_rules.specs.Order.{sources, targets}
use Rattle.game_rules.specs.ByPlace.{legal_to}
use Rattle.game_rules.proofs.Listing.{legal_moves-step_by_step}
use Rattle.legal_moves.specs.Offers.{legal_of}
use Rattle.legal_moves.proofs.order.list_all.Goals as goal

pub returns-clause-ok : goal.returns-clause-ok
returns-clause-ok g c =
    let rules = c.args.rules.now in
    let board : Board = g.T.Table.board c.args.table.now in
    let same : flat_map (legal_of rules board c.offers.new.offers.items) (targets rules board)
    ≡ flat_map (legal_to rules board (sources rules board)) (targets rules board) =
    λ j. flat_map (λ to. c.offers.ensures.legal to j) (targets rules board) in
    rw (
      c.in_ok-push_legal-2.ensures.ok,
      c.in_ok-push_legal.ensures.ok,
      c.in_ok-list_carries.ensures.ok,
      c.as_slice.ensures.value,
      same,
      legal_moves-step_by_step rules board,
    )
    (simp append_assoc (refl {A = List Move}))
