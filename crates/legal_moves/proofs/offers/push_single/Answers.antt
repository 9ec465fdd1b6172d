use Rattle.std.proofs.Common.{[], ◌∷◌, ◌++◌, ap, sym, ◌∙◌, append-nil}
use Rattle.std.proofs.lemmas.List.Elements.{All-append, All-cons, All-nil}
use Rattle.card_piles.specs.declared.Card.{Card}
use Rattle.game_rules.specs.Board.{Board}
use Rattle.legal_moves.specs.declared.offers.Offer.{Offer}
use Rattle.legal_moves.specs.Offers.{IsGiven, legal_of}
use Rattle.legal_moves.proofs.Offered.{legal_of-push, between-single, between-none, given-single}
use Rattle.legal_moves.proofs.offers.push_single.Goals as goal

pub returns-in-Some-clause-given : goal.returns-in-Some-clause-given
returns-in-Some-clause-given g c =
    let rules = c.args.rules.now in
    let board : Board = g.T.Table.board c.args.table.now in
    let card : Card = c.in-Some.card in
    let offer : Offer = record { from = c.args.from; count = 1; bit = c.of-bit.result } in
    rw c.push.ensures.items
    (All-append (IsGiven rules board) c.args.offers.now.items (offer ∷ []) c.requires.given
    (All-cons (IsGiven rules board) offer []
    (given-single rules board c.args.from card c.of-bit.result c.requires.here c.requires.no_pile
    (sym c.single_at.ensures ∙ c.in-Some.is) c.of-bit.ensures.ranked c.of-bit.ensures.value)
    (All-nil (IsGiven rules board))))

pub returns-in-Some-clause-legal : goal.returns-in-Some-clause-legal
returns-in-Some-clause-legal g c to =
    let rules = c.args.rules.now in
    let board : Board = g.T.Table.board c.args.table.now in
    let offer : Offer = record { from = c.args.from; count = 1; bit = c.of-bit.result } in
    ap (λ xs. legal_of rules board xs to) c.push.ensures.items
    ∙ legal_of-push rules board c.args.offers.now.items offer to
    ∙ ap (λ moves. legal_of rules board c.args.offers.now.items to ++ moves)
    (sym (between-single rules board to c.args.from c.requires.no_pile))

pub returns-in-None-clause-legal : goal.returns-in-None-clause-legal
returns-in-None-clause-legal g c to =
    let rules = c.args.rules.now in
    let board : Board = g.T.Table.board c.args.table.now in
    rw (between-none rules board to c.args.from c.requires.no_pile (sym c.single_at.ensures ∙ c.in-None.is))
    (sym (append-nil (legal_of rules board c.args.offers.now.items to)))
