use Rattle.std.proofs.Common.{◌≡◌, ℕ, ◌+◌, ◌≤◌, [], ◌∷◌, ◌++◌, refl, ap, sym, ◌∙◌, arith, append_assoc, append-nil}
use Rattle.std.specs.Prelude.{Some, None}
use Rattle.std.specs.List.{filter}
use Rattle.std.proofs.lemmas.List.Elements.{All-append, All-cons, All-nil}
use Rattle.card_piles.specs.declared.Card.{Card}
use Rattle.game_rules.specs.declared.Place.TheVariants.{Tableau}
use Rattle.game_rules.specs.declared.Move.TheVariants.{Carry}
use Rattle.game_rules.specs.Board.{Board, Pile, pile_at, top_of, below_top}
use Rattle.game_rules.specs.Play.{is_legal_move}
use Rattle.legal_moves.specs.declared.offers.Offer.{Offer}
use Rattle.legal_moves.specs.Offers.{IsGiven, legal_of}
use Rattle.legal_moves.specs.Runs.{most_given}
use Rattle.legal_moves.proofs.Runs.{Reached, Stops, reached-first, reached-more, stops-at_break, stops-at_most}
use Rattle.legal_moves.proofs.Runs.{most_given-le, no_top}
use Rattle.legal_moves.proofs.Offered.{legal_up_to, legal_up_to-more, legal_of-push, between-pile, given-pile}
use Rattle.legal_moves.proofs.offers.push_pile.Goals as goal

pub returns-then-most-eq0-clause-legal : goal.returns-then-most-eq0-clause-legal
returns-then-most-eq0-clause-legal g c to =
    let rules = c.args.rules.now in
    let board : Board = g.T.Table.board c.args.table.now in
    let none : most_given rules (pile_at board c.args.i) ≡ 0 = sym c.most_given-most.ensures ∙ c.if-most-eq0.true in
    let stops : Stops rules (pile_at board c.args.i) 0 = stops-at_most rules (pile_at board c.args.i) 0
    (omega (arith, none)) in
    rw (between-pile rules board to c.args.i 0 stops (omega arith))
    (sym (append-nil (legal_of rules board c.args.offers.now.items to)))

pub returns-in-None-clause-legal : goal.returns-in-None-clause-legal
returns-in-None-clause-legal g c =
    let rules = c.args.rules.now in
    let pile : Pile = pile_at (g.T.Table.board c.args.table.now) c.args.i in
    let none : top_of pile.cards ≡ None = ap top_of (sym c.pile-pile.ensures.cards)
    ∙ sym c.top.ensures ∙ c.in-None.is in
    absurd (omega
    (arith, c.most_given-most.ensures, c.if-most-eq0.false, most_given-le rules pile, no_top pile.cards none))

pub loop-count-init : goal.loop-count-init
loop-count-init g c =
    let card : Card = c.in-Some.top in
    let rules = c.args.rules.now in
    let board : Board = g.T.Table.board c.args.table.now in
    let pile : Pile = pile_at board c.args.i in
    let top : top_of pile.cards ≡ Some card = ap top_of (sym c.pile-pile.ensures.cards)
    ∙ sym c.top.ensures ∙ c.in-Some.is in
    let reached : Reached rules pile.cards (g.T.Table.cards c.args.table.now c.under-left.result) card 1 =
    reached-first rules pile.cards _ card top
    (c.under-left.ensures.cards ∙ ap (below_top 1) c.pile-pile.ensures.cards) in
    let offer : Offer = record { from = Tableau c.args.i; count = 1; bit = c.of.result } in
    let few : 1 ≤ most_given rules pile = omega (arith, c.most_given-most.ensures, c.if-most-eq0.false) in
    record {
      stands = c.under-left.ensures.stands;
      reached = reached;
      legal = λ to. ap (λ xs. legal_of rules board xs to) c.push.ensures.items
          ∙ legal_of-push rules board c.args.offers.now.items offer to;
      given = rw c.push.ensures.items
          (All-append (IsGiven rules board) c.args.offers.now.items (offer ∷ []) c.requires.given
          (All-cons (IsGiven rules board) offer [] (given-pile rules board c.args.i _ card 1 c.of.result c.requires.here
          reached few c.of.ensures.ranked c.of.ensures.value) (All-nil (IsGiven rules board))));
      len = c.push.ensures.len;
    }

pub returns-in-None-next_down-clause-legal : goal.returns-in-None-next_down-clause-legal
returns-in-None-next_down-clause-legal g c to =
    let rules = c.args.rules.now in
    let board : Board = g.T.Table.board c.args.table.now in
    let pile : Pile = pile_at board c.args.i in
    let n : ℕ = c.loop-count.count in
    let stops : Stops rules pile n =
    stops-at_break rules pile _ c.loop-count.card n c.loop-count.invariant.reached
    (sym c.next_down.ensures ∙ c.in-None-next_down.is) in
    rw (
      c.loop-count.invariant.legal to,
      between-pile rules board to c.args.i n stops
          (omega (arith, c.most_given-most.ensures)),
    ) refl

pub loop-count-preserved : goal.loop-count-preserved
loop-count-preserved g c =
    let rules = c.args.rules.now in
    let board : Board = g.T.Table.board c.args.table.now in
    let pile : Pile = pile_at board c.args.i in
    let n : ℕ = c.loop-count.count in
    let card : Card = c.in-Some-next_down.lower in
    let reached : Reached rules pile.cards
    (g.T.Table.cards c.args.table.now c.under-left-in-Some-next_down.result) card (n + 1) =
    reached-more rules pile.cards _ _ c.loop-count.card card n c.loop-count.invariant.reached
    (sym c.next_down.ensures ∙ c.in-Some-next_down.is) c.under-left-in-Some-next_down.ensures.cards in
    let offer : Offer = record { from = Tableau c.args.i; count = n + 1; bit = c.of-in-Some-next_down.result } in
    let few : n + 1 ≤ most_given rules pile = omega (arith, c.most_given-most.ensures, c.loop-count-test.true) in
    record {
      stands = c.under-left-in-Some-next_down.ensures.stands;
      reached = reached;
      legal = λ to.
          ap (λ xs. legal_of rules board xs to) c.push-in-Some-next_down.ensures.items
          ∙ legal_of-push rules board c.loop-count.offers.items offer to
          ∙ ap (λ moves. moves ++ filter (is_legal_move rules board) (Carry (Tableau c.args.i) to (n + 1) ∷ []))
          (c.loop-count.invariant.legal to)
          ∙ append_assoc (legal_of rules board c.args.offers.now.items to)
          (legal_up_to rules board to (Tableau c.args.i) n)
          (filter (is_legal_move rules board) (Carry (Tableau c.args.i) to (n + 1) ∷ []))
          ∙ ap (λ moves. legal_of rules board c.args.offers.now.items to ++ moves)
          (sym (legal_up_to-more rules board to (Tableau c.args.i) n));
      given = rw c.push-in-Some-next_down.ensures.items
          (All-append (IsGiven rules board) c.loop-count.offers.items (offer ∷ []) c.loop-count.invariant.given
          (All-cons (IsGiven rules board) offer []
          (given-pile rules board c.args.i _ card (n + 1) c.of-in-Some-next_down.result c.requires.here reached few
          c.of-in-Some-next_down.ensures.ranked c.of-in-Some-next_down.ensures.value)
          (All-nil (IsGiven rules board))));
      len = omega (arith, c.push-in-Some-next_down.ensures.len, c.loop-count.invariant.len);
    }

pub returns-clause-legal : goal.returns-clause-legal
returns-clause-legal g c to =
    let rules = c.args.rules.now in
    let board : Board = g.T.Table.board c.args.table.now in
    let pile : Pile = pile_at board c.args.i in
    let n : ℕ = c.loop-count.count in
    let stops : Stops rules pile n = stops-at_most rules pile n (omega (arith, c.most_given-most.ensures)) in
    rw (
      c.loop-count.invariant.legal to,
      between-pile rules board to c.args.i n stops
          (omega (arith, c.most_given-most.ensures)),
    ) refl
