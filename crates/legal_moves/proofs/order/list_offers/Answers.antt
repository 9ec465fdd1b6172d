use Rattle.std.proofs.Common.{◌≡◌, List, get_or, refl, sym, ◌∙◌, append_assoc}
use Rattle.game_rules.specs.declared.Move.{Move}
use Rattle.game_rules.specs.declared.Place.TheVariants.{Tableau}
use Rattle.game_rules.specs.Board.{Board}
use Rattle.game_rules.specs.Play.{is_legal_move}
use Rattle.std.proofs.lemmas.List.Elements.{All-get_or}
use Rattle.legal_moves.specs.declared.offers.Offer.{Offer}
use Rattle.legal_moves.specs.Offers.{IsGiven, carry_of}
use Rattle.legal_moves.proofs.Offered.{legal_of-more_legal, legal_of-more_not}
use Rattle.legal_moves.proofs.order.list_offers.Goals.{then-may_go+in_ok-push, else-may_go}
use Rattle.legal_moves.proofs.order.list_offers.Goals as goal

pub loop-offer-preserved : goal.loop-offer-preserved
loop-offer-preserved g c =
    let rules = c.args.rules.now in
    let board : Board = g.T.Table.board c.args.table.now in
    let offers : List Offer = c.args.offers.now in
    let blank : Offer = record { from = Tableau 0; count = 0; bit = record { place = 0 } } in
    let item : Offer = get_or offers c.loop-offer.offer-index blank in
    let given : IsGiven rules board item = All-get_or (IsGiven rules board) offers c.loop-offer.offer-index blank
    c.loop-offer-test.true c.requires.given in
    let legal : is_legal_move rules board (carry_of c.args.to item) ≡ c.may_go.result = sym c.may_go.ensures in
    elim c.if-may_go.branch [
      | then-may_go+in_ok-push w ↦
          rw (
            w.out-is,
            w.in_ok-push.ensures.items,
            c.loop-offer.invariant,
            legal_of-more_legal rules board offers c.loop-offer.offer-index blank c.args.to c.loop-offer-test.true
                (legal ∙ w.if-may_go.true),
          )
          (simp append_assoc (refl {A = List Move}))
      | else-may_go w ↦
          rw (
            w.out-is,
            c.loop-offer.invariant,
            legal_of-more_not rules board offers c.loop-offer.offer-index blank c.args.to c.loop-offer-test.true
                (legal ∙ w.if-may_go.false),
          ) refl
    ]
