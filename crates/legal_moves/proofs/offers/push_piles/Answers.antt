use Rattle.std.proofs.Common.{◌<◌, length, arith, append_assoc, append-nil, refl}
use Rattle.std.proofs.lemmas.Grind.{flat_map-append}
use Rattle.std.proofs.lemmas.List.FromFn.{map-range_with_len_more}
use Rattle.std.proofs.lemmas.List.Sums.{sum_by_more, sum_by_more_le, sum_by-take-le}
use Rattle.game_rules.specs.declared.Place.{Place}
use Rattle.game_rules.specs.declared.Place.TheVariants.{Tableau}
use Rattle.game_rules.specs.Board.{Board, empty_pile}
use Rattle.game_rules.proofs.FewCards.{each_place-few}
use Rattle.legal_moves.proofs.offers.push_piles.Goals as goal

pub push_pile-requires-clause-few : goal.push_pile-requires-clause-few
push_pile-requires-clause-few g c =
    let few = each_place-few c.args.rules.now (g.T.Table.board c.args.table.now) c.max_rank.ensures.limits
    c.requires.belongs in
    few.piles c.loop-i.i

pub push_pile-requires-clause-room : goal.push_pile-requires-clause-room
push_pile-requires-clause-room g c =
    let board : Board = g.T.Table.board c.args.table.now in
    let few = each_place-few c.args.rules.now board c.max_rank.ensures.limits c.requires.belongs in
    let here : c.loop-i.i < length board.piles = omega
    (arith, c.loop-i-test.true, c.piles-i-end.ensures, c.requires.belongs.piles) in
    omega (
      arith,
      few.all,
      c.loop-i.invariant.len,
      sum_by_more_le (λ pile. length pile.cards) board.piles c.loop-i.i empty_pile here,
    )

pub loop-i-preserved : goal.loop-i-preserved
loop-i-preserved g c =
    let board : Board = g.T.Table.board c.args.table.now in
    let here : c.loop-i.i < length board.piles = omega
    (arith, c.loop-i-test.true, c.piles-i-end.ensures, c.requires.belongs.piles) in
    record {
      legal = λ to.
          rw (
            c.push_pile.ensures.legal to,
            c.loop-i.invariant.legal to,
            map-range_with_len_more (λ i. let p : Place = Tableau i in p) 0 c.loop-i.i c.loop-i.i (omega arith),
          )
          (simp (flat_map-append, append-nil, append_assoc) refl);
      given = c.push_pile.ensures.given;
      len = omega (
        arith,
        c.push_pile.ensures.len,
        c.loop-i.invariant.len,
        sum_by_more (λ pile. length pile.cards) board.piles c.loop-i.i empty_pile here,
      );
    }

pub returns-clause-len : goal.returns-clause-len
returns-clause-len g c =
    let board : Board = g.T.Table.board c.args.table.now in
    let few = each_place-few c.args.rules.now board c.max_rank.ensures.limits c.requires.belongs in
    omega (arith, few.all, c.loop-i.invariant.len, sum_by-take-le (λ pile. length pile.cards) board.piles c.loop-i.i)
