-- Small games that are worked out by the definitions alone: for each kind of game a line that wins,
-- and a start without a win. In a game of clubs the other suits are wholly on their foundations.
use Rattle.std.proofs.Common.{◌≡◌, ℕ, true, false, List, [], ◌∷◌, refl, lit≤, lit<}
use Rattle.std.specs.Prelude.{Bool, Option, Some, None}
use Rattle.card_piles.specs.declared.Card.{Card}
use Rattle.card_piles.specs.declared.Suit.TheVariants.{Clubs, Diamonds, Hearts, Spades}
use Rattle.card_piles.specs.declared.Build.TheVariants.{NoBuild, AnySuit, RedBlack, SameSuit}
use Rattle.game_rules.specs.declared.RuleParts.{RuleParts}
use Rattle.game_rules.specs.declared.Layout.TheVariants.{Even}
use Rattle.game_rules.specs.declared.Face.TheVariants.{AllUp, TopUp}
use Rattle.game_rules.specs.declared.Groups.TheVariants.{One, Run}
use Rattle.game_rules.specs.declared.Spaces.TheVariants.{Any, King, NoFill}
use Rattle.game_rules.specs.declared.Target.TheVariants.{ToWaste, ToTableau, ToHole}
use Rattle.game_rules.specs.declared.Redeals.TheVariants.{Times, Unlimited}
use Rattle.game_rules.specs.declared.HoleStart.TheVariants.{Dealt}
use Rattle.game_rules.specs.declared.Goal.TheVariants.{Foundations, Hole, Sequences}
use Rattle.game_rules.specs.declared.Move.{Move}
use Rattle.game_rules.specs.declared.Move.TheVariants.{Carry, Deal, Redeal}
use Rattle.game_rules.specs.declared.Place.{Place}
use Rattle.game_rules.specs.declared.Place.TheVariants.{Tableau, Cell, Reserve, Waste, Foundation}
use Rattle.game_rules.specs.declared.Place.TheVariants.{Slot, Hole as TheHole}
use Rattle.game_rules.specs.Board.{Board, Pile}
use Rattle.game_rules.specs.Play.{after}
use Rattle.game_rules.specs.Winning.{Wins, Winnable}
use Rattle.game_rules.specs.Order.{legal_moves}
use Rattle.game_rules.proofs.NoWin.{listed-no_win}
use Rattle.game_rules.proofs.SmallWords.{club, diamond, heart, spade, plain, board_of, up, go}

-- From the tableau to the foundations.

abbrev ace_under_two : Board
ace_under_two = board_of (up (club 1 ∷ club 2 ∷ []) ∷ up [] ∷ []) (0 ∷ 2 ∷ 2 ∷ 2 ∷ [])

-- the two goes to the space, and then the ace and the two go home
pub ace_under_two-wins : Wins (plain 2 2) 3 ace_under_two
ace_under_two-wins = record {
  moves = go (Tableau 0) (Tableau 1) ∷ go (Tableau 0) (Foundation 0) ∷ go (Tableau 1) (Foundation 0) ∷ [];
  end = board_of (up [] ∷ up [] ∷ []) (2 ∷ 2 ∷ 2 ∷ 2 ∷ []);
  short = lit≤ tt;
  line = (refl, (refl, (refl, refl)));
  won = refl;
}

-- the one legal move at the start
pub ace_under_two-moves : legal_moves (plain 2 2) ace_under_two ≡ go (Tableau 0) (Tableau 1) ∷ []
ace_under_two-moves = refl

-- with no space there is no move
pub no_space-no_win : Winnable (plain 2 1) (board_of (up (club 1 ∷ club 2 ∷ []) ∷ []) (0 ∷ 2 ∷ 2 ∷ 2 ∷ [])) → ⊥
no_space-no_win = listed-no_win _ _ [] (refl, tt) (tt, tt)

-- the king on the second or the third pile
abbrev king_on_second : Board
king_on_second = board_of (up (club 1 ∷ club 2 ∷ []) ∷ up (club 3 ∷ []) ∷ up [] ∷ []) (0 ∷ 3 ∷ 3 ∷ 3 ∷ [])

abbrev king_on_third : Board
king_on_third = board_of (up (club 1 ∷ club 2 ∷ []) ∷ up [] ∷ up (club 3 ∷ []) ∷ []) (0 ∷ 3 ∷ 3 ∷ 3 ∷ [])

-- where kings alone fill spaces, the king goes between two spaces for ever
pub king_between_two_spaces-no_win : Winnable (record (plain 3 3) { spaces = King }) king_on_second → ⊥
king_between_two_spaces-no_win =
    listed-no_win _ _ (king_on_third ∷ []) (refl, (refl, tt))
    (((1, lit< tt, refl), tt), (((0, lit< tt, refl), tt), tt))

-- Cells.

abbrev one_cell : ℕ → RuleParts
one_cell max_rank = record (plain max_rank 1) { cells = 1 }

abbrev with_cell : Option Card → Board → Board
with_cell card board = record board { cells = card ∷ [] }

-- the two waits in the cell while the ace goes home
pub cell_frees_the_ace-wins : Wins (one_cell 2) 3
    (with_cell None (board_of (up (club 1 ∷ club 2 ∷ []) ∷ []) (0 ∷ 2 ∷ 2 ∷ 2 ∷ [])))
cell_frees_the_ace-wins = record {
  moves = go (Tableau 0) (Cell 0) ∷ go (Tableau 0) (Foundation 0) ∷ go (Cell 0) (Foundation 0) ∷ [];
  end = with_cell None (board_of (up [] ∷ []) (2 ∷ 2 ∷ 2 ∷ 2 ∷ []));
  short = lit≤ tt;
  line = (refl, (refl, (refl, refl)));
  won = refl;
}

-- two cards lie on the ace, and the cell holds one
pub one_cell_too_few-no_win : Winnable (one_cell 3)
    (with_cell None (board_of (up (club 1 ∷ club 2 ∷ club 3 ∷ []) ∷ []) (0 ∷ 3 ∷ 3 ∷ 3 ∷ []))) → ⊥
one_cell_too_few-no_win =
    listed-no_win _ _ (with_cell (Some (club 3)) (board_of (up (club 1 ∷ club 2 ∷ []) ∷ []) (0 ∷ 3 ∷ 3 ∷ 3 ∷ [])) ∷ [])
    (refl, (refl, tt)) (((1, lit< tt, refl), tt), (tt, tt))

-- Stock, waste and redeals.

abbrev with_stock : List Card → List Card → ℕ → Board → Board
with_stock stock waste redeals_left board = record board { stock = stock; waste = waste; redeals_left = redeals_left }

-- three cards are dealt at a time, and the last deal has one
pub last_deal_is_short-wins : Wins (record (plain 1 0) { stock = 4; draw = 3 }) 6
    (with_stock (club 1 ∷ diamond 1 ∷ heart 1 ∷ spade 1 ∷ []) [] 0 (board_of [] (0 ∷ 0 ∷ 0 ∷ 0 ∷ [])))
last_deal_is_short-wins = record {
  moves = Deal ∷ go Waste (Foundation 1) ∷ go Waste (Foundation 2) ∷ go Waste (Foundation 3) ∷ Deal ∷ go Waste
      (Foundation 0) ∷ [];
  end = board_of [] (1 ∷ 1 ∷ 1 ∷ 1 ∷ []);
  short = lit≤ tt;
  line = (refl, (refl, (refl, (refl, (refl, (refl, refl))))));
  won = refl;
}

-- the waste becomes the stock once, and the two comes before the three again
pub waste_turned_over-wins : Wins (record (plain 3 0) { stock = 3; redeals = Times 1 }) 9
    (with_stock (club 1 ∷ club 3 ∷ club 2 ∷ []) [] 1 (board_of [] (0 ∷ 3 ∷ 3 ∷ 3 ∷ [])))
waste_turned_over-wins = record {
  moves =
      Deal ∷ Deal ∷ Deal ∷ go Waste (Foundation 0) ∷ Redeal ∷ Deal ∷ go Waste (Foundation 0) ∷ Deal ∷ go Waste
      (Foundation 0) ∷ [];
  end = board_of [] (3 ∷ 3 ∷ 3 ∷ 3 ∷ []);
  short = lit≤ tt;
  line = (refl, (refl, (refl, (refl, (refl, (refl, (refl, (refl, (refl, refl)))))))));
  won = refl;
}

-- two cards are dealt at a time, and the two covers the ace at each redeal
pub ace_under_two_for_ever-no_win : Winnable (record (plain 2 0) { stock = 2; draw = 2; redeals = Unlimited })
    (with_stock (club 2 ∷ club 1 ∷ []) [] 0 (board_of [] (0 ∷ 2 ∷ 2 ∷ 2 ∷ []))) → ⊥
ace_under_two_for_ever-no_win =
    listed-no_win _ _ (with_stock [] (club 1 ∷ club 2 ∷ []) 0 (board_of [] (0 ∷ 2 ∷ 2 ∷ 2 ∷ [])) ∷ [])
    (refl, (refl, tt)) (((1, lit< tt, refl), tt), (((0, lit< tt, refl), tt), tt))

-- A stock that deals to the tableau.

abbrev onto_one_pile : RuleParts
onto_one_pile = record (plain 2 1) { stock = 1; target = ToTableau }

-- the ace is dealt on the two, and both go home
pub ace_dealt_on_two-wins : Wins onto_one_pile 3
    (with_stock (club 1 ∷ []) [] 0 (board_of (up (club 2 ∷ []) ∷ []) (0 ∷ 2 ∷ 2 ∷ 2 ∷ [])))
ace_dealt_on_two-wins = record {
  moves = Deal ∷ go (Tableau 0) (Foundation 0) ∷ go (Tableau 0) (Foundation 0) ∷ [];
  end = board_of (up [] ∷ []) (2 ∷ 2 ∷ 2 ∷ 2 ∷ []);
  short = lit≤ tt;
  line = (refl, (refl, (refl, refl)));
  won = refl;
}

-- the two is dealt on the ace, or the ace goes home first, and then no deal is legal on the empty pile
pub two_dealt_on_ace-no_win : Winnable onto_one_pile
    (with_stock (club 2 ∷ []) [] 0 (board_of (up (club 1 ∷ []) ∷ []) (0 ∷ 2 ∷ 2 ∷ 2 ∷ []))) → ⊥
two_dealt_on_ace-no_win =
    listed-no_win _ _
    (with_stock (club 2 ∷ []) [] 0 (board_of (up [] ∷ []) (1 ∷ 2 ∷ 2 ∷ 2 ∷ []))
    ∷ board_of (up (club 1 ∷ club 2 ∷ []) ∷ []) (0 ∷ 2 ∷ 2 ∷ 2 ∷ []) ∷ [])
    (refl, (refl, (refl, tt)))
    (((1, lit< tt, refl), ((2, lit< tt, refl), tt)), (tt, (tt, tt)))

-- Complete runs.

abbrev whole_suits : RuleParts
whole_suits = record (plain 2 2) {
  build = AnySuit;
  groups = Run;
  group_build = SameSuit;
  goal = Foundations 1 false false true;
}

-- the ace goes on the two, and the run of both goes home at once
pub run_made_whole-wins : Wins whole_suits 2 (board_of (up (club 2 ∷ []) ∷ up (club 1 ∷ []) ∷ []) (0 ∷ 2 ∷ 2 ∷ 2 ∷ []))
run_made_whole-wins = record {
  moves = go (Tableau 1) (Tableau 0) ∷ Carry (Tableau 0) (Foundation 0) 2 ∷ [];
  end = board_of (up [] ∷ up [] ∷ []) (2 ∷ 2 ∷ 2 ∷ 2 ∷ []);
  short = lit≤ tt;
  line = (refl, (refl, refl));
  won = refl;
}

-- each ace lies on the two of the other suit: no run is whole, and no ace goes home alone
pub suits_crossed-no_win : Winnable whole_suits
    (board_of (up (club 2 ∷ diamond 1 ∷ []) ∷ up (diamond 2 ∷ club 1 ∷ []) ∷ []) (0 ∷ 0 ∷ 2 ∷ 2 ∷ [])) → ⊥
suits_crossed-no_win = listed-no_win _ _ [] (refl, tt) (tt, tt)

-- The hole.

abbrev into_the_hole : Bool → RuleParts
into_the_hole wrap = record (plain 3 1) { spaces = NoFill; goal = Hole wrap Dealt }

-- all cards but the ace of clubs lie in the hole, a three on top
abbrev all_but_an_ace : List Card
all_but_an_ace =
    club 2 ∷ club 3 ∷ diamond 1 ∷ diamond 2 ∷ diamond 3 ∷ heart 1 ∷ heart 2 ∷ heart 3 ∷ spade 1 ∷ spade 2 ∷ spade 3 ∷ []

abbrev with_hole : List Card → Board → Board
with_hole cards board = record board { hole = cards }

-- where the ranks wrap round, the ace goes on the three
pub ace_on_the_greatest-wins : Wins (into_the_hole true) 1
    (with_hole all_but_an_ace (board_of (up (club 1 ∷ []) ∷ []) []))
ace_on_the_greatest-wins = record {
  moves = go (Tableau 0) TheHole ∷ [];
  end = with_hole (
      club 2 ∷ club 3 ∷ diamond 1 ∷ diamond 2 ∷ diamond 3 ∷ heart 1 ∷ heart 2 ∷ heart 3 ∷ spade 1 ∷ spade 2
      ∷ spade 3 ∷ club 1 ∷ []
      ) (board_of (up [] ∷ []) []);
  short = lit≤ tt;
  line = (refl, refl);
  won = refl;
}

-- and where they do not, it does not
pub no_ace_on_the_greatest-no_win : Winnable (into_the_hole false)
    (with_hole all_but_an_ace (board_of (up (club 1 ∷ []) ∷ []) [])) → ⊥
no_ace_on_the_greatest-no_win = listed-no_win _ _ [] (refl, tt) (tt, tt)

-- the stock's card goes into the hole, and the ace goes on it
pub dealt_into_the_hole-wins : Wins
    (record (plain 2 1) { spaces = NoFill; goal = Hole true Dealt; stock = 1; target = ToHole }) 2
    (with_stock (club 2 ∷ []) [] 0 (with_hole (spade 2 ∷ diamond 2 ∷ diamond 1 ∷ heart 2 ∷ heart 1 ∷ spade 1 ∷ [])
    (board_of (up (club 1 ∷ []) ∷ []) [])))
dealt_into_the_hole-wins = record {
  moves = Deal ∷ go (Tableau 0) TheHole ∷ [];
  end = with_hole (spade 2 ∷ diamond 2 ∷ diamond 1 ∷ heart 2 ∷ heart 1 ∷ spade 1 ∷ club 2 ∷ club 1 ∷ [])
      (board_of (up [] ∷ []) []);
  short = lit≤ tt;
  line = (refl, (refl, refl));
  won = refl;
}

-- Sequences.

abbrev sequences : ℕ → RuleParts
sequences max_rank = record (plain max_rank 0) { goal = Sequences }

abbrev rows_of : List (Option Card) → Board
rows_of slots = record (board_of [] []) { slots = slots }

-- the two in the second column goes to the gap in the first
pub two_to_the_first_column-wins : Wins (sequences 2) 1
    (rows_of (None ∷ Some (club 2) ∷ Some (diamond 2) ∷ None ∷ Some (heart 2) ∷ None ∷ Some (spade 2) ∷ None ∷ []))
two_to_the_first_column-wins = record {
  moves = go (Slot 1) (Slot 0) ∷ [];
  end = rows_of (Some (club 2) ∷ None ∷ Some (diamond 2) ∷ None ∷ Some (heart 2) ∷ None ∷ Some (spade 2) ∷ None ∷ []);
  short = lit≤ tt;
  line = (refl, refl);
  won = refl;
}

-- each gap stands right of a card of the greatest rank, or right of a gap
pub gaps_behind_the_greatest-no_win : Winnable (sequences 3) (rows_of (
    Some (club 3) ∷ None ∷ None
    ∷ Some (diamond 3) ∷ None ∷ None
    ∷ Some (club 2) ∷ Some (diamond 2) ∷ Some (heart 3)
    ∷ Some (heart 2) ∷ Some (spade 2) ∷ Some (spade 3) ∷ []
    )) → ⊥
gaps_behind_the_greatest-no_win = listed-no_win _ _ [] (refl, tt) (tt, tt)

-- Face-down cards.

abbrev only_tops_up : ℕ → ℕ → RuleParts
only_tops_up max_rank piles = record (plain max_rank piles) { face = TopUp; spaces = NoFill }

abbrev partly_up : List Card → ℕ → Pile
partly_up cards face_down = record { cards = cards; face_down = face_down }

abbrev ace_on_two_face_down : Board
ace_on_two_face_down = board_of (partly_up (club 3 ∷ club 2 ∷ club 1 ∷ []) 2 ∷ []) (0 ∷ 3 ∷ 3 ∷ 3 ∷ [])

-- the two is turned up as the ace leaves it
pub ace_on_two_face_down-after : after (only_tops_up 3 1) ace_on_two_face_down (go (Tableau 0) (Foundation 0))
    ≡ board_of (partly_up (club 3 ∷ club 2 ∷ []) 1 ∷ []) (1 ∷ 3 ∷ 3 ∷ 3 ∷ [])
ace_on_two_face_down-after = refl

-- each card is turned up in its turn and goes home
pub turned_up_in_turn-wins : Wins (only_tops_up 3 1) 3 ace_on_two_face_down
turned_up_in_turn-wins = record {
  moves = go (Tableau 0) (Foundation 0) ∷ go (Tableau 0) (Foundation 0) ∷ go (Tableau 0) (Foundation 0) ∷ [];
  end = board_of (up [] ∷ []) (3 ∷ 3 ∷ 3 ∷ 3 ∷ []);
  short = lit≤ tt;
  line = (refl, (refl, (refl, refl)));
  won = refl;
}

-- the ace lies face down under the two, and nothing fills the space
pub ace_face_down-no_win : Winnable (only_tops_up 2 2)
    (board_of (partly_up (club 1 ∷ club 2 ∷ []) 1 ∷ up [] ∷ []) (0 ∷ 2 ∷ 2 ∷ 2 ∷ [])) → ⊥
ace_face_down-no_win = listed-no_win _ _ [] (refl, tt) (tt, tt)

-- The reserve.

abbrev with_reserve : List (Option Card) → Board → Board
with_reserve reserve board = record board { reserve = reserve }

-- two entries, or one list of two cards
abbrev two_in_reserve : Bool → RuleParts
two_in_reserve stacked = record (plain 2 0) { reserve = 2; stacked = stacked }

-- each entry is free, so the ace goes home past the two
pub entries_are_free-wins : Wins (two_in_reserve false) 2
    (with_reserve (Some (club 1) ∷ Some (club 2) ∷ []) (board_of [] (0 ∷ 2 ∷ 2 ∷ 2 ∷ [])))
entries_are_free-wins = record {
  moves = go (Reserve 0) (Foundation 0) ∷ go (Reserve 1) (Foundation 0) ∷ [];
  end = with_reserve (None ∷ None ∷ []) (board_of [] (2 ∷ 2 ∷ 2 ∷ 2 ∷ []));
  short = lit≤ tt;
  line = (refl, (refl, refl));
  won = refl;
}

-- of a stacked reserve the top goes first
pub top_of_reserve-wins : Wins (two_in_reserve true) 2
    (with_reserve (Some (club 2) ∷ Some (club 1) ∷ []) (board_of [] (0 ∷ 2 ∷ 2 ∷ 2 ∷ [])))
top_of_reserve-wins = record {
  moves = go (Reserve 0) (Foundation 0) ∷ go (Reserve 0) (Foundation 0) ∷ [];
  end = with_reserve [] (board_of [] (2 ∷ 2 ∷ 2 ∷ 2 ∷ []));
  short = lit≤ tt;
  line = (refl, (refl, refl));
  won = refl;
}

-- and the ace under it is not free
pub ace_deep_in_reserve-no_win : Winnable (two_in_reserve true)
    (with_reserve (Some (club 1) ∷ Some (club 2) ∷ []) (board_of [] (0 ∷ 2 ∷ 2 ∷ 2 ∷ []))) → ⊥
ace_deep_in_reserve-no_win = listed-no_win _ _ [] (refl, tt) (tt, tt)

-- Taking back.

abbrev back_to_a_space : Bool → RuleParts
back_to_a_space take_back =
    record (plain 3 2) { build = RedBlack; spaces = King; goal = Foundations 1 false take_back false }

abbrev ace_between : Board
ace_between = board_of (up (club 3 ∷ club 1 ∷ club 2 ∷ []) ∷ up [] ∷ []) (0 ∷ 3 ∷ 3 ∷ 3 ∷ [])

-- the red three comes back to the space and holds the two while the ace goes home
pub red_three_taken_back-wins : Wins (back_to_a_space true) 6 ace_between
red_three_taken_back-wins = record {
  moves =
      go (Foundation 1) (Tableau 1) ∷ go (Tableau 0) (Tableau 1) ∷ go (Tableau 0) (Foundation 0)
      ∷ go (Tableau 1) (Foundation 0) ∷ go (Tableau 0) (Foundation 0) ∷ go (Tableau 1) (Foundation 1) ∷ [];
  end = board_of (up [] ∷ up [] ∷ []) (3 ∷ 3 ∷ 3 ∷ 3 ∷ []);
  short = lit≤ tt;
  line = (refl, (refl, (refl, (refl, (refl, (refl, refl))))));
  won = refl;
}

-- where nothing is taken back, nothing moves
pub nothing_taken_back-no_win : Winnable (back_to_a_space false) ace_between → ⊥
nothing_taken_back-no_win = listed-no_win _ _ [] (refl, tt) (tt, tt)

-- A base above the ace.

abbrev from_the_two : RuleParts
from_the_two = record (plain 2 1) { goal = Foundations 2 false false false }

-- the two goes home first, and the ace goes on it
pub two_before_ace-wins : Wins from_the_two 2 (board_of (up (club 1 ∷ club 2 ∷ []) ∷ []) (0 ∷ 2 ∷ 2 ∷ 2 ∷ []))
two_before_ace-wins = record {
  moves = go (Tableau 0) (Foundation 0) ∷ go (Tableau 0) (Foundation 0) ∷ [];
  end = board_of (up [] ∷ []) (2 ∷ 2 ∷ 2 ∷ 2 ∷ []);
  short = lit≤ tt;
  line = (refl, (refl, refl));
  won = refl;
}

-- no ace goes home before its two
pub ace_before_two-no_win : Winnable from_the_two (board_of (up (club 2 ∷ club 1 ∷ []) ∷ []) (0 ∷ 2 ∷ 2 ∷ 2 ∷ [])) → ⊥
ace_before_two-no_win = listed-no_win _ _ [] (refl, tt) (tt, tt)

-- Ranks that wrap round in the piles.

abbrev on_red_and_black : Bool → RuleParts
on_red_and_black wrap = record (plain 2 2) { build = RedBlack; wrap = wrap; spaces = NoFill }

abbrev two_on_an_ace : Board
two_on_an_ace = board_of (up (club 1 ∷ club 2 ∷ []) ∷ up (diamond 2 ∷ diamond 1 ∷ []) ∷ []) (0 ∷ 0 ∷ 2 ∷ 2 ∷ [])

-- the black two waits on the red ace
pub two_waits_on_the_ace-wins : Wins (on_red_and_black true) 5 two_on_an_ace
two_waits_on_the_ace-wins = record {
  moves =
      go (Tableau 0) (Tableau 1) ∷ go (Tableau 0) (Foundation 0) ∷ go (Tableau 1) (Foundation 0)
      ∷ go (Tableau 1) (Foundation 1) ∷ go (Tableau 1) (Foundation 1) ∷ [];
  end = board_of (up [] ∷ up [] ∷ []) (2 ∷ 2 ∷ 2 ∷ 2 ∷ []);
  short = lit≤ tt;
  line = (refl, (refl, (refl, (refl, (refl, refl)))));
  won = refl;
}

-- where ranks do not wrap, the two never leaves the black ace
pub no_two_on_an_ace-no_win : Winnable (on_red_and_black false) two_on_an_ace → ⊥
no_two_on_an_ace-no_win =
    listed-no_win _ _
    (board_of (up (club 1 ∷ club 2 ∷ []) ∷ up (diamond 2 ∷ []) ∷ []) (0 ∷ 1 ∷ 2 ∷ 2 ∷ [])
    ∷ board_of (up (club 1 ∷ club 2 ∷ diamond 1 ∷ []) ∷ up (diamond 2 ∷ []) ∷ []) (0 ∷ 0 ∷ 2 ∷ 2 ∷ [])
    ∷ board_of (up (club 1 ∷ club 2 ∷ []) ∷ up [] ∷ []) (0 ∷ 2 ∷ 2 ∷ 2 ∷ []) ∷ [])
    (refl, (refl, (refl, (refl, tt))))
    (((1, lit< tt, refl), ((2, lit< tt, refl), tt)), (((3, lit< tt, refl), tt), (((1, lit< tt, refl), tt), (tt, tt))))

-- Two decks.

abbrev two_decks : ℕ → RuleParts
two_decks max_rank = record (plain max_rank 1) { decks = 2 }

-- each ace of clubs has a foundation of its own
pub both_aces_of_clubs-wins : Wins (two_decks 1) 2
    (board_of (up (club 1 ∷ club 1 ∷ []) ∷ []) (0 ∷ 1 ∷ 1 ∷ 1 ∷ 0 ∷ 1 ∷ 1 ∷ 1 ∷ []))
both_aces_of_clubs-wins = record {
  moves = go (Tableau 0) (Foundation 0) ∷ go (Tableau 0) (Foundation 4) ∷ [];
  end = board_of (up [] ∷ []) (1 ∷ 1 ∷ 1 ∷ 1 ∷ 1 ∷ 1 ∷ 1 ∷ 1 ∷ []);
  short = lit≤ tt;
  line = (refl, (refl, refl));
  won = refl;
}

-- the two fits neither the empty foundation nor the full one
pub full_foundation_of_clubs-no_win : Winnable (two_decks 2)
    (board_of (up (club 1 ∷ club 2 ∷ []) ∷ []) (0 ∷ 2 ∷ 2 ∷ 2 ∷ 2 ∷ 2 ∷ 2 ∷ 2 ∷ [])) → ⊥
full_foundation_of_clubs-no_win = listed-no_win _ _ [] (refl, tt) (tt, tt)
