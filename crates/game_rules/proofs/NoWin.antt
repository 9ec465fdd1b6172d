-- Why a board may have no win: boards that no legal move leaves, none of them won.
use Rattle.std.proofs.Common.{◌≡◌, Bool, true, false, List, [], ◌∷◌, ap, sym, subst, ◌∙◌, arith, inl, inr}
use Rattle.std.specs.Prelude.{IsTrue}
use Rattle.std.specs.List.{Contains}
use Rattle.game_rules.specs.declared.RuleParts.{RuleParts}
use Rattle.game_rules.specs.declared.Move.{Move}
use Rattle.game_rules.specs.Board.{Board}
use Rattle.game_rules.specs.Play.{Legal, after}
use Rattle.game_rules.specs.Winning.{is_won, Won, Line, Wins, Winnable, IsClosed}
use Rattle.game_rules.specs.Order.{legal_moves}
use Rattle.game_rules.proofs.MovesListed.{Contains-here, Contains-cases, legal_moves-exact}

-- a line that begins inside ends inside
line-inside : (rules : RuleParts) (inside : Board → Type 0) → IsClosed rules inside
    → (moves : List Move) (start end : Board) → inside start → Line rules start moves end → inside end
line-inside rules inside closed [] start end here line = let P : Board → Type 0 = inside in subst P (sym line) here
line-inside rules inside closed (move ∷ moves) start end here line =
    line-inside rules inside closed moves (after rules start move) end (closed.stays start move here line.0) line.1

pub closed_boards-no_win : (rules : RuleParts) (inside : Board → Type 0) → IsClosed rules inside
    → (start : Board) → inside start → Winnable rules start → ⊥
closed_boards-no_win rules inside closed start here win =
    let wins : Wins rules win.0 start = win.1 in
    closed.not_won wins.end (line-inside rules inside closed wins.moves start wins.end here wins.line) wins.won

-- Lists of boards, whose tests compute.

-- none of the boards is won
abbrev pub NoneWon : RuleParts → List Board → Type 0
NoneWon rules [] = Unit {0}
NoneWon rules (board ∷ boards) = (is_won rules board ≡ false) × NoneWon rules boards

-- each of the moves leads to one of the boards
abbrev pub EachLeads : RuleParts → List Board → Board → List Move → Type 0
EachLeads rules boards board [] = Unit {0}
EachLeads rules boards board (move ∷ moves) = Contains boards (after rules board move)
    × EachLeads rules boards board moves

-- each legal move of the further boards leads to one of the boards
abbrev pub EachStays : RuleParts → List Board → List Board → Type 0
EachStays rules boards [] = Unit {0}
EachStays rules boards (board ∷ others) = EachLeads rules boards board (legal_moves rules board)
    × EachStays rules boards others

no_element : {A : Type 0} (x : A) → Contains [] x → ⊥
no_element x h = absurd (omega (arith, h.1))

not_both : (b : Bool) → b ≡ false → IsTrue b → ⊥
not_both true e h = cc
not_both false e h = cc

not_won-listed : (rules : RuleParts) (boards : List Board) → NoneWon rules boards
    → (board : Board) → Contains boards board → Won rules board → ⊥
not_won-listed rules [] none board here won = no_element board here
not_won-listed rules (first ∷ boards) none board here won =
    elim (Contains-cases board first boards here) [
      | inl same ↦ not_both (is_won rules board) (ap (is_won rules) (sym same) ∙ none.0) won
      | inr rest ↦ not_won-listed rules boards none.1 board rest won
    ]

leads-listed : (rules : RuleParts) (boards : List Board) (board : Board) (moves : List Move)
    → EachLeads rules boards board moves
    → (move : Move) → Contains moves move → Contains boards (after rules board move)
leads-listed rules boards board [] each move here = absurd (no_element move here)
leads-listed rules boards board (first ∷ moves) each move here =
    elim (Contains-cases move first moves here) [
      | inl same ↦ let P : Move → Type 0 = λ m. Contains boards (after rules board m) in subst P same each.0
      | inr rest ↦ leads-listed rules boards board moves each.1 move rest
    ]

stays-listed : (rules : RuleParts) (boards others : List Board) → EachStays rules boards others
    → (board : Board) (move : Move) → Contains others board → Legal rules board move
    → Contains boards (after rules board move)
stays-listed rules boards [] each board move here legal = absurd (no_element board here)
stays-listed rules boards (first ∷ others) each board move here legal =
    elim (Contains-cases board first others here) [
      | inl same ↦
          let P : Board → Type 0 = λ b. EachLeads rules boards b (legal_moves rules b) in
          leads-listed rules boards board (legal_moves rules board) (subst P same each.0) move
          ((legal_moves-exact rules board move).1 legal)
      | inr rest ↦ stays-listed rules boards others each.1 board move rest legal
    ]

pub listed-closed : (rules : RuleParts) (boards : List Board) → NoneWon rules boards → EachStays rules boards boards
    → IsClosed rules (Contains boards)
listed-closed rules boards none each = record {
  not_won = not_won-listed rules boards none;
  stays = stays-listed rules boards boards each;
}

-- a list of boards that no legal move leaves, none of them won: its first board has no win
pub listed-no_win : (rules : RuleParts) (start : Board) (boards : List Board) → NoneWon rules (start ∷ boards)
    → EachStays rules (start ∷ boards) (start ∷ boards) → Winnable rules start → ⊥
listed-no_win rules start boards none each win =
    closed_boards-no_win rules (Contains (start ∷ boards)) (listed-closed rules (start ∷ boards) none each) start
    (Contains-here start boards) win
