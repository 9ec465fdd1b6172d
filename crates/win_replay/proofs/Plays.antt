-- Lines of moves, played one by one.
use Rattle.std.proofs.Common.{◌≡◌, ◌<◌, ◌≤◌, ◌+◌, suc, ℕ, List, [], ◌∷◌, ◌++◌, length, get_or, take, drop, refl, ap}
use Rattle.std.proofs.Common.{sym, subst, ◌∙◌, Bool, true, false, IsTrue, arith, drop-cons}
use Rattle.std.proofs.lemmas.List.{take_more, take-append-drop, length-take-le, take_all}
use Rattle.game_rules.specs.declared.RuleParts.{RuleParts}
use Rattle.game_rules.specs.declared.Move.{Move}
use Rattle.game_rules.specs.Board.{Board}
use Rattle.game_rules.specs.Play.{Legal, after}
use Rattle.game_rules.specs.Belonging.{Belongs}
use Rattle.game_rules.specs.Winning.{Line}
use Rattle.win_replay.specs.Replays.{IsIllegalAt}

-- the moves before a place were played
pub record PlayedSoFar (rules : RuleParts) (start : Board) (moves : List Move) (i : ℕ) (board : Board) : Type 0 where
  pub belongs : Belongs rules board
  pub line : Line rules start (take i moves) board

pub Line-append : (rules : RuleParts) (start : Board) (moves : List Move) (board : Board) (move : Move) (next : Board)
    → Line rules start moves board → Legal rules board move → next ≡ after rules board move
    → Line rules start (moves ++ move ∷ []) next
Line-append rules start [] board move next line legal is =
    (subst (λ b. Legal rules b move) line legal, is ∙ ap (λ b. after rules b move) line)
Line-append rules start (first ∷ moves) board move next line legal is =
    (line.0, Line-append rules (after rules start first) moves board move next line.1 legal is)

pub played_more : (rules : RuleParts) (start : Board) (moves : List Move) (i : ℕ) (d : Move) (board next : Board)
    → i < length moves → PlayedSoFar rules start moves i board → Legal rules board (get_or moves i d)
    → next ≡ after rules board (get_or moves i d) → Belongs rules next
    → PlayedSoFar rules start moves (i + 1) next
played_more rules start moves i d board next within so_far legal is belongs = record {
  belongs = belongs;
  line = let P : List Move → Type 0 = λ ms. Line rules start ms next in
      subst P (sym (take_more moves i d within))
      (Line-append rules start (take i moves) board (get_or moves i d) next so_far.line legal is);
}

pub stopped_at : (rules : RuleParts) (start : Board) (moves : List Move) (i : ℕ) (d : Move) (board : Board)
    → i < length moves → PlayedSoFar rules start moves i board → ¬ (Legal rules board (get_or moves i d))
    → IsIllegalAt rules start moves i
stopped_at rules start moves i d board within so_far illegal = record {
  before = take i moves;
  move = get_or moves i d;
  after = drop (suc i) moves;
  split = sym (take-append-drop i moves) ∙ ap (λ rest. take i moves ++ rest) (drop-cons moves i d within);
  place = length-take-le i moves (omega arith);
  board = board;
  leads = so_far.line;
  refused = illegal;
}

-- all moves were played
pub played_all : (rules : RuleParts) (start : Board) (moves : List Move) (i : ℕ) (board : Board) → length moves ≤ i
    → PlayedSoFar rules start moves i board → Line rules start moves board
played_all rules start moves i board far so_far =
    let P : List Move → Type 0 = λ ms. Line rules start ms board in subst P (take_all i moves far) so_far.line

pub not_true : (b : Bool) → b ≡ false → ¬ IsTrue b
not_true true is = absurd (cc)
not_true false is = λ t. absurd (cc)
