-- Lines, their ends, and their last moves.
use Rattle.std.proofs.Common.{◌≡◌, ℕ, zero, suc, ◌+◌, ◌<◌, ◌≤◌, List, [], ◌∷◌, ◌++◌, length, take, get_or, refl, ap, sym}
use Rattle.std.proofs.Common.{subst, ◌∙◌, arith, length-append}
use Rattle.game_rules.specs.declared.RuleParts.{RuleParts}
use Rattle.game_rules.specs.declared.Move.{Move}
use Rattle.game_rules.specs.Playable.{IsPlayable}
use Rattle.game_rules.specs.Board.{Board}
use Rattle.game_rules.specs.Belonging.{Belongs}
use Rattle.game_rules.specs.Play.{Legal, after}
use Rattle.game_rules.specs.Winning.{Line, Won, Wins}
use Rattle.game_rules.proofs.KeepsBelonging.{belongs-after}
use Rattle.shortest_line.specs.Levels.{end_of}

pub end_of-none : (rules : RuleParts) (board : Board) → end_of rules board [] ≡ board
unfolding end_of
end_of-none rules board = refl

pub end_of-push : (rules : RuleParts) (board : Board) (moves : List Move) (m : Move)
    → end_of rules board (moves ++ m ∷ []) ≡ after rules (end_of rules board moves) m
unfolding end_of
end_of-push rules board [] m = refl
end_of-push rules board (x ∷ moves) m = end_of-push rules (after rules board x) moves m

-- a line has one end
pub Line-end : (rules : RuleParts) (board : Board) (moves : List Move) (end : Board) → Line rules board moves end
    → end ≡ end_of rules board moves
unfolding end_of
Line-end rules board [] end line = line
Line-end rules board (m ∷ moves) end line = Line-end rules (after rules board m) moves end line.1

pub Line-itself : (rules : RuleParts) (board : Board) (moves : List Move) (end : Board) → Line rules board moves end
    → Line rules board moves (end_of rules board moves)
Line-itself rules board moves end line =
    let P : Board → Type 0 = λ e. Line rules board moves e in subst P (Line-end rules board moves end line) line

pub Line-none : (rules : RuleParts) (board : Board) → Line rules board [] (end_of rules board [])
unfolding end_of
Line-none rules board = refl

-- a line with a move behind it
pub Line-push : (rules : RuleParts) (board : Board) (moves : List Move) (m : Move)
    → Line rules board moves (end_of rules board moves) → Legal rules (end_of rules board moves) m
    → Line rules board (moves ++ m ∷ []) (end_of rules board (moves ++ m ∷ []))
unfolding end_of
Line-push rules board [] m line legal = (legal, refl)
Line-push rules board (x ∷ moves) m line legal =
    (line.0, Line-push rules (after rules board x) moves m line.1 legal)

pub belongs-end : (rules : RuleParts) (board : Board) (moves : List Move) → IsPlayable rules → Belongs rules board
    → Line rules board moves (end_of rules board moves) → Belongs rules (end_of rules board moves)
unfolding end_of
belongs-end rules board [] playable belongs line = belongs
belongs-end rules board (m ∷ moves) playable belongs line =
    belongs-end rules (after rules board m) moves playable (belongs-after rules board m playable belongs line.0) line.1

-- a move of a line is legal where it is made
pub legal_there : (rules : RuleParts) (board : Board) (moves : List Move) (i : ℕ) (d : Move)
    → Line rules board moves (end_of rules board moves) → i < length moves
    → Legal rules (end_of rules board (take i moves)) (get_or moves i d)
unfolding end_of
legal_there rules board [] i d line lt = absurd (omega arith)
legal_there rules board (m ∷ moves) zero d line lt = line.0
legal_there rules board (m ∷ moves) (suc i) d line lt =
    legal_there rules (after rules board m) moves i d line.1 (omega arith)

-- a line that ends with a move
pub record HasLast (rules : RuleParts) (board : Board) (moves : List Move) : Type 0 where
  pub front : List Move
  pub last : Move
  pub is : moves ≡ front ++ last ∷ []
  pub line : Line rules board front (end_of rules board front)
  pub legal : Legal rules (end_of rules board front) last

pub last_of : (rules : RuleParts) (board : Board) (moves : List Move)
    → Line rules board moves (end_of rules board moves) → 0 < length moves → HasLast rules board moves
unfolding end_of
last_of rules board [] line some = absurd (omega arith)
last_of rules board (m ∷ []) line some = record { front = []; last = m; is = refl; line = refl; legal = line.0 }
last_of rules board (m ∷ (x ∷ moves)) line some =
    let r = last_of rules (after rules board m) (x ∷ moves) line.1 (omega arith) in
    record {
      front = m ∷ r.front;
      last = r.last;
      is = ap (λ ms. m ∷ ms) r.is;
      line = (line.0, r.line);
      legal = r.legal;
    }

-- a board that wins within no moves is won
won_here : (rules : RuleParts) (board : Board) (moves : List Move) (end : Board) → length moves ≤ 0
    → Line rules board moves end → Won rules end → Won rules board
won_here rules board [] end short line won = subst (λ b. Won rules b) line won
won_here rules board (m ∷ moves) end short line won = absurd (omega arith)

pub won_now : (rules : RuleParts) (board : Board) → Wins rules 0 board → Won rules board
won_now rules board w = won_here rules board w.moves w.end w.short w.line w.won

pub wins_now : (rules : RuleParts) (board : Board) → Won rules board → Wins rules 0 board
wins_now rules board won = record { moves = []; end = board; short = omega arith; line = refl; won = won }
