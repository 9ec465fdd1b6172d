-- A board that wins within n + 1 has a step to a board that wins within n.
use Rattle.std.proofs.Common.{◌≡◌, ◌⊎◌, inl, inr, ℕ, zero, suc, ◌+◌, ◌<◌, ◌≤◌, Bool, true, false, ◌&&◌, not, List, []}
use Rattle.std.proofs.Common.{◌∷◌, length, refl, ap, sym, ◌∙◌, subst, arith, IsTrue, None}
use Rattle.std.specs.List.{Contains}
use Rattle.game_rules.specs.declared.RuleParts.{RuleParts}
use Rattle.game_rules.specs.declared.Place.{Place}
use Rattle.game_rules.specs.declared.Move.{Move}
use Rattle.game_rules.specs.declared.Move.TheVariants.{Carry, Deal, Redeal}
use Rattle.game_rules.specs.Rules.{deals_to_waste}
use Rattle.game_rules.specs.Board.{Board}
use Rattle.game_rules.specs.Play.{Legal, after}
use Rattle.game_rules.specs.Winning.{Line, Won, Wins}
use Rattle.game_rules.specs.Order.{legal_moves}
use Rattle.game_rules.specs.StockMoves.{is_carry, after_stock_move, after_stock_moves}
use Rattle.safe_moves.specs.Safe.{first_safe}
use Rattle.stock_steps.specs.Steps.{is_from_waste, is_from_elsewhere, other_carries, stock_steps_after, steps_from}
use Rattle.stock_steps.specs.Steps.{most_stock_moves, free_steps, steps, waste_carries}
use Rattle.stock_steps.specs.StockSteps.{HasWinningStep, Commute, IsReached}
use Rattle.stock_steps.specs.declared.Step.{Step}
use Rattle.stock_steps.proofs.Members.{Mem, Contains-from_Mem, Mem-left, Mem-right, Mem-filter}
use Rattle.stock_steps.proofs.LegalListed.{legal_listed}
use Rattle.game_rules.proofs.StockMoves.{stock_move_cases, after_stock_moves-suc}
use Rattle.stock_steps.proofs.StockKin.{next_is}
use Rattle.stock_steps.proofs.StockRuns.{Along, steps_along}
use Rattle.stock_steps.proofs.StockList.{stock_along, Mem-steps_from, Mem-along}
use Rattle.stock_steps.proofs.StockCommutes.{carry_first, won_before}

-- a winning list may begin with a carry that is not from the waste
pub record Early (rules : RuleParts) (board end : Board) (n : ℕ) : Type 0 where
  pub from : Place
  pub to : Place
  pub count : ℕ
  pub not_from_waste : is_from_waste (Carry from to count) ≡ false
  pub legal : Legal rules board (Carry from to count)
  pub rest : List Move
  pub short : length rest < n
  pub line : Line rules (after rules board (Carry from to count)) rest end

-- or with stock moves and a carry from the waste
pub record Drawn (rules : RuleParts) (board end : Board) (n : ℕ) : Type 0 where
  pub deals : ℕ
  pub move : Move
  pub from_waste : IsTrue (is_from_waste move)
  pub legal : Legal rules (after_stock_moves rules deals board) move
  pub rest : List Move
  pub short : length rest < n
  pub line : Line rules (after rules (after_stock_moves rules deals board) move) rest end

begin_carry : (rules : RuleParts) (board end : Board) (from to : Place) (count : ℕ) (moves : List Move) (t : Bool)
    → is_from_waste (Carry from to count) ≡ t → Legal rules board (Carry from to count)
    → Line rules (after rules board (Carry from to count)) moves end
    → Early rules board end (suc (length moves)) ⊎ Drawn rules board end (suc (length moves))
begin_carry rules board end from to count moves true e legal line =
    inr (record {
      deals = 0;
      move = Carry from to count;
      from_waste = e;
      legal = legal;
      rest = moves;
      short = omega arith;
      line = line;
    })
begin_carry rules board end from to count moves false e legal line =
    inl (record {
      from = from;
      to = to;
      count = count;
      not_from_waste = e;
      legal = legal;
      rest = moves;
      short = omega arith;
      line = line;
    })

begin_stock : (rules : RuleParts) (board end : Board) (move : Move) (n : ℕ) → IsTrue (deals_to_waste rules.target)
    → IsTrue (not (is_carry move)) → Legal rules board move
    → Early rules (after rules board move) end n ⊎ Drawn rules (after rules board move) end n
    → Early rules board end (suc n) ⊎ Drawn rules board end (suc n)
begin_stock rules board end move n to_waste is_stock_move legal h = elim h [
  | inl early ↦
      let change : Commute rules board move (Carry early.from early.to early.count) =
      carry_first rules board move early.from early.to early.count to_waste is_stock_move legal
      early.not_from_waste early.legal in
      inl (record {
        from = early.from;
        to = early.to;
        count = early.count;
        not_from_waste = early.not_from_waste;
        legal = change.carry_legal;
        rest = move ∷ early.rest;
        short = omega (arith, early.short);
        line = (change.stock_legal, subst (λ (x : Board). Line rules x early.rest end) (sym change.same) early.line);
      })
  | inr drawn ↦
      let next : after rules board move ≡ after_stock_move rules board =
      next_is rules board (after rules board move) to_waste
      (record { move = move; is_stock_move = is_stock_move; legal = legal; is_after = refl }) in
      inr (record {
        deals = suc drawn.deals;
        move = drawn.move;
        from_waste = drawn.from_waste;
        legal = subst (λ (x : Board). Legal rules (after_stock_moves rules drawn.deals x) drawn.move) next drawn.legal;
        rest = drawn.rest;
        short = omega (arith, drawn.short);
        line = subst (λ (x : Board).
            Line rules (after rules (after_stock_moves rules drawn.deals x) drawn.move) drawn.rest end) next drawn.line;
      })
]

begins : (rules : RuleParts) (moves : List Move) (board end : Board) → IsTrue (deals_to_waste rules.target)
    → Line rules board moves end → Won rules end → (Won rules board → ⊥)
    → Early rules board end (length moves) ⊎ Drawn rules board end (length moves)
begins rules [] board end to_waste line won open_board = absurd (open_board (subst (Won rules) line won))
begins rules (Carry from to count ∷ moves) board end to_waste line won open_board =
    begin_carry rules board end from to count moves (is_from_waste (Carry from to count)) refl line.0 line.1
begins rules (Deal ∷ moves) board end to_waste line won open_board =
    begin_stock rules board end Deal (length moves) to_waste refl line.0
    (begins rules moves (after rules board Deal) end to_waste line.1 won
    (λ win. open_board (won_before rules board (after rules board Deal) to_waste
    (record { move = Deal; is_stock_move = refl; legal = line.0; is_after = refl }) win)))
begins rules (Redeal ∷ moves) board end to_waste line won open_board =
    begin_stock rules board end Redeal (length moves) to_waste refl line.0
    (begins rules moves (after rules board Redeal) end to_waste line.1 won
    (λ win. open_board (won_before rules board (after rules board Redeal) to_waste
    (record { move = Redeal; is_stock_move = refl; legal = line.0; is_after = refl }) win)))

-- stock moves that come back to a board may be cut: each board that they reach is one of the whole run

cut_next : (rules : RuleParts) (board : Board) → IsTrue (deals_to_waste rules.target)
    → (found : Along rules (most_stock_moves board) 0 [] board)
    → (i : ℕ) → i ≤ found.last → (j : ℕ) × (j ≤ found.last)
    × (after_stock_moves rules j board ≡ after_stock_move rules (after_stock_moves rules i board))
cut_next rules board to_waste found i h =
    let last : ℕ = found.last in
    let cases : (i < last) ⊎ (i ≡ last) = grind arith in
    elim cases [
      | inl more ↦ (suc i, omega arith, after_stock_moves-suc rules i board)
      | inr e ↦ elim (stock_move_cases rules (after_stock_moves rules last board) to_waste) [
        | inl none ↦
            let same : after_stock_move rules (after_stock_moves rules last board) ≡ after_stock_moves rules last
            board = rw (none, after_stock_move) in
            (last, omega arith, sym (ap (λ (k : ℕ). after_stock_move rules (after_stock_moves rules k board)) e ∙ same))
        | inr next ↦ elim (found.closed (after_stock_move rules (after_stock_moves rules last board)) next.is_next) [
          | inl none ↦ absurd none
          | inr at ↦
              (at.0, at.1, at.2 ∙ sym (ap (λ (k : ℕ). after_stock_move rules (after_stock_moves rules k board)) e))
        ]
      ]
    ]

cut : (rules : RuleParts) (board : Board) → IsTrue (deals_to_waste rules.target)
    → (found : Along rules (most_stock_moves board) 0 [] board)
    → (k : ℕ) → (j : ℕ) × (j ≤ found.last) × (after_stock_moves rules j board ≡ after_stock_moves rules k board)
cut rules board to_waste found zero = (0, omega arith, refl)
cut rules board to_waste found (suc k) =
    let before : (j : ℕ) × (j ≤ found.last) × (after_stock_moves rules j board ≡ after_stock_moves rules k board) =
    cut rules board to_waste found k in
    let next : (j : ℕ) × (j ≤ found.last)
    × (after_stock_moves rules j board ≡ after_stock_move rules (after_stock_moves rules before.0 board)) =
    cut_next rules board to_waste found before.0 before.1 in
    (next.0, next.1, next.2 ∙ ap (after_stock_move rules) before.2 ∙ sym (after_stock_moves-suc rules k board))

-- the steps of the list

carry_step : (rules : RuleParts) (board : Board) (from to : Place) (count : ℕ) → IsTrue (deals_to_waste rules.target)
    → is_from_waste (Carry from to count) ≡ false → Legal rules board (Carry from to count)
    → Mem (record { deals = 0; last = Carry from to count }) (free_steps rules board)
carry_step rules board from to count to_waste not_from_waste legal =
    let test : IsTrue (is_carry (Carry from to count) && not (is_from_waste (Carry from to count))) =
    rw not_from_waste in
    let listed : Mem (Carry from to count) (other_carries rules board) =
    Mem-filter is_from_elsewhere (Carry from to count) (legal_moves rules board) test
    (legal_listed rules board (Carry from to count) legal) in
    rw to_waste
    (Mem-left (record { deals = 0; last = Carry from to count })
    (steps_from 0 (other_carries rules board))
    (stock_steps_after rules (most_stock_moves board) 0 [] board)
    (Mem-steps_from 0 (Carry from to count) (other_carries rules board) listed))

waste_step : (rules : RuleParts) (board : Board) (deals : ℕ) (move : Move) → IsTrue (deals_to_waste rules.target)
    → (found : Along rules (most_stock_moves board) 0 [] board) → deals ≤ found.last
    → IsTrue (is_from_waste move) → Legal rules (after_stock_moves rules deals board) move
    → Mem (record { deals = deals; last = move }) (free_steps rules board)
waste_step rules board deals move to_waste found within from_waste legal =
    let kept : Mem move (waste_carries rules (after_stock_moves rules deals board)) =
    Mem-filter is_from_waste move (legal_moves rules (after_stock_moves rules deals board)) from_waste
    (legal_listed rules (after_stock_moves rules deals board) move legal) in
    let at : Mem (record { deals = 0 + deals; last = move }) (steps_along rules found.last 0 board) =
    Mem-along rules found.last 0 board deals move within kept in
    let e : 0 + deals ≡ deals = omega arith in
    let listed : Mem (record { deals = deals; last = move })
    (stock_steps_after rules (most_stock_moves board) 0 [] board) =
    subst (λ (xs : List Step). Mem (record { deals = deals; last = move }) xs) (sym found.is_list)
    (subst (λ (k : ℕ). Mem (record { deals = k; last = move }) (steps_along rules found.last 0 board)) e at) in
    rw to_waste
    (Mem-right (record { deals = deals; last = move })
    (steps_from 0 (other_carries rules board))
    (stock_steps_after rules (most_stock_moves board) 0 [] board) listed)

free_is_steps : (rules : RuleParts) (board : Board) (step : Step) → first_safe rules board ≡ None
    → Mem step (free_steps rules board) → Contains (steps rules board) step
free_is_steps rules board step none h = rw none (Contains-from_Mem step (free_steps rules board) h)

early_step : (rules : RuleParts) (n : ℕ) (board end : Board) → IsTrue (deals_to_waste rules.target)
    → first_safe rules board ≡ None → Won rules end → (m : ℕ) → m ≤ n + 1 → Early rules board end m
    → HasWinningStep rules n board
early_step rules n board end to_waste none won m within early = record {
  step = record { deals = 0; last = Carry early.from early.to early.count };
  listed = free_is_steps rules board (record { deals = 0; last = Carry early.from early.to early.count }) none
      (carry_step rules board early.from early.to early.count to_waste early.not_from_waste early.legal);
  wins = record { moves = early.rest; end = end; short = omega (arith, early.short); line = early.line; won = won };
}

drawn_step : (rules : RuleParts) (n : ℕ) (board end : Board) → IsTrue (deals_to_waste rules.target) → 1 ≤ rules.draw
    → first_safe rules board ≡ None → Won rules end → (m : ℕ) → m ≤ n + 1 → Drawn rules board end m
    → HasWinningStep rules n board
drawn_step rules n board end to_waste draws none won m within drawn =
    let found : Along rules (most_stock_moves board) 0 [] board = stock_along rules board draws to_waste in
    let at : (j : ℕ) × (j ≤ found.last)
    × (after_stock_moves rules j board ≡ after_stock_moves rules drawn.deals board) =
    cut rules board to_waste found drawn.deals in
    record {
      step = record { deals = at.0; last = drawn.move };
      listed = free_is_steps rules board (record { deals = at.0; last = drawn.move }) none
          (waste_step rules board at.0 drawn.move to_waste found at.1 drawn.from_waste
          (subst (λ (x : Board). Legal rules x drawn.move) (sym at.2) drawn.legal));
      wins = record {
        moves = drawn.rest;
        end = end;
        short = omega (arith, drawn.short);
        line = subst (λ (x : Board). Line rules (after rules x drawn.move) drawn.rest end) (sym at.2) drawn.line;
        won = won;
      };
    }

waste_descent : (rules : RuleParts) (n : ℕ) (board : Board) → IsTrue (deals_to_waste rules.target) → 1 ≤ rules.draw
    → (Won rules board → ⊥) → first_safe rules board ≡ None → Wins rules (n + 1) board
    → HasWinningStep rules n board
waste_descent rules n board to_waste draws open_board none wins =
    elim (begins rules wins.moves board wins.end to_waste wins.line wins.won open_board) [
      | inl early ↦ early_step rules n board wins.end to_waste none wins.won (length wins.moves) wins.short early
      | inr drawn ↦ drawn_step rules n board wins.end to_waste draws none wins.won (length wins.moves) wins.short drawn
    ]

-- where the stock does not deal to the waste each legal move is a step

plain_step : (rules : RuleParts) (board : Board) (move : Move) → deals_to_waste rules.target ≡ false
    → Legal rules board move → Mem (record { deals = 0; last = move }) (free_steps rules board)
plain_step rules board move plain legal =
    rw plain (Mem-steps_from 0 move (legal_moves rules board) (legal_listed rules board move legal))

plain_begins : (rules : RuleParts) (n : ℕ) (moves : List Move) (board end : Board) → deals_to_waste rules.target ≡ false
    → (Won rules board → ⊥) → first_safe rules board ≡ None
    → Line rules board moves end → Won rules end → length moves ≤ n + 1 → HasWinningStep rules n board
plain_begins rules n [] board end plain open_board none line won within = absurd
    (open_board (subst (Won rules) line won))
plain_begins rules n (move ∷ moves) board end plain open_board none line won within = record {
  step = record { deals = 0; last = move };
  listed = free_is_steps rules board (record { deals = 0; last = move }) none
      (plain_step rules board move plain line.0);
  wins = record { moves = moves; end = end; short = omega arith; line = line.1; won = won };
}

descent_by_target : (rules : RuleParts) (n : ℕ) (board : Board) (t : Bool) → deals_to_waste rules.target ≡ t
    → 1 ≤ rules.draw → (Won rules board → ⊥) → first_safe rules board ≡ None → Wins rules (n + 1) board
    → HasWinningStep rules n board
descent_by_target rules n board true e draws open_board none wins = waste_descent rules n board e draws
    open_board none wins
descent_by_target rules n board false e draws open_board none wins =
    plain_begins rules n wins.moves board wins.end e open_board none wins.line wins.won wins.short

pub descent : (rules : RuleParts) (n : ℕ) (board : Board) → 1 ≤ rules.draw → (Won rules board → ⊥)
    → first_safe rules board ≡ None → Wins rules (n + 1) board
    → HasWinningStep rules n board
descent rules n board draws open_board none wins =
    descent_by_target rules n board (deals_to_waste rules.target) refl draws open_board none wins

-- stock moves can be cut to a run
pub cut_run : (rules : RuleParts) (board : Board) (k : ℕ) → 1 ≤ rules.draw → IsTrue (deals_to_waste rules.target)
    → IsReached rules board (after_stock_moves rules k board)
cut_run rules board k draws to_waste =
    let found : Along rules (most_stock_moves board) 0 [] board = stock_along rules board draws to_waste in
    let at : (j : ℕ) × (j ≤ found.last) × (after_stock_moves rules j board ≡ after_stock_moves rules k board) =
    cut rules board to_waste found k in
    record {
      moves = at.0;
      boards = λ i. after_stock_moves rules i board;
      run = record {
        first = refl;
        next = λ i h. found.next i (omega (arith, at.1));
        apart = λ i j h l. found.apart i j h (omega (arith, at.1));
      };
      last = at.2;
    }
