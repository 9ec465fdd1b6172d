-- The stock moves of a step, told by the number of cards in the stock.
use Rattle.std.proofs.Common.{◌≡◌, inl, inr, ℕ, zero, suc, ◌-◌, ◌<◌, ◌≤◌, Bool, true, false, List, [], ◌∷◌, ◌++◌}
use Rattle.std.proofs.Common.{length, refl, ap, sym, ◌∙◌, arith, IsTrue, Some, None, append_assoc, append-nil}
use Rattle.std.specs.Option.{option_to_list}
use Rattle.std.proofs.lemmas.List.{nil_from_length}
use Rattle.game_rules.specs.declared.RuleParts.{RuleParts}
use Rattle.game_rules.specs.declared.Move.{Move}
use Rattle.game_rules.specs.declared.Move.TheVariants.{Deal, Redeal}
use Rattle.game_rules.specs.Rules.{deals_to_waste}
use Rattle.game_rules.specs.Playable.{IsPlayable, HasLimits}
use Rattle.game_rules.specs.Belonging.{Belongs}
use Rattle.game_rules.specs.Board.{Board}
use Rattle.game_rules.specs.Play.{is_empty, is_legal_redeal}
use Rattle.game_rules.specs.StockMoves.{stock_move, after_stock_move, after_stock_moves}
use Rattle.game_rules.specs.NextByStock.{IsNextByStock}
use Rattle.game_rules.proofs.Limits.{limits_of}
use Rattle.stock_steps.specs.Steps.{stock_moves}
use Rattle.stock_steps.proofs.StockKin.{kin_after, kin_size, next_cases, one_stock_move, size}
use Rattle.stock_steps.proofs.StockKin.{dealt_length, redealt_length}

-- stock and waste have few cards
pub few_in_stock : (rules : RuleParts) (board : Board) → IsPlayable rules → Belongs rules board → size board ≤ 84
few_in_stock rules board playable belongs =
    let limits : HasLimits rules = limits_of rules playable in
    omega (arith, belongs.stock, limits.stock)

-- one stock move more
pub stock_moves-suc : (rules : RuleParts) (k : ℕ) (board : Board)
    → stock_moves rules (suc k) board ≡ stock_moves rules k board
    ++ option_to_list (stock_move rules (after_stock_moves rules k board))
stock_moves-suc rules zero board = append-nil (option_to_list (stock_move rules board))
stock_moves-suc rules (suc k) board =
    ap (λ (moves : List Move). option_to_list (stock_move rules board) ++ moves)
    (stock_moves-suc rules k (after_stock_move rules board))
    ∙ sym (append_assoc (option_to_list (stock_move rules board)) (stock_moves rules k (after_stock_move rules board))
    (option_to_list (stock_move rules (after_stock_moves rules k (after_stock_move rules board)))))

not_empty : {A : Type 0} (xs : List A) → 0 < length xs → is_empty xs ≡ false
not_empty [] h = absurd (omega (arith, h))
not_empty (x ∷ xs) h = refl

-- where the stock has a card, the next stock move is a deal
pub deal-next : (rules : RuleParts) (a b : Board) → IsTrue (deals_to_waste rules.target) → IsNextByStock rules a b
    → 0 < length a.stock
    → (stock_move rules a ≡ Some Deal) × (length b.stock ≡ length a.stock - rules.draw)
deal-next rules a b to_waste next some =
    let full : is_empty a.stock ≡ false = not_empty a.stock some in (
      rw full,
      elim (next_cases rules a b to_waste next) [
        | inl dealt ↦ dealt_length rules a b dealt
        | inr redealt ↦ absurd (omega (arith, some, (redealt_length rules a b redealt).0))
      ],
    )

redeal_by : (rules : RuleParts) (a b : Board) (t : Bool) → is_legal_redeal rules a ≡ t → is_empty a.stock ≡ true
    → IsTrue (deals_to_waste rules.target) → IsNextByStock rules a b → stock_move rules a ≡ Some Redeal
redeal_by rules a b true e empty to_waste next = rw (e, empty)
redeal_by rules a b false e empty to_waste next =
    let none : stock_move rules a ≡ None = rw (e, empty) in
    let one : stock_move rules a ≡ Some next.move = one_stock_move rules a next.move to_waste
    next.is_stock_move next.legal in
    cc

-- where the stock is empty, it is a redeal, which gives all cards of the waste
pub redeal-next : (rules : RuleParts) (a b : Board) → IsTrue (deals_to_waste rules.target) → IsNextByStock rules a b
    → length a.stock ≡ 0
    → (stock_move rules a ≡ Some Redeal) × (length b.stock ≡ size a)
redeal-next rules a b to_waste next none =
    let empty : is_empty a.stock ≡ true = ap is_empty (nil_from_length a.stock none) in (
      redeal_by rules a b (is_legal_redeal rules a) refl empty to_waste next,
      elim (next_cases rules a b to_waste next) [
        | inl dealt ↦ absurd (omega (arith, none, dealt.some))
        | inr redealt ↦ omega (arith, none, (redealt_length rules a b redealt).1)
      ],
    )

-- stock moves keep the number of cards
pub size-after : (rules : RuleParts) (k : ℕ) (board : Board) → IsTrue (deals_to_waste rules.target)
    → size (after_stock_moves rules k board) ≡ size board
size-after rules k board to_waste =
    sym (kin_size board (after_stock_moves rules k board) (kin_after rules k board to_waste))

-- the moves of one stock move more
pub moves-more : (rules : RuleParts) (k : ℕ) (board : Board) (move : Move) (before old new : List Move)
    → old ≡ before ++ stock_moves rules k board → stock_move rules (after_stock_moves rules k board) ≡ Some move
    → new ≡ old ++ move ∷ [] → new ≡ before ++ stock_moves rules (suc k) board
moves-more rules k board move before old new e_old one e_new =
    e_new
    ∙ ap (λ (moves : List Move). moves ++ move ∷ []) e_old
    ∙ append_assoc before (stock_moves rules k board) (move ∷ [])
    ∙ ap (λ (moves : List Move). before ++ moves)
    (ap (λ found. stock_moves rules k board ++ option_to_list found) (sym one) ∙ sym (stock_moves-suc rules k board))
