-- The parts that the key of a board says, with the hole filled, have no fault; their board has the key, in its order.
use Rattle.std.proofs.Common.{◌≡◌, ℕ, List, ap, sym, ◌∙◌, subst, ◌⊎◌}
use Rattle.std.specs.Prelude.{Option, Some, None, IfSome, MatchOption}
use Rattle.std.proofs.lemmas.List.Sorted.{length_permutation}
use Rattle.card_piles.specs.declared.Card.{Card}
use Rattle.game_rules.specs.declared.RuleParts.{RuleParts}
use Rattle.game_rules.specs.declared.BoardParts.{BoardParts}
use Rattle.game_rules.specs.declared.BoardFault.{BoardFault}
use Rattle.game_rules.specs.declared.BoardFault.TheVariants.{Memory}
use Rattle.game_rules.specs.Playable.{IsPlayable, HasLimits}
use Rattle.game_rules.specs.Board.{Board}
use Rattle.game_rules.specs.Belonging.{Belongs}
use Rattle.game_rules.specs.Position.{parts_of, board_of_parts, fault_of}
use Rattle.game_rules.specs.Ranked.{HasRanks}
use Rattle.game_rules.proofs.Limits.{limits_of}
use Rattle.game_rules.proofs.Ranks.{ranks-belong}
use Rattle.game_rules.proofs.BelongingExactly.{board-of_its_parts, parts-have_no_fault}
use Rattle.same_boards.specs.Same.{Same}
use Rattle.same_boards.specs.Keys.{hole_bytes, key_bytes}
use Rattle.same_boards.proofs.Renaming.{either}
use Rattle.same_boards.proofs.SameKeys.{key-from_same}
use Rattle.same_boards.proofs.SameBelongs.{belongs-from_same}
use Rattle.pile_symmetry.specs.Reading.{top_in, hole_in, whole_parts}
use Rattle.pile_symmetry.specs.InOrder.{IsInKeyOrder}
use Rattle.pile_symmetry.proofs.ReadBack.{in_key_order, parts-back}
use Rattle.pile_symmetry.proofs.InKeyOrder.{same-in_order, places-in_order}
use Rattle.pile_symmetry.proofs.HoleFilled.{HoleBack, hole-back}
use Rattle.pile_symmetry.proofs.OrderKept.{order-kept}

-- the hole of the board that the key of a board is read back to
abbrev hole_of : RuleParts → Board → List Card
hole_of rules board = hole_in rules (parts_of rules (in_key_order rules board (top_in (hole_bytes rules board))))

pub record Restored (rules : RuleParts) (board : Board) : Type 0 where
  pub no_fault : fault_of rules (whole_parts rules (key_bytes rules board)) ≡ None
  pub key : key_bytes rules (board_of_parts rules (whole_parts rules (key_bytes rules board))) ≡ key_bytes rules board
  pub in_order : board ≡ board_of_parts rules (whole_parts rules (key_bytes rules board)) → IsInKeyOrder rules board

pub restored : (rules : RuleParts) (board : Board) → IsPlayable rules → Belongs rules board → Restored rules board
restored rules board playable belongs =
    let limits : HasLimits rules = limits_of rules playable in
    let ranks : HasRanks board = ranks-belong rules board limits belongs in
    let filled : HoleBack rules board (hole_of rules board) = hole-back rules board limits ranks belongs in
    let hole : List Card = hole_of rules board in
    let other : Board = in_key_order rules board hole in
    let same : Same rules board other =
    same-in_order rules board hole ranks belongs
    (sym (length_permutation board.hole hole filled.permuted)) filled.top in
    let other_belongs : Belongs rules other =
    belongs-from_same rules board other limits belongs
    (places-in_order rules board hole belongs) same filled.permuted in
    let parts : whole_parts rules (key_bytes rules board) ≡ parts_of rules other =
    ap (λ (p : BoardParts). record p { hole = hole_in rules p }) (parts-back rules board playable ranks belongs) in
    let whole : board_of_parts rules (whole_parts rules (key_bytes rules board)) ≡ other =
    ap (board_of_parts rules) parts ∙ board-of_its_parts rules other other_belongs in
    record {
      no_fault = ap (fault_of rules) parts ∙ parts-have_no_fault rules other other_belongs;
      key = ap (key_bytes rules) whole ∙ sym (key-from_same rules board other same);
      in_order = λ e. order-kept rules board hole ranks belongs (e ∙ whole) filled.ascending;
    }

pub found-in_order : (rules : RuleParts) (key : List ℕ) (board : Board) → IsPlayable rules → Belongs rules board
    → board ≡ board_of_parts rules (whole_parts rules key) → key_bytes rules board ≡ key → IsInKeyOrder rules board
found-in_order rules key board playable belongs read same =
    (restored rules board playable belongs).in_order
    (read ∙ ap (λ (k : List ℕ). board_of_parts rules (whole_parts rules k)) (sym same))

-- where the board that is read has another key, no board that belongs has the key
pub no-other_key : (rules : RuleParts) (key : List ℕ) (board other : Board) → IsPlayable rules
    → board ≡ board_of_parts rules (whole_parts rules key) → (key_bytes rules board ≡ key → ⊥) → Belongs rules other
    → key_bytes rules other ≡ key → ⊥
no-other_key rules key board other playable read differs belongs same =
    differs (ap (key_bytes rules) (read ∙ ap (λ (k : List ℕ). board_of_parts rules (whole_parts rules k)) (sym same))
    ∙ (restored rules other playable belongs).key ∙ same)

-- nor where the parts that are read have a fault
pub no-faulty_key : (rules : RuleParts) (key : List ℕ) (fault : BoardFault) (other : Board) → IsPlayable rules
    → fault_of rules (whole_parts rules key) ≡ Some fault → Belongs rules other → key_bytes rules other ≡ key → ⊥
no-faulty_key rules key fault other playable faulty belongs same =
    let none : fault_of rules (whole_parts rules key) ≡ None =
    ap (λ (k : List ℕ). fault_of rules (whole_parts rules k)) (sym same)
    ∙ (restored rules other playable belongs).no_fault in
    cc (faulty, none)

pub found-if : (rules : RuleParts) (key : List ℕ) (board : Board) (found : Option Board) → IsPlayable rules
    → Belongs rules board
    → board ≡ board_of_parts rules (whole_parts rules key)
    → MatchOption found (key_bytes rules board ≡ key → ⊥) (λ f. (f ≡ board) × (key_bytes rules board ≡ key))
    → IfSome found (λ b. IsInKeyOrder rules b)
found-if rules key board None playable belongs read h = tt
found-if rules key board (Some f) playable belongs read h =
    subst (λ (b : Board). IsInKeyOrder rules b) (sym h.0) (found-in_order rules key board playable belongs read h.1)

pub none-if : (rules : RuleParts) (key : List ℕ) (board : Board) (found : Option Board) → IsPlayable rules
    → board ≡ board_of_parts rules (whole_parts rules key)
    → MatchOption found (key_bytes rules board ≡ key → ⊥) (λ f. (f ≡ board) × (key_bytes rules board ≡ key))
    → found ≡ None → (other : Board) → Belongs rules other → key_bytes rules other ≡ key → ⊥
none-if rules key board None playable read h empty other belongs same = no-other_key rules key board other playable
    read h belongs same
none-if rules key board (Some f) playable read h empty other belongs same = cc

pub fault-if : (rules : RuleParts) (key : List ℕ) (parts : BoardParts) (fault : BoardFault) → IsPlayable rules
    → parts ≡ whole_parts rules key
    → (fault ≡ Memory) ⊎ (fault_of rules parts ≡ Some fault) → (fault ≡ Memory → ⊥)
    → (other : Board) → Belongs rules other → key_bytes rules other ≡ key → ⊥
fault-if rules key parts fault playable read cause not_memory other belongs same =
    either cause not_memory
    (λ faulty. no-faulty_key rules key fault other playable (sym (ap (fault_of rules) read) ∙ faulty) belongs same)
