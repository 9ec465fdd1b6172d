-- The loop over the rows of a board.
use Rattle.std.proofs.Common.{◌≡◌, ℕ, ◌+◌, List, [], ◌∷◌, ◌++◌, map, ap, ap₂, sym, ◌∙◌, arith}
use Rattle.std.specs.Prelude.{Option}
use Rattle.std.specs.List.{range_with_len}
use Rattle.std.proofs.lemmas.List.{map-append}
use Rattle.std.proofs.lemmas.List.FromFn.{map-range_with_len_more}
use Rattle.serde_json.specs.Data.{Data}
use Rattle.serde_json.specs.View.{view}
use Rattle.serde_json.specs.declared.value.Value.{Value}
use Rattle.card_piles.specs.declared.Card.{Card}
use Rattle.game_rules.specs.declared.RuleParts.{RuleParts}
use Rattle.game_rules.specs.Board.{Board}
use Rattle.game_rules.specs.Winning.{row_at}
use Rattle.deal_reader.specs.Spelling.{entry_tree, list_tree}

pub rows-more : (rules : RuleParts) (board : Board) (r : ℕ) (values more : List Value) (value : Value)
    (row : List (Option Card))
    → map view values ≡ map (list_tree entry_tree) (map (row_at rules board) (range_with_len 0 r))
    → more ≡ values ++ value ∷ []
    → view value ≡ list_tree entry_tree row → row ≡ row_at rules board r
    → map view more ≡ map (list_tree entry_tree) (map (row_at rules board) (range_with_len 0 (r + 1)))
rows-more rules board r values more value row so_far pushed is here =
    let rows : List (List (Option Card)) = map (row_at rules board) (range_with_len 0 r) in
    let one : view value ≡ list_tree entry_tree (row_at rules board r) = is ∙ ap (list_tree entry_tree) here in
    ap (map view) pushed
    ∙ map-append view values (value ∷ [])
    ∙ ap₂ (λ (xs : List Data) (d : Data). xs ++ d ∷ []) so_far one
    ∙ sym (map-append (list_tree entry_tree) rows (row_at rules board r ∷ []))
    ∙ sym (ap (map (list_tree entry_tree)) (map-range_with_len_more (row_at rules board) 0 r r (omega arith)))
