-- Cards that come from the top down, and are put before one another.
use Rattle.std.proofs.Common.{◌≡◌, ℕ, Bool, List, [], ◌∷◌, ◌++◌, map, length, reverse}
use Rattle.std.proofs.Common.{refl, ap, sym, ◌∙◌}
use Rattle.std.proofs.lemmas.List.{reverse-append, map-append}
use Rattle.card_piles.specs.declared.Card.{Card}
use Rattle.game_rules.specs.Board.{Board}
use Rattle.packed_state.specs.Spots as spots
use Rattle.same_boards.specs.Keys.{card_byte, card_bytes}
use Rattle.pile_symmetry.specs.declared.Part.{Part}
use Rattle.pile_symmetry.specs.declared.Part.TheVariants.{Pile, Stock, Waste, Hole}
use Rattle.pile_symmetry.specs.Parts.{cards_of, spot_of}

-- a part as a packed board gives it
pub spot_cards : (stacked : Bool) (board : Board) (part : Part)
    → spots.cards_of stacked board (spot_of part) ≡ reverse (cards_of board part)
spot_cards stacked board (Pile i) = refl
spot_cards stacked board Stock = refl
spot_cards stacked board Waste = refl
spot_cards stacked board Hole = refl

pub spot_size : (stacked : Bool) (board : Board) (part : Part)
    → spots.size_at stacked board (spot_of part) ≡ length (cards_of board part)
spot_size stacked board (Pile i) = refl
spot_size stacked board Stock = refl
spot_size stacked board Waste = refl
spot_size stacked board Hole = refl

turned_bytes : (shown : Card → Card) (cards : List Card)
    → reverse (card_bytes (map shown (reverse cards))) ≡ card_bytes (map shown cards)
turned_bytes shown [] = refl
turned_bytes shown (card ∷ cards) =
    let bytes : List Card → List ℕ = λ (xs : List Card). card_bytes (map shown xs) in
    let last : bytes (reverse (card ∷ cards)) ≡ bytes (reverse cards) ++ bytes (card ∷ []) =
    ap bytes (reverse-append (card ∷ []) cards)
    ∙ ap card_bytes (map-append shown (reverse cards) (card ∷ []))
    ∙ map-append card_byte (map shown (reverse cards)) (map shown (card ∷ [])) in
    ap reverse last
    ∙ reverse-append (bytes (reverse cards)) (bytes (card ∷ []))
    ∙ ap (λ (zs : List ℕ). card_byte (shown card) ∷ zs) (turned_bytes shown cards)

pub put_turned : (shown : Card → Card) (old new : List ℕ) (cards turned : List Card) → turned ≡ reverse cards
    → new ≡ reverse (card_bytes (map shown turned)) ++ old → new ≡ card_bytes (map shown cards) ++ old
put_turned shown old new cards turned is put =
    put
    ∙ ap (λ (xs : List ℕ). xs ++ old)
    (ap (λ (xs : List Card). reverse (card_bytes (map shown xs))) is ∙ turned_bytes shown cards)

-- one card more that was put before the bytes
pub put_one_more : (shown : Card → Card) (old now : List ℕ) (byte : ℕ) (seen : List Card) (card : Card)
    → byte ≡ card_byte (shown card) → now ≡ reverse (card_bytes (map shown seen)) ++ old
    → byte ∷ now ≡ reverse (card_bytes (map shown (seen ++ card ∷ []))) ++ old
put_one_more shown old now byte seen card is before =
    let last : card_bytes (map shown (seen ++ card ∷ [])) ≡ card_bytes (map shown seen) ++ byte ∷ [] =
    ap card_bytes (map-append shown seen (card ∷ []))
    ∙ map-append card_byte (map shown seen) (map shown (card ∷ []))
    ∙ ap (λ (b : ℕ). card_bytes (map shown seen) ++ b ∷ []) (sym is) in
    ap (λ (xs : List ℕ). byte ∷ xs) before
    ∙ sym (ap (λ (xs : List ℕ). xs ++ old) (ap reverse last ∙ reverse-append (card_bytes (map shown seen)) (byte ∷ [])))
