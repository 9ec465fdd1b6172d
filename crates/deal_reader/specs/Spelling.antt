-- The one spelling of a board: the compact text of an object that has all ten keys, in the order of their bytes.
use Rattle.std.specs.Prelude.{ℕ, List, map, codes, Option, Some, None}
use Rattle.serde_json.specs.Data.{Data, null, number, unsigned, string, array, object, no_members, member}
use Rattle.serde_json.specs.View.{items_of}
use Rattle.serde_json.specs.Written.{compact_text}
use Rattle.card_piles.specs.declared.Card.{Card}
use Rattle.card_piles.specs.CardText.{text_of_card}
use Rattle.game_rules.specs.declared.RuleParts.{RuleParts}
use Rattle.game_rules.specs.declared.BoardParts.{BoardParts}
use Rattle.game_rules.specs.Board.{Board}
use Rattle.game_rules.specs.Position.{parts_of}

-- a card is its text, and an empty entry is null
abbrev pub card_tree : Card → Data
card_tree card = string (text_of_card card)

-- an entry is its card, or null
abbrev pub entry_tree : Option Card → Data
entry_tree None = null
entry_tree (Some card) = card_tree card

-- a number with no sign
abbrev pub number_tree : ℕ → Data
number_tree n = number (unsigned n)

-- a list of the trees of its elements
abbrev pub list_tree : {A : Type 0} → (A → Data) → List A → Data
list_tree tree xs = array (items_of (map tree xs))

-- the object of the parts of a position
abbrev pub parts_tree : BoardParts → Data
parts_tree parts = object
    (member (codes "cells") (list_tree entry_tree parts.cells)
    (member (codes "face down") (list_tree number_tree parts.face_down)
    (member (codes "foundations") (list_tree number_tree parts.foundations)
    (member (codes "hole") (list_tree card_tree parts.hole)
    (member (codes "redeals left") (number_tree parts.redeals_left)
    (member (codes "reserve") (list_tree entry_tree parts.reserve)
    (member (codes "rows") (list_tree (list_tree entry_tree) parts.rows)
    (member (codes "stock") (list_tree card_tree parts.stock)
    (member (codes "tableau") (list_tree (list_tree card_tree) parts.tableau)
    (member (codes "waste") (list_tree card_tree parts.waste)
    no_members))))))))))

-- the text that is written for a board
abbrev pub position_text : RuleParts → Board → List ℕ
position_text rules board = compact_text (parts_tree (parts_of rules board))
