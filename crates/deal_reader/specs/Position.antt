-- The deal file: the board that it gives under some rules, or its first fault.
use Rattle.std.specs.Prelude.{ℕ, ◌-◌, Bool, false, ◌&&◌, not, nat_lt, List, [], ◌∷◌, map, length, replicate, codes}
use Rattle.std.specs.Prelude.{Option, Some, None, Result, Ok, Err, ⊤, if◌then◌else◌}
use Rattle.std.specs.List.{list_any}
use Rattle.serde_json.specs.Data.{Data}
use Rattle.json_tree.specs.declared.read.FileFault.{FileFault}
use Rattle.json_tree.specs.declared.read.FileFault.TheVariants as file
use Rattle.json_tree.specs.Tree.{object_of}
use Rattle.json_tree.specs.Fields.{field, has_only_keys}
use Rattle.json_tree.specs.Choice.{◌>>=◌}
use Rattle.card_piles.specs.declared.Card.{Card}
use Rattle.game_rules.specs.declared.RuleParts.{RuleParts}
use Rattle.game_rules.specs.declared.BoardParts.{BoardParts}
use Rattle.game_rules.specs.declared.BoardFault.{BoardFault}
use Rattle.game_rules.specs.declared.BoardFault.TheVariants as board
use Rattle.game_rules.specs.declared.Face.{Face}
use Rattle.game_rules.specs.declared.Face.TheVariants.{AllUp, TopUp}
use Rattle.game_rules.specs.declared.Part.TheVariants as part
use Rattle.game_rules.specs.Rules.{is_started}
use Rattle.game_rules.specs.Board.{Board}
use Rattle.game_rules.specs.Belonging.{foundation_count, most_redeals}
use Rattle.game_rules.specs.Position.{tableau_full, fault_of, board_of_parts}
use Rattle.deal_reader.specs.declared.fault.DealFault.{DealFault}
use Rattle.deal_reader.specs.declared.fault.DealFault.TheVariants.{TooLong, NotJson, NotObject, UnknownKey, PlaceFull}
use Rattle.deal_reader.specs.declared.fault.DealFault.TheVariants.{MissingCard, ExtraCard, Memory}
use Rattle.deal_reader.specs.declared.deal.DealParts.{DealParts}
use Rattle.deal_reader.specs.Entries.{card_at, entry_at, number_at, list_at, lists_at}

-- The parts of a file

-- the keys of a position
abbrev pub position_keys : List (List ℕ)
position_keys = codes "tableau" ∷ codes "face down" ∷ codes "cells" ∷ codes "reserve" ∷ codes "stock" ∷ codes "waste"
    ∷ codes "redeals left" ∷ codes "foundations" ∷ codes "hole" ∷ codes "rows" ∷ []

-- no key is unknown
abbrev pub keys_known : Data → Result ⊤ DealFault
keys_known top = if has_only_keys position_keys top then Ok tt else Err UnknownKey

-- what stands at a part's key, or the default where the key is absent
abbrev pub or_default : {A : Type 0} → A → (Data → Result A DealFault) → Option Data → Result A DealFault
or_default default read None = Ok default
or_default default read (Some d) = read d

-- what stands at a part's key, where it is there
abbrev pub if_there : {A : Type 0} → (Data → Result A DealFault) → Option Data → Result (Option A) DealFault
if_there read None = Ok None
if_there read (Some d) = read d >>= λ x. Ok (Some x)

-- the foundations of a file that does not name them: each has its first card where the game begins so
abbrev pub default_foundations : RuleParts → List ℕ
default_foundations rules = if is_started rules.goal then replicate (foundation_count rules) 1 else []

-- the parts that a file gives, each key in its turn, or the first fault of a key
unfoldable pub deal_of_tree : RuleParts → Data → Result DealParts DealFault
deal_of_tree rules top = do
  tableau ← or_default [] (lists_at part.Tableau (card_at part.Tableau)) (field (Some top) (codes "tableau"))
  face_down ← if_there (list_at part.FaceDown (number_at part.FaceDown) 0) (field (Some top) (codes "face down"))
  cells ← or_default [] (list_at part.Cells (entry_at part.Cells) 0) (field (Some top) (codes "cells"))
  reserve ← or_default [] (list_at part.Reserve (entry_at part.Reserve) 0) (field (Some top) (codes "reserve"))
  stock ← or_default [] (list_at part.Stock (card_at part.Stock) 0) (field (Some top) (codes "stock"))
  waste ← or_default [] (list_at part.Waste (card_at part.Waste) 0) (field (Some top) (codes "waste"))
  redeals_left ← or_default (most_redeals rules.redeals) (number_at part.RedealsLeft 0)
      (field (Some top) (codes "redeals left"))
  foundations ← or_default (default_foundations rules) (list_at part.Foundations (number_at part.Foundations) 0)
      (field (Some top) (codes "foundations"))
  hole ← or_default [] (list_at part.Hole (card_at part.Hole) 0) (field (Some top) (codes "hole"))
  rows ← or_default [] (lists_at part.Rows (entry_at part.Rows)) (field (Some top) (codes "rows"))
  Ok (record {
    tableau = tableau;
    face_down = face_down;
    cells = cells;
    reserve = reserve;
    stock = stock;
    waste = waste;
    redeals_left = redeals_left;
    foundations = foundations;
    hole = hole;
    rows = rows;
  })

-- The position of the parts

-- the numbers of face-down cards of a file that does not name them: all but the top of each pile, or none where all lie
-- face up
abbrev pub default_face_down : Face → List (List Card) → List ℕ
default_face_down AllUp tableau = []
default_face_down TopUp tableau = map (λ cards. length cards - 1) tableau

-- the numbers of face-down cards that the file names, or their default
abbrev pub face_down_or_default : Face → List (List Card) → Option (List ℕ) → List ℕ
face_down_or_default face tableau None = default_face_down face tableau
face_down_or_default face tableau (Some numbers) = numbers

-- the parts of the position, with the default of `face down`
abbrev pub parts_of_deal : RuleParts → DealParts → BoardParts
parts_of_deal rules deal = record {
  tableau = deal.tableau;
  face_down = face_down_or_default rules.face deal.tableau deal.face_down;
  cells = deal.cells;
  reserve = deal.reserve;
  stock = deal.stock;
  waste = deal.waste;
  redeals_left = deal.redeals_left;
  foundations = deal.foundations;
  hole = deal.hole;
  rows = deal.rows;
}

-- a number of the file is above 255
abbrev pub has_great_number : Option (List ℕ) → Bool
has_great_number None = false
has_great_number (Some numbers) = list_any (λ number. nat_lt 255 number) numbers

-- The first fault of the position. A number above 255 at `face down` fills this part, also under a pile that is higher;
-- heights and redeals are too many long before.
abbrev pub fault_of_deal : RuleParts → DealParts → Option BoardFault
fault_of_deal rules deal =
    if has_great_number deal.face_down && not (tableau_full rules (parts_of_deal rules deal))
    then Some (board.PlaceFull part.FaceDown)
    else fault_of rules (parts_of_deal rules deal)

-- a fault of the position, as a fault of the file
abbrev pub deal_fault : BoardFault → DealFault
deal_fault (board.PlaceFull part) = PlaceFull part
deal_fault (board.MissingCard card) = MissingCard card
deal_fault (board.ExtraCard card) = ExtraCard card
deal_fault board.Memory = Memory

-- the board, where the position has no fault
abbrev pub board_or_fault : Board → Option BoardFault → Result Board DealFault
board_or_fault board None = Ok board
board_or_fault board (Some fault) = Err (deal_fault fault)

-- the position of a deal, or its first fault
abbrev pub position_of_deal : RuleParts → DealParts → Result Board DealFault
position_of_deal rules deal = board_or_fault (board_of_parts rules (parts_of_deal rules deal))
    (fault_of_deal rules deal)

-- the position that the tree of a file gives
unfoldable pub position_of_tree : RuleParts → Data → Result Board DealFault
position_of_tree rules top = keys_known top >>= λ known. deal_of_tree rules top >>= λ deal. position_of_deal rules deal

-- a fault of any file, as a fault of the deal file
abbrev pub file_fault : FileFault → DealFault
file_fault file.TooLong = TooLong
file_fault file.NotJson = NotJson
file_fault file.NotObject = NotObject
file_fault file.Memory = Memory

-- the position that the object of a file gives, or its first fault
abbrev pub position_of_file : RuleParts → Result Data FileFault → Result Board DealFault
position_of_file rules (Ok top) = position_of_tree rules top
position_of_file rules (Err fault) = Err (file_fault fault)

-- the position that the bytes of a file give, or its first fault
unfoldable pub position_of : RuleParts → List ℕ → Result Board DealFault
position_of rules bytes = position_of_file rules (object_of bytes)
