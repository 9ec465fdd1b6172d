-- How a fault of the deal file is printed.
use Rattle.std.specs.Prelude.{List, ℕ, ◌++◌, codes, decimal}
use Rattle.card_piles.specs.CardText.{text_of_card}
use Rattle.game_rules.specs.declared.Part.{Part}
use Rattle.game_rules.specs.declared.Part.TheVariants.{Tableau, FaceDown, Cells, Reserve, Stock, Waste, RedealsLeft}
use Rattle.game_rules.specs.declared.Part.TheVariants.{Foundations, Hole, Rows}
use Rattle.deal_reader.specs.declared.fault.DealFault.{DealFault}
use Rattle.deal_reader.specs.declared.fault.DealFault.TheVariants.{TooLong, NotJson, NotObject, UnknownKey, WrongType}
use Rattle.deal_reader.specs.declared.fault.DealFault.TheVariants.{NotACard, PlaceFull, MissingCard, ExtraCard, Memory}

-- the name of a part in a fault's text
abbrev pub part_text : Part → List ℕ
part_text Tableau = codes "tableau"
part_text FaceDown = codes "face-down"
part_text Cells = codes "cells"
part_text Reserve = codes "reserve"
part_text Stock = codes "stock"
part_text Waste = codes "waste"
part_text RedealsLeft = codes "redeals-left"
part_text Foundations = codes "foundations"
part_text Hole = codes "hole"
part_text Rows = codes "rows"

-- the text of a fault
abbrev pub deal_fault_text : DealFault → List ℕ
deal_fault_text TooLong = codes "too-long"
deal_fault_text NotJson = codes "not-json"
deal_fault_text NotObject = codes "not-object"
deal_fault_text UnknownKey = codes "unknown-key"
deal_fault_text (WrongType part) = codes "wrong-type " ++ part_text part
deal_fault_text (NotACard part place) = codes "not-a-card " ++ part_text part ++ codes " " ++ decimal place
deal_fault_text (PlaceFull part) = codes "place-full " ++ part_text part
deal_fault_text (MissingCard card) = codes "missing-card " ++ text_of_card card
deal_fault_text (ExtraCard card) = codes "extra-card " ++ text_of_card card
deal_fault_text Memory = codes "memory"
