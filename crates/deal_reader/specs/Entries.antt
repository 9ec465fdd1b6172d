-- The entries of a part in the tree of a deal file, each read at its place in the part.
use Rattle.std.specs.Prelude.{ℕ, ◌+◌, ◌-◌, ◌^◌, min, List, [], ◌∷◌, length, Option, Some, None, is_some, Result, Ok}
use Rattle.std.specs.Prelude.{Err, if◌then◌else◌}
use Rattle.serde_json.specs.Data.{Data, Items, no_items, item}
use Rattle.serde_json.specs.Find.{as_null, as_str, as_array}
use Rattle.json_tree.specs.Choice.{◌>>=◌}
use Rattle.json_tree.specs.Fields.{whole_number}
use Rattle.card_piles.specs.declared.Card.{Card}
use Rattle.card_piles.specs.CardText.{card_of_text}
use Rattle.game_rules.specs.declared.Part.{Part}
use Rattle.deal_reader.specs.declared.fault.DealFault.{DealFault}
use Rattle.deal_reader.specs.declared.fault.DealFault.TheVariants.{WrongType, NotACard}

-- a value of the part's type
abbrev pub or_wrong_type : {A : Type 0} → Part → Option A → Result A DealFault
or_wrong_type part None = Err (WrongType part)
or_wrong_type part (Some x) = Ok x

-- a text that names a card
abbrev pub or_not_a_card : Part → ℕ → Option Card → Result Card DealFault
or_not_a_card part place None = Err (NotACard part place)
or_not_a_card part place (Some card) = Ok card

-- a card
abbrev pub card_at : Part → ℕ → Data → Result Card DealFault
card_at part place d = or_wrong_type part (as_str d) >>= λ text. or_not_a_card part place (card_of_text text)

-- a card, or null for an empty entry
abbrev pub entry_at : Part → ℕ → Data → Result (Option Card) DealFault
entry_at part place d = if is_some (as_null d) then Ok None else (card_at part place d >>= λ card. Ok (Some card))

-- a whole number, at any place
abbrev pub number_at : Part → ℕ → Data → Result ℕ DealFault
number_at part place d = or_wrong_type part (whole_number d)

-- the place so many entries later: a count that would pass the greatest `u64` stands still there
abbrev pub place_after : ℕ → ℕ → ℕ
place_after place count = min (place + count) (2 ^ 64 - 1)

-- the entries from a place on, or the fault of the first entry that has one
abbrev pub entries_from : {A : Type 0} → (ℕ → Data → Result A DealFault) → ℕ → Items → Result (List A) DealFault
entries_from read place no_items = Ok []
entries_from read place (item d ds) =
    read place d >>= λ entry. entries_from read (place_after place 1) ds >>= λ entries. Ok (entry ∷ entries)

-- a list of entries
abbrev pub list_at : {A : Type 0} → Part → (ℕ → Data → Result A DealFault) → ℕ → Data → Result (List A) DealFault
list_at part read place d = or_wrong_type part (as_array d) >>= λ entries. entries_from read place entries

-- lists of entries, whose places go on from one list to the next
abbrev pub lists_from : {A : Type 0} → Part → (ℕ → Data → Result A DealFault) → ℕ → Items
    → Result (List (List A)) DealFault
lists_from part read place no_items = Ok []
lists_from part read place (item d ds) =
    list_at part read place d >>= λ list. lists_from part read (place_after place (length list)) ds
    >>= λ lists. Ok (list ∷ lists)

-- a list of lists of entries
abbrev pub lists_at : {A : Type 0} → Part → (ℕ → Data → Result A DealFault) → Data → Result (List (List A)) DealFault
lists_at part read d = or_wrong_type part (as_array d) >>= λ lists. lists_from part read 0 lists
