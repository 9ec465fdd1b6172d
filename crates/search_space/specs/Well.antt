-- A test that passes exactly the boards that belong to playable rules.
use Rattle.std.specs.Prelude.{Bool, ◌==◌, ◌&&◌, List, length, Option, is_none, is_some, if◌then◌else◌}
use Rattle.std.specs.List.{list_all}
use Rattle.std.specs.Option.{option_to_list}
use Rattle.card_piles.specs.declared.Card.{Card}
use Rattle.game_rules.specs.declared.RuleParts.{RuleParts}
use Rattle.game_rules.specs.Conflicts.{is_within}
use Rattle.game_rules.specs.Board.{Board}
use Rattle.game_rules.specs.Belonging.{foundation_count, slot_count}
use Rattle.game_rules.specs.Position.{parts_of, fault_of}

-- whether each card of the list has one of the thirteen ranks
abbrev pub are_cards : List Card → Bool
are_cards cards = list_all (λ card. is_within 1 13 card.rank) cards

-- whether each card of the entries has one of the thirteen ranks
abbrev pub are_entries : List (Option Card) → Bool
are_entries entries = list_all (λ entry. are_cards (option_to_list entry)) entries

-- whether each card that lies somewhere on the board has one of the thirteen ranks
abbrev pub has_ranks : Board → Bool
has_ranks board =
    list_all (λ pile. are_cards pile.cards) board.piles
    && are_entries board.cells
    && are_entries board.reserve
    && are_cards board.stock
    && are_cards board.waste
    && are_cards board.hole
    && are_entries board.slots

-- whether the board has as many places of each kind as the rules give
abbrev pub has_places : RuleParts → Board → Bool
has_places rules board =
    (length board.piles == rules.piles)
    && (length board.cells == rules.cells)
    && (if rules.stacked then list_all (λ e. is_some e) board.reserve else length board.reserve == rules.reserve)
    && (length board.heights == foundation_count rules)
    && (length board.slots == slot_count rules)

-- whether the board belongs to the rules
unfoldable pub is_well : RuleParts → Board → Bool
is_well rules board = has_places rules board && has_ranks board && is_none (fault_of rules (parts_of rules board))
