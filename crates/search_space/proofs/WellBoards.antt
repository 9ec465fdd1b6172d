-- The test passes exactly the boards that belong to the rules.
use Rattle.std.proofs.Common.{◌≡◌, true, ◌&&◌, List, length, refl, sym, subst, All}
use Rattle.std.specs.Prelude.{Option, Some, None, IsTrue, IfSome, is_none, nat_le}
use Rattle.std.specs.List.{list_all}
use Rattle.std.specs.Option.{option_to_list}
use Rattle.std.proofs.lemmas.List.Elements.{All-weaker}
use Rattle.std.proofs.lemmas.List.Sums.{list_all-from_AllPass, AllPass-from_list_all}
use Rattle.std.proofs.lemmas.Bool.{leb-true, le-leb, eq-eqb}
use Rattle.card_piles.specs.declared.Card.{Card}
use Rattle.card_piles.specs.Ranks.{IsRank}
use Rattle.game_rules.specs.declared.RuleParts.{RuleParts}
use Rattle.game_rules.specs.Conflicts.{is_within}
use Rattle.game_rules.specs.Playable.{HasLimits}
use Rattle.game_rules.specs.Board.{Board, Pile}
use Rattle.game_rules.specs.Belonging.{Belongs, foundation_count, slot_count}
use Rattle.game_rules.specs.Position.{parts_of, fault_of}
use Rattle.game_rules.specs.Ranked.{AreCards, AreEntries, HasRanks}
use Rattle.game_rules.proofs.Limits.{both}
use Rattle.game_rules.proofs.ListFacts.{and_both}
use Rattle.game_rules.proofs.Ranks.{ranks-belong}
use Rattle.game_rules.proofs.PositionFacts.{belongs-of_parts}
use Rattle.game_rules.proofs.BelongingExactly.{parts-have_no_fault}
use Rattle.search_space.specs.Well.{are_cards, are_entries, has_ranks, has_places, is_well}
use Rattle.search_space.proofs.Whole.{places-told, board-of_its_places}

-- ranks
rank-told : (card : Card) → is_within 1 13 card.rank ≡ true → IsRank card.rank
rank-told card h =
    let parts = both (nat_le 1 card.rank) (nat_le card.rank 13) h in
    (leb-true 1 card.rank parts.0, leb-true card.rank 13 parts.1)

rank-tested : (card : Card) → IsRank card.rank → is_within 1 13 card.rank ≡ true
rank-tested card h = and_both (nat_le 1 card.rank) (nat_le card.rank 13) (le-leb 1 card.rank h.0)
    (le-leb card.rank 13 h.1)

cards-told : (cards : List Card) → IsTrue (are_cards cards) → AreCards cards
cards-told cards h =
    All-weaker (λ (card : Card). is_within 1 13 card.rank ≡ true) (λ (card : Card). IsRank card.rank) rank-told cards
    (AllPass-from_list_all (λ (card : Card). is_within 1 13 card.rank) cards h)

cards-tested : (cards : List Card) → AreCards cards → IsTrue (are_cards cards)
cards-tested cards h =
    list_all-from_AllPass (λ (card : Card). is_within 1 13 card.rank) cards
    (All-weaker (λ (card : Card). IsRank card.rank) (λ (card : Card). is_within 1 13 card.rank ≡ true)
    rank-tested cards h)

entry-told : (entry : Option Card) → are_cards (option_to_list entry) ≡ true → IfSome entry (λ card. IsRank card.rank)
entry-told None h = tt
entry-told (Some card) h = rank-told card (both (is_within 1 13 card.rank) true h).0

entry-tested : (entry : Option Card) → IfSome entry (λ card. IsRank card.rank) → are_cards (option_to_list entry) ≡ true
entry-tested None h = refl
entry-tested (Some card) h = and_both (is_within 1 13 card.rank) true (rank-tested card h) refl

entries-told : (entries : List (Option Card)) → IsTrue (are_entries entries) → AreEntries entries
entries-told entries h =
    All-weaker (λ (e : Option Card). are_cards (option_to_list e) ≡ true)
    (λ (e : Option Card). IfSome e (λ card. IsRank card.rank)) entry-told entries
    (AllPass-from_list_all (λ (e : Option Card). are_cards (option_to_list e)) entries h)

entries-tested : (entries : List (Option Card)) → AreEntries entries → IsTrue (are_entries entries)
entries-tested entries h =
    list_all-from_AllPass (λ (e : Option Card). are_cards (option_to_list e)) entries
    (All-weaker (λ (e : Option Card). IfSome e (λ card. IsRank card.rank))
    (λ (e : Option Card). are_cards (option_to_list e) ≡ true) entry-tested entries h)

piles-told : (piles : List Pile) → IsTrue (list_all (λ pile. are_cards pile.cards) piles)
    → All (λ pile. AreCards pile.cards) piles
piles-told piles h =
    All-weaker (λ (p : Pile). are_cards p.cards ≡ true) (λ (p : Pile). AreCards p.cards)
    (λ (p : Pile) (k : are_cards p.cards ≡ true). cards-told p.cards k) piles
    (AllPass-from_list_all (λ (p : Pile). are_cards p.cards) piles h)

piles-tested : (piles : List Pile) → All (λ pile. AreCards pile.cards) piles
    → IsTrue (list_all (λ pile. are_cards pile.cards) piles)
piles-tested piles h =
    list_all-from_AllPass (λ (p : Pile). are_cards p.cards) piles
    (All-weaker (λ (p : Pile). AreCards p.cards) (λ (p : Pile). are_cards p.cards ≡ true)
    (λ (p : Pile) (k : AreCards p.cards). cards-tested p.cards k) piles h)

pub ranks-told : (board : Board) → IsTrue (has_ranks board) → HasRanks board
ranks-told board h =
    let to_hole = both _ _ h in
    let to_waste = both _ _ to_hole.0 in
    let to_stock = both _ _ to_waste.0 in
    let to_reserve = both _ _ to_stock.0 in
    let to_cells = both _ _ to_reserve.0 in
    let to_piles = both (list_all (λ pile. are_cards pile.cards) board.piles) (are_entries board.cells) to_cells.0 in
    record {
      piles = piles-told board.piles to_piles.0;
      cells = entries-told board.cells to_piles.1;
      reserve = entries-told board.reserve to_cells.1;
      stock = cards-told board.stock to_reserve.1;
      waste = cards-told board.waste to_stock.1;
      hole = cards-told board.hole to_waste.1;
      slots = entries-told board.slots to_hole.1;
    }

pub ranks-tested : (board : Board) → HasRanks board → IsTrue (has_ranks board)
ranks-tested board ranks =
    and_both _ _
    (and_both _ _
    (and_both _ _
    (and_both _ _
    (and_both _ _
    (and_both _ _ (piles-tested board.piles ranks.piles) (entries-tested board.cells ranks.cells))
    (entries-tested board.reserve ranks.reserve))
    (cards-tested board.stock ranks.stock))
    (cards-tested board.waste ranks.waste))
    (cards-tested board.hole ranks.hole))
    (entries-tested board.slots ranks.slots)

places-tested : (rules : RuleParts) (board : Board) → Belongs rules board → IsTrue (has_places rules board)
places-tested rules board b =
    and_both _ _
    (and_both _ _
    (and_both _ _
    (and_both _ _ (eq-eqb (length board.piles) rules.piles b.piles) (eq-eqb (length board.cells) rules.cells b.cells))
    b.reserve_filled)
    (eq-eqb (length board.heights) (foundation_count rules) b.foundations))
    (eq-eqb (length board.slots) (slot_count rules) b.slots)

none-told : {A : Type 0} (o : Option A) → is_none o ≡ true → o ≡ None
none-told None h = refl
none-told (Some x) h = cc

none-tested : {A : Type 0} (o : Option A) → o ≡ None → is_none o ≡ true
none-tested None h = refl
none-tested (Some x) h = cc

-- a board that passes belongs to the rules
pub belongs-of_well : (rules : RuleParts) (board : Board) → HasLimits rules → is_well rules board ≡ true
    → Belongs rules board
unfolding is_well
belongs-of_well rules board limits well =
    let to_ranks = both (has_places rules board && has_ranks board)
    (is_none (fault_of rules (parts_of rules board))) well in
    let to_places = both (has_places rules board) (has_ranks board) to_ranks.0 in
    let same = board-of_its_places rules board (places-told rules board to_places.0) in
    subst (Belongs rules) same
    (belongs-of_parts rules (parts_of rules board) limits (subst HasRanks (sym same) (ranks-told board to_places.1))
    (none-told (fault_of rules (parts_of rules board)) to_ranks.1))

-- and a board that belongs to them passes
pub is_well-of_belongs : (rules : RuleParts) (board : Board) → HasLimits rules → Belongs rules board
    → is_well rules board ≡ true
unfolding is_well
is_well-of_belongs rules board limits belongs =
    and_both _ _
    (and_both _ _ (places-tested rules board belongs) (ranks-tested board (ranks-belong rules board limits belongs)))
    (none-tested (fault_of rules (parts_of rules board)) (parts-have_no_fault rules board belongs))
