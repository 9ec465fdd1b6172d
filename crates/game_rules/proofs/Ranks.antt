-- Each card of a board that belongs to rules has one of the thirteen ranks: each rank that is due has.
use Rattle.std.proofs.Common.{◌≡◌, ◌+◌, ◌≤◌, ◌&&◌, not, List, [], ◌∷◌, arith}
use Rattle.std.specs.Prelude.{cond, Option, Some, None, IfSome, ◌==◌, nat_le}
use Rattle.std.specs.List.{All}
use Rattle.std.proofs.lemmas.List.Elements.{All-nil, All-cons}
use Rattle.std.proofs.lemmas.List.Sums.{sum_by-cons}
use Rattle.std.proofs.lemmas.Bool.{leb-true}
use Rattle.card_piles.specs.declared.Card.{Card}
use Rattle.card_piles.specs.Ranks.{IsRank}
use Rattle.game_rules.specs.declared.RuleParts.{RuleParts}
use Rattle.game_rules.specs.Rules.{is_sequence_goal}
use Rattle.game_rules.specs.Playable.{HasLimits}
use Rattle.game_rules.specs.Board.{Board, Pile}
use Rattle.game_rules.specs.Belonging.{Belongs, holds, copies_of, copies_in, copies_in_piles, copies_on, copies_due}
use Rattle.game_rules.specs.Ranked.{HasRanks}
use Rattle.game_rules.proofs.Limits.{both}
use Rattle.game_rules.proofs.Copies.{copies-cons}
use Rattle.game_rules.proofs.FewCards.{counts_itself, due_then}

due-rank : (rules : RuleParts) (card : Card) → rules.max_rank ≤ 13 → 1 ≤ copies_due rules card → IsRank card.rank
due-rank rules card high due =
    let all = both (nat_le 1 card.rank && nat_le card.rank rules.max_rank)
    (not (is_sequence_goal rules.goal && (card.rank == 1))) (due_then _ rules.decks due) in
    let ranks = both (nat_le 1 card.rank) (nat_le card.rank rules.max_rank) all.0 in
    let low : 1 ≤ card.rank = leb-true 1 card.rank ranks.0 in
    let within : card.rank ≤ rules.max_rank = leb-true card.rank rules.max_rank ranks.1 in
    (low, omega (arith, within, high))

-- what holds of each card that stands in a list holds of all its elements
All-counted : (P : Card → Type 0) (cards : List Card)
    → ((card : Card) → 1 ≤ copies_of card cards → P card) → All P cards
All-counted P [] each = All-nil P
All-counted P (x ∷ xs) each =
    let itself : 1 ≤ copies_of x (x ∷ xs) = omega (arith, copies-cons x x xs, counts_itself x) in
    let rest = All-counted P xs (λ card some. each card (omega (arith, some, copies-cons card x xs))) in
    All-cons P x xs (each x itself) rest

copies_in-cons : (card : Card) (entry : Option Card) (entries : List (Option Card))
    → copies_in card (entry ∷ entries) ≡ cond (holds card entry) 1 0 + copies_in card entries
copies_in-cons card entry entries = sum_by-cons (λ (e : Option Card). cond (holds card e) 1 0) entry entries

-- the same of entries that may be empty
All-counted_entries : (P : Card → Type 0) (entries : List (Option Card))
    → ((card : Card) → 1 ≤ copies_in card entries → P card)
    → All (λ entry. IfSome entry P) entries
All-counted_entries P [] each = All-nil (λ (entry : Option Card). IfSome entry P)
All-counted_entries P (None ∷ entries) each =
    let rest = All-counted_entries P entries
    (λ card some. each card (omega (arith, some, copies_in-cons card None entries))) in
    All-cons (λ (entry : Option Card). IfSome entry P) None entries tt rest
All-counted_entries P (Some x ∷ entries) each =
    let itself : 1 ≤ copies_in x (Some x ∷ entries) = omega
    (arith, copies_in-cons x (Some x) entries, counts_itself x) in
    let rest = All-counted_entries P entries
    (λ card some. each card (omega (arith, some, copies_in-cons card (Some x) entries))) in
    All-cons (λ (entry : Option Card). IfSome entry P) (Some x) entries (each x itself) rest

copies_in_piles-cons : (card : Card) (pile : Pile) (piles : List Pile)
    → copies_in_piles card (pile ∷ piles) ≡ copies_of card pile.cards + copies_in_piles card piles
copies_in_piles-cons card pile piles = sum_by-cons (λ (p : Pile). copies_of card p.cards) pile piles

-- the same of piles
All-counted_piles : (P : Card → Type 0) (piles : List Pile) → ((card : Card) → 1 ≤ copies_in_piles card piles → P card)
    → All (λ pile. All P pile.cards) piles
All-counted_piles P [] each = All-nil (λ (pile : Pile). All P pile.cards)
All-counted_piles P (pile ∷ piles) each =
    let here = All-counted P pile.cards
    (λ card some. each card (omega (arith, some, copies_in_piles-cons card pile piles))) in
    let rest = All-counted_piles P piles
    (λ card some. each card (omega (arith, some, copies_in_piles-cons card pile piles))) in
    All-cons (λ (p : Pile). All P p.cards) pile piles here rest

pub ranks-belong : (rules : RuleParts) (board : Board) → HasLimits rules → Belongs rules board → HasRanks board
ranks-belong rules board limits belongs =
    let P : Card → Type 0 = λ (card : Card). IsRank card.rank in
    let on_board : (card : Card) → 1 ≤ copies_on rules board card → P card =
    λ (card : Card) some. let due = belongs.cards card in
    due-rank rules card limits.max_rank (omega (arith, some, due)) in
    record {
      piles = All-counted_piles P board.piles (λ card some. on_board card (omega (arith, some)));
      cells = All-counted_entries P board.cells (λ card some. on_board card (omega (arith, some)));
      reserve = All-counted_entries P board.reserve (λ card some. on_board card (omega (arith, some)));
      stock = All-counted P board.stock (λ card some. on_board card (omega (arith, some)));
      waste = All-counted P board.waste (λ card some. on_board card (omega (arith, some)));
      hole = All-counted P board.hole (λ card some. on_board card (omega (arith, some)));
      slots = All-counted_entries P board.slots (λ card some. on_board card (omega (arith, some)));
    }
