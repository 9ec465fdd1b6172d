-- The text of a card is ASCII.
use Rattle.std.proofs.Common.{◌≡◌, ℕ, ◌<◌, ◌≤◌, Bool, true, false, List, [], ◌∷◌, IsUtf8, arith}
use Rattle.std.specs.Prelude.{cond, ◌==◌}
use Rattle.std.specs.List.{All}
use Rattle.std.proofs.lemmas.List.Elements.{All-nil, All-cons}
use Rattle.std.proofs.lemmas.Str.{IsUtf8-from_ascii}
use Rattle.std.proofs.lemmas.Str.Ascii.{IsAscii-from_all}
use Rattle.card_piles.specs.declared.Card.{Card}
use Rattle.card_piles.specs.declared.Suit.{Suit}
use Rattle.card_piles.specs.declared.Suit.TheVariants.{Clubs, Diamonds, Hearts, Spades}
use Rattle.card_piles.specs.Ranks.{IsRank}
use Rattle.card_piles.specs.CardText.{suit_letter, rank_letter, text_of_card}

pick : (b : Bool) (x rest : ℕ) → x < 128 → rest < 128 → cond b x rest < 128
pick true x rest h k = h
pick false x rest h k = k

rank-small : (r : ℕ) → r ≤ 13 → rank_letter r < 128
rank-small r few =
    pick (r == 1) 65 _ (omega arith)
    (pick (r == 10) 84 _ (omega arith)
    (pick (r == 11) 74 _ (omega arith)
    (pick (r == 12) 81 _ (omega arith)
    (pick (r == 13) 75 _ (omega arith) (omega (arith, few))))))

suit-small : (s : Suit) → suit_letter s < 128
suit-small Clubs = omega arith
suit-small Diamonds = omega arith
suit-small Hearts = omega arith
suit-small Spades = omega arith

pub name-is_utf8 : (card : Card) (bytes : List ℕ) → IsRank card.rank → bytes ≡ text_of_card card → IsUtf8 bytes
name-is_utf8 card bytes ranked is =
    let small : ℕ → Type 0 = λ (b : ℕ). b < 128 in
    let all : All (λ b. b < 128) (text_of_card card) =
    All-cons small (rank_letter card.rank) (suit_letter card.suit ∷ []) (rank-small card.rank ranked.1)
    (All-cons small (suit_letter card.suit) [] (suit-small card.suit) (All-nil small)) in
    rw is (IsUtf8-from_ascii (text_of_card card) (IsAscii-from_all (text_of_card card) all))
