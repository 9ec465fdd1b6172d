-- The cards of each place after a carry.
use Rattle.std.proofs.Common.{◌≡◌, ◌≢◌, ℕ, ◌-◌, ◌<◌, ◌≤◌, List, ◌++◌, length, map, reverse, sym, ap, ◌∙◌, arith}
use Rattle.std.proofs.lemmas.List.{reverse-append, map-append, length-reverse, length-map}
use Rattle.card_piles.specs.declared.Card.{Card}
use Rattle.card_links.specs.Chains.{Chains, IsChained, chain, top_at, size_at, slots_of, shifted}
use Rattle.card_links.proofs.Following.{length-chain}
use Rattle.card_links.proofs.Undoing.{slots_left, slots_there, slots_other}
use Rattle.game_rules.specs.Board.{top_part, below_top}
use Rattle.packed_state.specs.Packed.{card_of}
use Rattle.packed_state.proofs.Seams.{top-append, below-append}

-- the cards of slots, the last slot first
abbrev pub up : List Card → List ℕ → List Card
up cards slots = map (card_of cards) (reverse slots)

pub up-append : (cards : List Card) (xs ys : List ℕ) → up cards (xs ++ ys) ≡ up cards ys ++ up cards xs
up-append cards xs ys = ap (map (card_of cards)) (reverse-append xs ys)
    ∙ map-append (card_of cards) (reverse ys) (reverse xs)

pub length-up : (cards : List Card) (xs : List ℕ) → length (up cards xs) ≡ length xs
length-up cards xs = length-map (reverse xs) (card_of cards) ∙ length-reverse xs

module _ (cards : List Card) (c : Chains) (h : IsChained c) (from to count : ℕ) (lf : from < 315) (lt : to < 315)
    (ne : from ≢ to) (some : 0 < count) (enough : count ≤ size_at c from) where
  abbrev now : Chains
  now = shifted c from to count

  abbrev front : List ℕ
  front = chain c.under count (top_at c from)

  joined : up cards (slots_of c from) ≡ up cards (slots_of now from) ++ up cards front
  joined =
      ap (up cards) (slots_left c h from to count lf lt ne some enough (size_at c from - count) (omega arith))
      ∙ up-append cards front (slots_of now from)

  long : length (up cards front) ≡ count
  long = length-up cards front ∙ length-chain c.under count (top_at c from)

  pub cards_left : up cards (slots_of now from) ≡ below_top count (up cards (slots_of c from))
  cards_left =
      sym (ap (below_top count) joined ∙ below-append (up cards (slots_of now from)) (up cards front) count long)

  pub cards_there : up cards (slots_of now to) ≡ up cards (slots_of c to) ++ top_part count (up cards (slots_of c from))
  cards_there =
      ap (up cards) (slots_there c h from to count lf lt ne some enough)
      ∙ up-append cards front (slots_of c to)
      ∙ ap (λ xs. up cards (slots_of c to) ++ xs)
      (sym (ap (top_part count) joined ∙ top-append (up cards (slots_of now from)) (up cards front) count long))

  pub cards_other : (p : ℕ) → p < 315 → p ≢ from → p ≢ to → up cards (slots_of now p) ≡ up cards (slots_of c p)
  cards_other p lp nf nt = ap (up cards) (slots_other c h from to count lf lt ne some enough p lp nf nt)
