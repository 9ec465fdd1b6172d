-- What deals and redeals make of a packed board, slot by slot and link by link.
use Rattle.std.specs.Prelude.{◌≡◌, ℕ, ◌<◌, ◌≤◌, true, false, Bool, ◌&&◌, nat_le, nat_lt}
use Rattle.std.specs.List.{list_all, range_with_len}
use Rattle.card_links.specs.Chains.{size_at, shifted_each, dealt_out, gathered}
use Rattle.packed_state.specs.Packed.{Linked, face_at, is_inside, is_single}

-- a place that is no pile and takes more than one card
pub record IsList (l : Linked) (p : ℕ) : Type 0 where
  pub high : 88 ≤ p
  pub low : p < 107
  pub inside : is_inside l.shape p ≡ true
  pub many : is_single p ≡ false

-- the packed board after so many cards went from a list to another one after the other
abbrev pub turned : Linked → ℕ → ℕ → ℕ → Linked
turned l a b n = record l { links = shifted_each l.links a b n }

-- the same with another number of redeals left
abbrev pub with_redeals : Linked → ℕ → Linked
with_redeals l n = record l { redeals_left = n }

-- the packed board after the stock dealt one card each to the first piles
abbrev pub dealt : Linked → ℕ → Linked
dealt l n = record l { links = dealt_out l.links 89 n }

-- the packed board after the first piles gave one card each back to the stock
abbrev pub undealt : Linked → ℕ → Linked
undealt l n = record l { links = gathered l.links 89 n }

-- whether there are so many piles, and each of them has a card that lies face up
abbrev pub have_tops : Linked → ℕ → Bool
have_tops l n = nat_le n l.shape.piles && list_all (λ i. nat_lt (face_at l i) (size_at l.links i)) (range_with_len 0 n)
