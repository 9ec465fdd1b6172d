-- Chains of slots.
use Rattle.std.specs.Prelude.{◌≡◌, ℕ, zero, suc, ◌+◌, ◌-◌, ◌<◌, ◌≤◌, ◌&&◌, nat_lt, nat_le, List, [], ◌∷◌, length, take}
use Rattle.std.specs.Prelude.{sum, replicate, slice_index_or, slice_set, if◌then◌else◌}

-- what a table of links says: the slot under each slot, the first slot of each place, and how many each place has
pub record Chains : Type 0 where
  pub under : List ℕ
  pub tops : List ℕ
  pub sizes : List ℕ
  -- the slots below this number are in places
  pub used : ℕ
  -- how many slots the places below 90 have together
  pub low : ℕ

-- the slot under a slot; 255 is none
abbrev pub link : List ℕ → ℕ → ℕ
link under slot = slice_index_or under slot 255

-- the slot so many links further
abbrev pub follow : List ℕ → ℕ → ℕ → ℕ
follow under zero slot = slot
follow under (suc n) slot = follow under n (link under slot)

-- as many slots as asked for, from this one on
abbrev pub chain : List ℕ → ℕ → ℕ → List ℕ
chain under zero slot = []
chain under (suc n) slot = slot ∷ chain under n (link under slot)

abbrev pub top_at : Chains → ℕ → ℕ
top_at c place = slice_index_or c.tops place 255

abbrev pub size_at : Chains → ℕ → ℕ
size_at c place = slice_index_or c.sizes place 0

-- the slot of a place with so many above it
abbrev pub slot_at : Chains → ℕ → ℕ → ℕ
slot_at c place depth = follow c.under depth (top_at c place)

-- the slots of a place, from its top down
abbrev pub slots_of : Chains → ℕ → List ℕ
slots_of c place = chain c.under (size_at c place) (top_at c place)

-- each chain ends after as many slots as its size, and no slot stands in two places or twice in one
pub record IsChained (c : Chains) : Type 0 where
  pub under_length : length c.under ≡ 208
  pub tops_length : length c.tops ≡ 315
  pub sizes_length : length c.sizes ≡ 315
  pub ends : (p : ℕ) → p < 315 → follow c.under (size_at c p) (top_at c p) ≡ 255
  pub within : (p k : ℕ) → p < 315 → k < size_at c p → slot_at c p k < c.used
  pub apart : (p q j k : ℕ) → p < 315 → q < 315 → j < size_at c p → k < size_at c q → slot_at c p j ≡ slot_at c q k
      → (p ≡ q) × (j ≡ k)
  pub all : sum c.sizes ≡ c.used
  pub fits : c.used ≤ 208
  pub open_part : sum (take 90 c.sizes) ≡ c.low

-- no place has a slot
abbrev pub no_chains : Chains
no_chains = record { under = replicate 208 255; tops = replicate 315 255; sizes = replicate 315 0; used = 0; low = 0 }

-- how many slots the places below 90 have after a carry
abbrev pub low_after : ℕ → ℕ → ℕ → ℕ → ℕ
low_after low from to count =
    if nat_lt from 90 && nat_le 90 to then low - count else
    if nat_lt to 90 && nat_le 90 from then low + count else low

-- the chains after the first slots of a place went to the front of another
abbrev pub shifted : Chains → ℕ → ℕ → ℕ → Chains
shifted c from to count = record {
  under = slice_set c.under (slot_at c from (count - 1)) (top_at c to);
  tops = slice_set (slice_set c.tops from (link c.under (slot_at c from (count - 1)))) to (top_at c from);
  sizes = slice_set (slice_set c.sizes from (size_at c from - count)) to (size_at c to + count);
  used = c.used;
  low = low_after c.low from to count;
}

-- the chains with a new slot at the front of a place
abbrev pub grown : Chains → ℕ → Chains
grown c place = record {
  under = slice_set c.under c.used (top_at c place);
  tops = slice_set c.tops place c.used;
  sizes = slice_set c.sizes place (size_at c place + 1);
  used = c.used + 1;
  low = if nat_lt place 90 then c.low + 1 else c.low;
}

-- the chains after so many slots went from a place to another one after the other
abbrev pub shifted_each : Chains → ℕ → ℕ → ℕ → Chains
shifted_each c from to zero = c
shifted_each c from to (suc n) = shifted (shifted_each c from to n) from to 1

-- the chains after one slot each went from a place to each of the first places, in their order
abbrev pub dealt_out : Chains → ℕ → ℕ → Chains
dealt_out c from zero = c
dealt_out c from (suc n) = shifted (dealt_out c from n) from n 1

-- the chains after one slot each went from each of the first places to a place, the last of these places first
abbrev pub gathered : Chains → ℕ → ℕ → Chains
gathered c to zero = c
gathered c to (suc n) = gathered (shifted c n to 1) to n
