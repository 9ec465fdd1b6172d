-- What stands at a key of a tree, and which keys an object has.
use Rattle.std.specs.Prelude.{ℕ, ◌&&◌, List, Bool, true, false, Option, option_and_then}
use Rattle.std.specs.Option.{option_map_or}
use Rattle.std.specs.List.{list_any}
use Rattle.std.specs.Str.{bytes_eq}
use Rattle.serde_json.specs.Data.{Data, Members, no_members, member}
use Rattle.serde_json.specs.Find.{get, as_object, as_number, as_u64}

-- what stands at the key of a part, which may be absent
abbrev pub field : Option Data → List ℕ → Option Data
field part key = option_and_then (get key) part

-- each key of the members is among these
abbrev pub members_have_only : List (List ℕ) → Members → Bool
members_have_only keys no_members = true
members_have_only keys (member k d ms) = list_any (bytes_eq k) keys && members_have_only keys ms

-- the tree is an object whose keys are among these
abbrev pub has_only_keys : List (List ℕ) → Data → Bool
has_only_keys keys d = option_map_or (members_have_only keys) (as_object d) false

-- the whole number that the tree is: it has no sign, point or exponent and is below 2 ^ 64
abbrev pub whole_number : Data → Option ℕ
whole_number d = option_and_then as_u64 (as_number d)
