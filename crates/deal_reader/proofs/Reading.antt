-- A file that is cut one byte past the limit gives what the whole file gives.
use Rattle.std.proofs.Common.{◌≡◌, ℕ, List, take, ap}
use Rattle.json_tree.proofs.Reading.{object_of-take}
use Rattle.game_rules.specs.declared.RuleParts.{RuleParts}
use Rattle.deal_reader.specs.Position.{position_of_file, position_of}

pub position_of-take : (rules : RuleParts) (bytes : List ℕ)
    → position_of rules (take 65537 bytes) ≡ position_of rules bytes
unfolding position_of
position_of-take rules bytes = ap (position_of_file rules) (object_of-take bytes)
