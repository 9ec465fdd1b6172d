use Rattle.std.proofs.Common.{◌≡◌, take, map}
use Rattle.serde_json.specs.View.{view}
use Rattle.deal_reader.specs.Spelling.{number_tree}
use Rattle.deal_reader.proofs.write.numbers_value.Given as goal

abbrev pub invariant-loop-number : goal.invariant-loop-number
invariant-loop-number l = map view l.list.items ≡ map number_tree (take l.number-index l.numbers)
