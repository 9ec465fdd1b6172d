use Rattle.search_space.proofs.Alike.{keys-compared}
use Rattle.search_space.proofs.laws.keys_compare_as_boards_do.Goals as goal

pub returns : goal.returns
returns c = keys-compared
