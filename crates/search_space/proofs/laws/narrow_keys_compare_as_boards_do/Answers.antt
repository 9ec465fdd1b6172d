use Rattle.search_space.proofs.NarrowAlike.{narrow_game-is_alike, narrow_keys-compared}
use Rattle.search_space.proofs.laws.narrow_keys_compare_as_boards_do.Goals as goal

pub returns : goal.returns
returns c = record { alike = narrow_game-is_alike; keys = narrow_keys-compared }
