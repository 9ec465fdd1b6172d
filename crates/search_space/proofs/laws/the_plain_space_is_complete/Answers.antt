use Rattle.search_space.proofs.Complete.{plain_game-is_complete}
use Rattle.search_space.proofs.laws.the_plain_space_is_complete.Goals as goal

pub returns : goal.returns
returns c = plain_game-is_complete
