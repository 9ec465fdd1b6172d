use Rattle.game_rules.proofs.Limits.{limits_of}
use Rattle.search_space.proofs.WellBoards.{belongs-of_well, is_well-of_belongs}
use Rattle.search_space.proofs.laws.well_boards_belong.Goals as goal

pub returns : goal.returns
returns c = λ rules board playable. (
  belongs-of_well rules board (limits_of rules playable),
  is_well-of_belongs rules board (limits_of rules playable),
)
