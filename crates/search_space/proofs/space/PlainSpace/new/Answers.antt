use Rattle.search_space.proofs.Complete.{play_of-is_complete}
use Rattle.search_space.proofs.space.PlainSpace.new.Goals as goal

pub returns-clause-complete : goal.returns-clause-complete
returns-clause-complete c = play_of-is_complete c.args.rules.now c.args.start.now c.parts.ensures.playable c.requires
