use Rattle.trails.proofs.Laws.{at_most_one}
use Rattle.trails.proofs.walk_laws.at_most_one_open_trail_follows.Goals as goal

pub returns : goal.returns
returns g c = λ start walk is_walk plain. at_most_one (g.G.HasGame.game c.args.of.now) start walk is_walk plain
