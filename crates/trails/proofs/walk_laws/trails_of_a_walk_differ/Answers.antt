use Rattle.trails.proofs.Laws.{trails_differ}
use Rattle.trails.proofs.walk_laws.trails_of_a_walk_differ.Goals as goal

pub returns : goal.returns
returns g c = λ start walk is_walk plain. trails_differ (g.G.HasGame.game c.args.of.now) start walk is_walk plain
