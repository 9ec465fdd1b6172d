use Rattle.trails.proofs.Laws.{none_after_closed}
use Rattle.trails.proofs.walk_laws.no_open_trail_follows_a_closed_walk.Goals as goal

pub returns : goal.returns
returns g c = λ start walk is_walk plain. none_after_closed (g.G.HasGame.game c.args.of.now) start walk is_walk plain
