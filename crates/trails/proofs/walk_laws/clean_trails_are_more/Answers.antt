use Rattle.trails.proofs.Many.{more_trails}
use Rattle.trails.proofs.walk_laws.clean_trails_are_more.Goals as goal

pub returns : goal.returns
returns g c = λ start walk z plain is_walk clean follows.
    more_trails (g.G.HasGame.game c.args.of.now) start walk z plain is_walk clean follows
