use Rattle.trails.proofs.EndedWalks.{one_walk}
use Rattle.trails.proofs.walk_laws.ended_walks_are_one.Goals as goal

pub returns : goal.returns
returns g c =
    λ start walk other fresh fresh' limit plain alike is_walk is_walk' is_fresh is_fresh' few few' within within'.
    one_walk (g.G.HasGame.game c.args.of.now) start alike plain limit fresh fresh' walk other is_walk is_walk'
    is_fresh is_fresh' few few' within within'
