use Rattle.trails.proofs.FreshLaws.{same_walk}
use Rattle.trails.proofs.walk_laws.a_fresh_walk_is_fixed.Goals as goal

pub returns : goal.returns
returns g c = λ start walk other fresh plain alike is_walk is_walk' is_fresh is_fresh'.
    same_walk (g.G.HasGame.game c.args.of.now) start alike plain fresh walk other is_walk is_walk' is_fresh is_fresh'
