use Rattle.trails.proofs.Laws.{holds_prefixes}
use Rattle.trails.proofs.walk_laws.a_walk_contains_prefixes.Goals as goal

pub returns : goal.returns
returns g c = λ start walk is_walk trail front listed begins.
    holds_prefixes (g.G.HasGame.game c.args.of.now) start walk is_walk trail front listed begins
