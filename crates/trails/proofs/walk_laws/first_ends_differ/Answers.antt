use Rattle.trails.proofs.FirstEnds.{first_apart}
use Rattle.trails.proofs.walk_laws.first_ends_differ.Goals as goal

pub returns : goal.returns
returns g c = λ start walk fresh alike is_walk is_fresh.
    first_apart (g.G.HasGame.game c.args.of.now) start alike fresh walk
    (λ earlier later z e. (is_walk earlier later z e).1) is_fresh
