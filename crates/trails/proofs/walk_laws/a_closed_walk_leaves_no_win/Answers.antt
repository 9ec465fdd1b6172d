use Rattle.trails.proofs.NoWin.{none_wins}
use Rattle.trails.proofs.walk_laws.a_closed_walk_leaves_no_win.Goals as goal

pub returns : goal.returns
returns g c = λ start walk complete is_walk closed.
    none_wins (g.G.HasGame.game c.args.of.now) (g.G.HasGame.wins c.args.of.now) start walk complete is_walk closed
