use Rattle.solve_job.proofs.Fixed.{no_line_wins}
use Rattle.solve_job.proofs.laws.unwinnable_means_that_no_line_wins.Goals as goal

pub returns : goal.returns
returns c = λ rules start limits nodes narrow_nodes is moves end line won.
    no_line_wins rules start moves end is.0.never line won
