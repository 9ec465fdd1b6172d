use Rattle.solve_job.proofs.laws.undecided_means_that_all_nodes_are_spent.Goals as goal

pub returns : goal.returns
returns c = λ rules start limits nodes narrow_nodes is. is.0.ends.spent
