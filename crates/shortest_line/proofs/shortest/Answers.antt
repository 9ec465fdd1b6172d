use Rattle.shortest_line.proofs.Answering.{answer-decided}
use Rattle.shortest_line.proofs.shortest.Goals as goal

pub returns-clause-decides : goal.returns-clause-decides
returns-clause-decides c =
    answer-decided c.args.rules.now c.args.start.now c.args.nodes c.search_levels.result c.search_levels.ensures
