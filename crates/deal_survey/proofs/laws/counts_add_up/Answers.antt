use Rattle.deal_survey.proofs.Sums.{all_are_counted}
use Rattle.deal_survey.proofs.laws.counts_add_up.Goals as goal

pub returns : goal.returns
returns c = all_are_counted
