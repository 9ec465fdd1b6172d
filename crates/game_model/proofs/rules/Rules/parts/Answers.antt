use Rattle.game_model.proofs.rules.Rules.parts.Goals as goal

pub returns-clause-playable : goal.returns-clause-playable
returns-clause-playable c = rw (← c.self.view_is) c.self.invariant
