use Rattle.std.proofs.Common.{subst}
use Rattle.game_rules.specs.Playable.{IsPlayable}
use Rattle.play_session.specs.Held.{Held, Stands}
use Rattle.play_session.proofs.Holding.{stands_here, stands_well}
use Rattle.play_session.proofs.session.Session.keep.Goals as goal

pub returns : goal.returns
returns c =
    let holds = c.self.invariant.0 in
    let stands : Stands c.args.self.now = subst (λ s. Stands s) c.self.view_is holds.stands in
    let P : Held → Type 0 = λ s. IsPlayable s.rules in
    record {
      stands = stands;
      here = stands_here _ stands;
      belongs = stands_well _ (subst P c.self.view_is holds.playable) stands;
    }
