use Rattle.std.proofs.Common.{ap, ◌∙◌}
use Rattle.game_rules.specs.Winning.{is_won}
use Rattle.packed_state.specs.Packed.{board_of}
use Rattle.search_space.specs.NarrowPlay.{NarrowStanding}
use Rattle.search_space.proofs.narrow.NarrowSpaceSpace.is_won.Goals as goal

pub returns : goal.returns
returns c =
    c.is_won.ensures ∙ ap (λ (s : NarrowStanding). is_won s.rules (board_of s.packed)) c.self.view_is
