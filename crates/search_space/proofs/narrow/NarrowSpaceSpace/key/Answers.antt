use Rattle.std.proofs.Common.{sym, ap, ◌∙◌}
use Rattle.packed_state.specs.Packed.{board_of}
use Rattle.search_space.specs.NarrowPlay.{NarrowStanding, narrow_key}
use Rattle.search_space.proofs.NarrowReturning.{coarse_key, exact_key}
use Rattle.search_space.proofs.narrow.NarrowSpaceSpace.key.Goals as goal

pub returns-then-coarse : goal.returns-then-coarse
returns-then-coarse c =
    c.colour_key_of.ensures ∙ coarse_key c.self.inside.rules.now c.self.inside.way (board_of c.self.inside.packed)
    (sym c.coarse.ensures ∙ c.if-coarse.true)
    ∙ ap (λ (s : NarrowStanding). narrow_key s.rules s.way (board_of s.packed)) c.self.view_is

pub returns-else-coarse : goal.returns-else-coarse
returns-else-coarse c =
    c.key_of.ensures ∙ exact_key c.self.inside.rules.now c.self.inside.way (board_of c.self.inside.packed)
    (sym c.coarse.ensures ∙ c.if-coarse.false)
    ∙ ap (λ (s : NarrowStanding). narrow_key s.rules s.way (board_of s.packed)) c.self.view_is
