use Rattle.std.proofs.Common.{ap, ◌∙◌}
use Rattle.same_boards.specs.Keys.{key_bytes}
use Rattle.packed_state.specs.Packed.{board_of}
use Rattle.search_space.specs.Plain.{Standing}
use Rattle.search_space.proofs.space.PlainSpaceSpace.key.Goals as goal

pub returns : goal.returns
returns c =
    c.key_of.ensures ∙ ap (λ (s : Standing). key_bytes s.rules (board_of s.packed)) c.self.view_is
