use Rattle.std.proofs.Common.{◌∙◌, sym, subst, IsSome}
use Rattle.dfs_core.specs.Undoing.{taken_back, before_frame}
use Rattle.dfs_core.proofs.Back.{some_inside, popped, after_back}
use Rattle.dfs_core.proofs.stack.rewind.Goals as goal

pub back-requires : goal.back-requires
back-requires g c =
    let before = (before_frame g.S.Space.before) in
    some_inside (taken_back before c.pop.new.self.items) (before c.in-Some.frame c.loop-frame.space)
    (subst IsSome (sym c.loop-frame.invariant
    ∙ popped before c.loop-frame.frames.items c.pop.new.self.items c.in-Some.frame c.loop-frame.space
    c.in-Some.ensures.items) c.requires)

pub loop-frame-preserved : goal.loop-frame-preserved
loop-frame-preserved g c = sym (after_back
    (before_frame g.S.Space.before) c.loop-frame.frames.items c.pop.new.self.items c.in-Some.frame
    c.loop-frame.space c.back.new.self c.in-Some.ensures.items c.back.ensures.undone) ∙ c.loop-frame.invariant
