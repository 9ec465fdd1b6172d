use Rattle.std.proofs.Common.{◌≡◌, ◌≢◌, ◌+◌, ◌∙◌, sym, refl, ◌⊎◌, inl, inr}
use Rattle.transposition.specs.declared.memo.Known.{Known}
use Rattle.transposition.specs.declared.memo.Known.TheVariants.{New, Live, Finished}
use Rattle.dfs_core.specs.Laid.{memory_of}
use Rattle.dfs_core.proofs.Showing.{memory_same, shown_step, shown_win, shown_new, shown_passes}
use Rattle.dfs_core.proofs.advance.try_step.Goals as goal

not_new : {known : Known} → (known ≡ Live) ⊎ (known ≡ Finished) → known ≢ New
not_new (inl a) e = cc
not_new (inr a) e = cc

pub go-undo-requires : goal.go-undo-requires
go-undo-requires g c =
    shown_step c.requires.searching.shown c.index-step.result.now c.requires.untried (sym c.index-step.ensures)

pub returns-then-is_won-clause-met : goal.returns-then-is_won-clause-met
returns-then-is_won-clause-met g c = λ first walk h.
    shown_win h c.index-step.result.now c.requires.untried
    (sym c.index-step.ensures) c.go-undo.result c.go-undo.new.self
    (record { undone = c.go-undo.ensures.undo; state_is = c.go-undo.ensures.state; same_play = c.go-undo.ensures.play })
    c.back.new.self c.back.ensures.undone (sym c.is_won.ensures ∙ c.if-is_won.true)

pub returns-in-New-clause-met : goal.returns-in-New-clause-met
returns-in-New-clause-met g c = λ first walk h.
    let old = memory_of g.M.Memo c.args.memo.now in
    let new = memory_of g.M.Memo c.look.new.self in
    shown_new h c.index-step.result.now c.requires.untried
    (sym c.index-step.ensures) c.go-undo.result c.go-undo.new.self
    (record { undone = c.go-undo.ensures.undo; state_is = c.go-undo.ensures.state; same_play = c.go-undo.ensures.play })
    (sym c.is_won.ensures ∙ c.if-is_won.false) c.key-key.result c.key-key.ensures
    new c.in-New.ensures.answer.0 c.in-New.ensures.answer.1
    (memory_same old new c.look.ensures.live c.in-New.ensures.finished c.look.ensures.capacity)

pub returns-in-Live-clause-known : goal.returns-in-Live-clause-known
returns-in-Live-clause-known g c = λ first walk h.
    shown_passes h c.index-step.result.now c.requires.untried (sym c.index-step.ensures) c.go-undo.result
    c.go-undo.new.self
    (record { undone = c.go-undo.ensures.undo; state_is = c.go-undo.ensures.state; same_play = c.go-undo.ensures.play })
    (sym c.is_won.ensures ∙ c.if-is_won.false) c.key-key.result c.key-key.ensures g.met.S.Key.Eq.laws
    c.back-in-Live.new.self (record { begin = c.args.stack.now.top.begin; next = c.args.stack.now.top.next + 1 })
    c.look.result (memory_of g.M.Memo c.look.new.self) c.back-in-Live.ensures.undone refl refl
    c.look.ensures.answer (not_new c.in-Live.is) c.look.ensures.live c.look.ensures.finished c.look.ensures.capacity
