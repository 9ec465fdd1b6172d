use Rattle.std.proofs.Common.{◌≡◌, ◌+◌, ◌<◌, ◌≤◌, ℕ, length, ap, sym, subst, ◌∙◌, arith, List, Vec, Option, Some, None, option_map}
use Rattle.game_rules.specs.declared.Move.{Move}
use Rattle.std.specs.declared.alloc.Global.{Global}
use Rattle.shortest_line.specs.Tree.{line_at}
use Rattle.shortest_line.specs.Levels.{IsSound, IsGrown, IsExpanded, IsWin}
use Rattle.shortest_line.proofs.Steps.{grown-then}
use Rattle.shortest_line.proofs.Trying.{running-first, running-next, same_depth}
use Rattle.shortest_line.proofs.searching.Search.run_level.Goals as goal

pub loop-place-init : goal.loop-place-init
loop-place-init c =
    let some = c.requires.some in
    let all = c.requires.all in
    running-first c.args.rules.now c.args.start.now c.parts.ensures.playable c.requires.belongs c.args.self.now
    c.args.from c.requires.level (omega arith)

pub expand-requires-clause-sound : goal.expand-requires-clause-sound
expand-requires-clause-sound c =
    let t = c.loop-place-test.true in
    let all = c.requires.all in
    let e = same_depth c.args.rules.now c.args.start.now c.parts.ensures.playable c.requires.belongs c.args.self.now
    c.loop-place.self c.args.from c.loop-place.place c.requires.level c.loop-place.auto.place (omega arith)
    c.loop-place.invariant.grown in
    subst (λ n. IsSound c.args.rules.now c.args.start.now c.loop-place.self n) (sym e) c.loop-place.invariant.sound

pub returns-in-Some-clause-sound : goal.returns-in-Some-clause-sound
returns-in-Some-clause-sound c =
    let t = c.loop-place-test.true in
    let all = c.requires.all in
    let e = same_depth c.args.rules.now c.args.start.now c.parts.ensures.playable c.requires.belongs c.args.self.now
    c.loop-place.self c.args.from c.loop-place.place c.requires.level c.loop-place.auto.place (omega arith)
    c.loop-place.invariant.grown in
    subst (λ n. IsSound c.args.rules.now c.args.start.now c.expand.new.self n) e c.in_ok-line.ensures.sound

pub returns-in-Some-clause-grown : goal.returns-in-Some-clause-grown
returns-in-Some-clause-grown c =
    let t = c.loop-place-test.true in
    let all = c.requires.all in
    let e = same_depth c.args.rules.now c.args.start.now c.parts.ensures.playable c.requires.belongs c.args.self.now
    c.loop-place.self c.args.from c.loop-place.place c.requires.level c.loop-place.auto.place (omega arith)
    c.loop-place.invariant.grown in
    grown-then c.args.self.now c.loop-place.self c.expand.new.self
    (length (line_at c.args.self.now.kept.lines c.args.from) + 1) c.loop-place.invariant.grown
    (subst (λ n. IsGrown c.loop-place.self c.expand.new.self n) e c.in_ok-line.ensures.grown)

pub returns-in-Some-clause-done : goal.returns-in-Some-clause-done
returns-in-Some-clause-done c =
    let t = c.loop-place-test.true in
    let all = c.requires.all in
    let e = same_depth c.args.rules.now c.args.start.now c.parts.ensures.playable c.requires.belongs c.args.self.now
    c.loop-place.self c.args.from c.loop-place.place c.requires.level c.loop-place.auto.place (omega arith)
    c.loop-place.invariant.grown in
    let P : Option (Vec Move Global) → Type 0 = λ o. IsExpanded c.args.rules.now c.args.start.now c.loop-place.self
    c.expand.new.self c.loop-place.place (option_map (λ v. v.items) o) in
    subst (λ n. IsWin c.args.rules.now c.args.start.now c.in-Some.line.items n) e
    (subst P c.in-Some.is c.in_ok-line.ensures.expanded)

pub loop-place-preserved : goal.loop-place-preserved
loop-place-preserved c =
    let t = c.loop-place-test.true in
    let all = c.requires.all in
    let P : Option (Vec Move Global) → Type 0 = λ o. IsExpanded c.args.rules.now c.args.start.now c.loop-place.self
    c.expand.new.self c.loop-place.place (option_map (λ v. v.items) o) in
    running-next c.args.rules.now c.args.start.now c.parts.ensures.playable c.requires.belongs c.args.self.now
    c.loop-place.self c.expand.new.self c.args.from c.loop-place.place c.requires.level c.loop-place.auto.place
    (omega arith) c.loop-place.invariant c.in_ok-line.ensures.sound c.in_ok-line.ensures.grown
    (subst P c.in_default.is c.in_ok-line.ensures.expanded)
