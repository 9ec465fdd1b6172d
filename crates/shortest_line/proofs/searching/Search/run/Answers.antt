use Rattle.std.proofs.Common.{◌≡◌, ◌+◌, ◌<◌, ◌≤◌, ℕ, length, ap, sym, subst, ◌∙◌, arith, refl, List, Vec, Option, option_map}
use Rattle.std.specs.declared.alloc.Global.{Global}
use Rattle.game_rules.specs.declared.Move.{Move}
use Rattle.shortest_line.specs.Tree.{line_at}
use Rattle.shortest_line.specs.Levels.{IsSound, IsGrown, IsDone, IsWin}
use Rattle.shortest_line.proofs.Steps.{level-next}
use Rattle.shortest_line.proofs.Answering.{least_answer, open_answer, no_line_answer}
use Rattle.shortest_line.proofs.searching.Search.run.Goals as goal

pub returns-in-Some : goal.returns-in-Some
returns-in-Some c =
    let rules = c.args.rules.now in
    let start = c.args.start.now in
    let old = c.loop-from.self in
    let new = c.run_level.new.self in
    let level = c.loop-from.invariant.level in
    let t = c.loop-from-test.true in
    let n = c.len.ensures.lines in
    let lt : c.loop-from.from < length old.kept.lines = omega arith in
    let e = level.last c.loop-from.from (omega arith) lt in
    let grown = subst (λ k. IsGrown old new (k + 1)) e c.in_ok-line.ensures.grown in
    let P : Option (Vec Move Global) → Type 0 = λ o. IsDone rules start old new c.len-to.result
    (length (line_at old.kept.lines c.loop-from.from)) (option_map (λ v. v.items) o) in
    let win = subst P c.in-Some.is c.in_ok-line.ensures.done in
    least_answer rules start c.parts.ensures.playable c.requires.belongs old new c.loop-from.from c.loop-from.depth
    c.args.self.now.budget.limit c.spent.result c.from_vec.result level
    (subst (λ k. IsSound rules start new (k + 1)) e c.in_ok-line.ensures.sound) grown
    (subst (λ line. IsWin rules start line (c.loop-from.depth + 1)) (sym c.from_vec.ensures)
    (subst (λ k. IsWin rules start c.in-Some.line.items (k + 1)) e win))
    (grown.limit ∙ c.loop-from.invariant.limit) c.spent.ensures.value

pub returns-then-self : goal.returns-then-self
returns-then-self c =
    let rules = c.args.rules.now in
    let start = c.args.start.now in
    let old = c.loop-from.self in
    let new = c.run_level.new.self in
    let level = c.loop-from.invariant.level in
    let t = c.loop-from-test.true in
    let n = c.len.ensures.lines in
    let lt : c.loop-from.from < length old.kept.lines = omega arith in
    let e = level.last c.loop-from.from (omega arith) lt in
    let grown = subst (λ k. IsGrown old new (k + 1)) e c.in_ok-line.ensures.grown in
    let P : Option (Vec Move Global) → Type 0 = λ o. IsDone rules start old new c.len-to.result
    (length (line_at old.kept.lines c.loop-from.from)) (option_map (λ v. v.items) o) in
    let done = subst P c.in_default.is c.in_ok-line.ensures.done in
    open_answer rules start c.parts.ensures.playable c.requires.belongs old new c.loop-from.from c.loop-from.depth
    c.len-to.result c.args.self.now.budget.limit (c.loop-from.depth + 2) c.spent-then-self.result level
    c.len-to.ensures.lines (subst (λ k. IsSound rules start new (k + 1)) e c.in_ok-line.ensures.sound) grown
    done.0 c.if-self.true (grown.limit ∙ c.loop-from.invariant.limit) c.spent-then-self.ensures.value refl

pub loop-from-preserved : goal.loop-from-preserved
loop-from-preserved c =
    let rules = c.args.rules.now in
    let start = c.args.start.now in
    let old = c.loop-from.self in
    let new = c.run_level.new.self in
    let level = c.loop-from.invariant.level in
    let t = c.loop-from-test.true in
    let n = c.len.ensures.lines in
    let n' = c.len-to.ensures.lines in
    let lt : c.loop-from.from < length old.kept.lines = omega arith in
    let e = level.last c.loop-from.from (omega arith) lt in
    let grown = subst (λ k. IsGrown old new (k + 1)) e c.in_ok-line.ensures.grown in
    let P : Option (Vec Move Global) → Type 0 = λ o. IsDone rules start old new c.len-to.result
    (length (line_at old.kept.lines c.loop-from.from)) (option_map (λ v. v.items) o) in
    let done = subst P c.in_default.is c.in_ok-line.ensures.done in
    record {
      level = level-next rules start c.parts.ensures.playable c.requires.belongs old new c.loop-from.from
          c.loop-from.depth c.len-to.result level (omega arith) c.len-to.ensures.lines
          (subst (λ k. IsSound rules start new (k + 1)) e c.in_ok-line.ensures.sound) grown c.if-self.false
          (done.1 c.if-self.false);
      limit = grown.limit ∙ c.loop-from.invariant.limit;
    }

pub returns : goal.returns
returns c =
    let t = c.loop-from-test.false in
    let n = c.len.ensures.lines in
    no_line_answer c.args.rules.now c.args.start.now c.parts.ensures.playable c.requires.belongs c.loop-from.self
    c.loop-from.from c.loop-from.depth c.args.self.now.budget.limit c.spent-2.result c.loop-from.invariant.level
    (omega arith) c.loop-from.invariant.limit c.spent-2.ensures.value
