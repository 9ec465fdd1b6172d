use Rattle.std.proofs.Common.{◌≡◌, Bool, ◌||◌, List, [], ◌∷◌, ◌++◌, length, take, get_or, refl, ap, sym, ◌∙◌, arith}
use Rattle.std.proofs.Common.{rules, append-nil, append_assoc}
use Rattle.std.specs.List.{filter}
use Rattle.std.proofs.lemmas.List.{take_all}
use Rattle.game_rules.specs.declared.Move.{Move}
use Rattle.game_rules.specs.declared.Move.TheVariants.{Carry}
use Rattle.game_rules.specs.declared.Place.TheVariants.{Tableau}
use Rattle.stock_steps.specs.declared.Step.{Step}
use Rattle.stock_steps.specs.Steps.{is_from_elsewhere, steps_from}
use Rattle.search_space.proofs.Begun.{begun-more}
use Rattle.search_space.proofs.Singles.{singles-more, singles-none}
use Rattle.search_space.proofs.listing.push_singles.Goals.{then-is_listed+in_ok-push_single, else-is_listed}
use Rattle.search_space.proofs.listing.push_singles.Goals as goal

pub loop-m-init : goal.loop-m-init
loop-m-init c = sym (append-nil c.args.out.now.items)

pub loop-m-preserved : goal.loop-m-preserved
loop-m-preserved c =
    let moves : List Move = c.args.moves.now in
    let test : Move → Bool = λ m. c.args.all || is_from_elsewhere m in
    let blank : Move = Carry (Tableau 0) (Tableau 0) 0 in
    let item : Move = get_or moves c.loop-m.m-index blank in
    elim c.if-is_listed.branch [
      | then-is_listed+in_ok-push_single w ↦
          rw w.out-is w.in_ok-push_single.ensures.ok
          ∙ ap (λ (xs : List Step). xs ++ steps_from 0 (item ∷ [])) c.loop-m.invariant
          ∙ append_assoc c.args.out.now.items (steps_from 0 (filter test (take c.loop-m.m-index moves)))
          (steps_from 0 (item ∷ []))
          ∙ ap (λ (xs : List Step). c.args.out.now.items ++ xs)
          (sym (singles-more test moves c.loop-m.m-index blank c.loop-m-test.true
          (sym c.is_listed.ensures ∙ w.if-is_listed.true)))
      | else-is_listed w ↦
          rw w.out-is c.loop-m.invariant
          ∙ ap (λ (xs : List Step). c.args.out.now.items ++ xs)
          (sym (singles-none test moves c.loop-m.m-index blank c.loop-m-test.true
          (sym c.is_listed.ensures ∙ w.if-is_listed.false)))
    ]

pub returns-clause-ok : goal.returns-clause-ok
returns-clause-ok c =
    c.loop-m.invariant
    ∙ ap (λ (ms : List Move). c.args.out.now.items ++ steps_from 0 (filter (λ m. c.args.all || is_from_elsewhere m) ms))
    (take_all c.loop-m.m-index c.args.moves.now c.loop-m-test.false)

pub returns-in_err-push_single-clause-begun : goal.returns-in_err-push_single-clause-begun
returns-in_err-push_single-clause-begun c =
    search (
      rules,
      begun-more c.args.out.now.items _ c.loop-m.out.items c.push_single.new.out.items c.loop-m.invariant
          c.in_err-push_single.ensures.begun,
    )
