use Rattle.std.proofs.Common.{◌∙◌, sym, subst, [], arith}
use Rattle.std.proofs.lemmas.Result.{IfOk-weaker}
use Rattle.dfs_core.specs.Search.{game}
use Rattle.dfs_core.specs.Standing.{problem_from}
use Rattle.dfs_core.specs.Answer.{EndsWith}
use Rattle.dfs_core.proofs.Moves.{follows_none, walk_none}
use Rattle.dfs_core.proofs.Keeping.{fresh_none}
use Rattle.trails.proofs.NoWin.{none_wins}
use Rattle.dfs_core.proofs.Standings.{some_same}
use Rattle.dfs_core.proofs.Answering.{won_not_spent}
use Rattle.dfs_core.proofs.depth_first.search.Goals as goal

pub returns-then-is_won-clause-answer : goal.returns-then-is_won-clause-answer
returns-then-is_won-clause-answer g c =
    let about = problem_from g.S.Space g.S.Key.PartialEq.eq c.args.space.now in
    record {
      walk = [];
      is_walk = walk_none about;
      fresh = fresh_none about (g.M.Memo.capacity c.args.memo);
      count = omega arith;
      spent_all = won_not_spent;
      ends = rw (c.from_vec.ensures ∙ c.new-steps.ensures.items)
          (follows_none about, tt, sym c.is_won.ensures ∙ c.if-is_won.true);
    }

pub returns : goal.returns
returns g c =
    let about = problem_from g.S.Space g.S.Key.PartialEq.eq c.args.space.now in
    record {
      back = some_same (sym c.rewind.ensures ∙ c.run-found.ensures.leads);
      limit = c.run-found.ensures.limit;
      answer = c.run-found.ensures.answer;
      no_win = IfOk-weaker c.run-found.result _ _ (λ found a e complete n.
          none_wins (game about) (g.S.Space.wins c.args.space.now) about.start a.walk complete a.is_walk
          (subst (EndsWith (game about) about.start (g.M.Memo.capacity c.args.memo) a.walk) e a.ends) n)
          c.run-found.ensures.answer;
    }
