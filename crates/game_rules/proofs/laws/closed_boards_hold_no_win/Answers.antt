use Rattle.std.specs.Prelude.{IsTrue}
use Rattle.std.specs.List.{Contains}
use Rattle.game_rules.specs.Board.{Board}
use Rattle.game_rules.proofs.NoWin.{closed_boards-no_win}
use Rattle.game_rules.proofs.laws.closed_boards_hold_no_win.Goals as goal

pub returns-clause-by_a_test : goal.returns-clause-by_a_test
returns-clause-by_a_test c = λ rules inside start closed here win.
    closed_boards-no_win rules (λ (board : Board). IsTrue (inside board)) closed start here win

pub returns-clause-by_a_list : goal.returns-clause-by_a_list
returns-clause-by_a_list c = λ rules boards start closed here win.
    closed_boards-no_win rules (Contains boards) closed start here win
