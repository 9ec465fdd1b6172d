use Rattle.line_printer.proofs.MovesWritten.{move_written}
use Rattle.line_printer.proofs.laws.read_moves_have_their_text.Goals as goal

pub returns : goal.returns
returns c = λ text m is. (move_written text m is).0
