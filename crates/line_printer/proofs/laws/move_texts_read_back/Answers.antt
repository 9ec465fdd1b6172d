use Rattle.line_printer.proofs.MovesRead.{move_read}
use Rattle.line_printer.proofs.laws.move_texts_read_back.Goals as goal

pub returns : goal.returns
returns c = move_read
