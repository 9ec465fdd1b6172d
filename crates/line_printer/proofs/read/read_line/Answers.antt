use Rattle.std.proofs.Common.{◌∙◌, ap, sym, Err}
use Rattle.std.proofs.lemmas.Result.{err_from_is_err_and}
use Rattle.line_printer.specs.LineFile.{most_bytes, line_of}
use Rattle.line_printer.specs.Reads.{ReadsAs}
use Rattle.line_printer.proofs.Reading.{line_of_long, line_of_plain, line_of_head, line_of_cut_head}
use Rattle.line_printer.proofs.FilesRead.{written_of}
use Rattle.line_printer.proofs.read.read_line.Goals as goal

pub returns-then-bytes-gt-MOST_BYTES : goal.returns-then-bytes-gt-MOST_BYTES
unfolding most_bytes
returns-then-bytes-gt-MOST_BYTES c = record {
  read = line_of_long c.args.bytes.now c.if-bytes-gt-MOST_BYTES.true;
  written = tt;
}

pub returns-in_err-after_four_lines : goal.returns-in_err-after_four_lines
unfolding most_bytes
returns-in_err-after_four_lines c =
    let answer = err_from_is_err_and c.from_residual.result c.from_residual.ensures.1 in
    let fault = c.in_err-after_four_lines.ensures in
    let reads : ReadsAs c.from_residual.result (line_of c.args.bytes.now) = rw (answer.1 ∙ ap Err (answer.2 ∙ fault.0))
    (line_of_cut_head c.args.bytes.now c.if-bytes-gt-MOST_BYTES.false (sym c.if-has_head.ensures) fault.1) in
    record { read = reads; written = written_of c.from_residual.result c.args.bytes.now reads }

pub returns-in_ok-after_four_lines : goal.returns-in_ok-after_four_lines
unfolding most_bytes
returns-in_ok-after_four_lines c =
    let e = c.in_ok-after_four_lines.ensures in
    let reads : ReadsAs c.moves_from.result (line_of c.args.bytes.now) =
    rw (line_of_head c.args.bytes.now c.in_ok-after_four_lines.field-0.now c.if-bytes-gt-MOST_BYTES.false
    (sym c.if-has_head.ensures) e.0 e.1) c.moves_from.ensures in
    record { read = reads; written = written_of c.moves_from.result c.args.bytes.now reads }

pub returns-else-has_head : goal.returns-else-has_head
unfolding most_bytes
returns-else-has_head c =
    let reads : ReadsAs c.moves_from-else-has_head.result (line_of c.args.bytes.now) =
    rw (line_of_plain c.args.bytes.now c.if-bytes-gt-MOST_BYTES.false (sym c.if-has_head.ensures))
    c.moves_from-else-has_head.ensures in
    record { read = reads; written = written_of c.moves_from-else-has_head.result c.args.bytes.now reads }
