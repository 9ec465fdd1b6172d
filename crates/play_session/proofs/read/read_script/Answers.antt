use Rattle.play_session.proofs.Steps.{script_of_long, script_of_short}
use Rattle.play_session.proofs.Written.{written_of}
use Rattle.play_session.proofs.read.read_script.Goals as goal

pub returns-then-bytes-gt-MOST_BYTES : goal.returns-then-bytes-gt-MOST_BYTES
returns-then-bytes-gt-MOST_BYTES c = record {
  read = script_of_long c.args.bytes.now c.if-bytes-gt-MOST_BYTES.true;
  written = tt;
}

pub returns : goal.returns
returns c = record {
  read = rw (script_of_short c.args.bytes.now c.if-bytes-gt-MOST_BYTES.false) c.orders_of.ensures;
  written = written_of c.orders_of.result c.args.bytes.now c.orders_of.ensures;
}
