use Rattle.patience.proofs.Rulings.{stops-fault}
use Rattle.patience.proofs.files.rules_of_bytes.Goals as goal

pub returns-in-Err-clause-refused : goal.returns-in-Err-clause-refused
returns-in-Err-clause-refused c =
    stops-fault c.args.bytes.now c.read_rules.result c.in-Err.fault c.stop_of_rules_fault.result c.in-Err.is
    c.read_rules.ensures.value c.stop_of_rules_fault.ensures
