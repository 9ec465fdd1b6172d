-- The answer of a reader that may be out of memory. What the program promises does not rest on this page.
use Rattle.std.specs.Prelude.{Result, Ok, Err, ◌≡◌, ◌⊎◌}
use Rattle.deal_reader.specs.declared.fault.DealFault.{DealFault}
use Rattle.deal_reader.specs.declared.fault.DealFault.TheVariants.{Memory}

-- the answer is this value, unless memory was refused
abbrev pub IsReadAs : {A : Type 0} → Result A DealFault → Result A DealFault → Type 0
IsReadAs (Ok x) value = value ≡ Ok x
IsReadAs (Err fault) value = (fault ≡ Memory) ⊎ (value ≡ Err fault)
