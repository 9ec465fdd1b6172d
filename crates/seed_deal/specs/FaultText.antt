-- How a fault of a seed is printed.
use Rattle.std.specs.Prelude.{List, ℕ, codes}
use Rattle.seed_deal.specs.declared.fault.SeedFault.{SeedFault}
use Rattle.seed_deal.specs.declared.fault.SeedFault.TheVariants.{TooFewCards, TooManyCards, Memory}

-- the text of a fault
abbrev pub seed_fault_text : SeedFault → List ℕ
seed_fault_text TooFewCards = codes "too-few-cards"
seed_fault_text TooManyCards = codes "too-many-cards"
seed_fault_text Memory = codes "memory"
