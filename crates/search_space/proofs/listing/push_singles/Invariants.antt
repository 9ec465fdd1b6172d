use Rattle.std.proofs.Common.{◌≡◌, ◌++◌, ◌||◌, take}
use Rattle.std.specs.List.{filter}
use Rattle.stock_steps.specs.Steps.{is_from_elsewhere, steps_from}
use Rattle.search_space.proofs.listing.push_singles.Given as goal

abbrev pub invariant-loop-m : goal.invariant-loop-m
invariant-loop-m l =
    l.out.items ≡ l.initial.out.items
    ++ steps_from 0 (filter (λ m. l.fn.all || is_from_elsewhere m) (take l.m-index l.moves))
