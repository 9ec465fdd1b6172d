-- A count that is raised by one, or stands at its last value, rose.
use Rattle.std.proofs.Common.{◌≡◌, ◌≤◌, ℕ, sym, subst, inl, inr, ⊎_elim, arith}
use Rattle.outside_io.specs.Faults.{Rose}
use Rattle.outside_io.specs.Calls.{one_more}

pub Rose-one_more : (count : ℕ) → Rose count (one_more count)
Rose-one_more count = grind arith

pub Rose-raised : (before now : ℕ) → now ≡ one_more before → Rose before now
Rose-raised before now raised = subst (Rose before) (sym raised) (Rose-one_more before)

-- a count that rose, seen from an earlier start
pub Rose-earlier : (earlier before now : ℕ) → earlier ≤ before → Rose before now → Rose earlier now
Rose-earlier earlier before now le rose = ⊎_elim (λ less. inl (omega (arith, le, less))) (λ last. inr last) rose
