use Rattle.std.proofs.Common.{◌-ℤ◌, nat_abs, ◌≤ℤ◌}
use Rattle.search.proofs.Bisection.{Between}
use Rattle.search.proofs.bisect.Given as goal

abbrev pub invariant-loop-bottom : goal.invariant-loop-bottom
invariant-loop-bottom g l = Between (λ x. l.target ≤ℤ g.Q.NeverFalls.value l.quantity x) l.low l.high l.bottom l.top

abbrev pub decreases-loop-bottom : goal.decreases-loop-bottom
decreases-loop-bottom g l = nat_abs (l.top -ℤ l.bottom)
