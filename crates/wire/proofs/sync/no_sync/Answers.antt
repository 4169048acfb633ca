-- `sync::no_sync` meets its contract: of at most three bytes, the first that is not 7F. Assumes nothing.
use mathlib.Core.Path.{sym}
use mathlib.Core.Bool.{Bool}
use Prim.Native.Nat.{ℕ}
use native.Mathlib.Omega.{arith}
use lib.Dec.{eqb}
use Rattle.wire.proofs.FirstWrong.{first_within}
use Rattle.wire.proofs.sync.no_sync.Goals as goal

abbrev is_sync : ℕ → Bool
is_sync b = eqb b 0x7f

pub overflow_cast-result : goal.overflow_cast-result
overflow_cast-result c = let few = rw (sym c.first_other.ensures) at (first_within is_sync c.args.frame.now) in omega (arith, few)
