-- T-05: exactly one reason is true of each place of an input: one always applies, and no two do. Assumes nothing.
use mathlib.Core.Path.{◌≡◌, sym, ◌∙◌}
use mathlib.Core.List.{List}
use Prim.Native.Nat.{ℕ, ◌<◌}
use lib.ListN.{length}
use Rattle.why.specs.Reasons.{IsTrueReason, ExactlyOne}
use Rattle.why.specs.declared.Reason.{Reason}
use Rattle.why.proofs.Reasons.{the_reason}
use Rattle.why.proofs.TrueReason.{some_reason}

-- no two
pub no_two : (s : List ℕ) (p : ℕ) (one other : Reason) → IsTrueReason s p one → IsTrueReason s p other → one ≡ other
no_two s p one other is also = the_reason s p one is ∙ sym (the_reason s p other also)

pub exactly_one : (s : List ℕ) (p : ℕ) → p < length s → ExactlyOne s p
exactly_one s p inside =
    let some = some_reason s p inside in
    record { reason = some.0; applies = some.1; no_other = λ other is. no_two s p other some.0 is some.1 }
