-- The numbers that a call gives: what an accepted one counts is the input's length, how large each can be, and no place. Assumes nothing.
use mathlib.Core.Path.{◌≡◌, refl}
use mathlib.Core.List.{List}
use Prim.Native.Nat.{ℕ, ◌+◌, ◌*◌}
use native.Mathlib.Omega.{arith}
use lib.ListN.{length}
use Rattle.wire.specs.Answers.{Accepted, place_of}
use Rattle.reading.proofs.Readings.{counted}
use Rattle.plain.specs.Plain.{Outcome, Few, plain_of}
use Rattle.plain.proofs.Cases.{by_outcome, reads, accepted_passes}

module _ (input output : List ℕ) where
  pub adds_up : (plain_of input output).answer ≡ Accepted → 512 * (plain_of input output).frames + (plain_of input output).skipped + (plain_of input output).left ≡ length input
  adds_up is = rw (reads input output (accepted_passes input output is)) (counted input).tally

  -- of every call: the sync after the last frame is left, so of 65,536 bytes no 128th frame comes
  pub few : Few (plain_of input output).frames (plain_of input output).skipped (plain_of input output).left
  few =
      by_outcome input output (λ (o : Outcome). Few o.frames o.skipped o.left) (omega arith) (omega arith)
      (λ passes. let counts = counted input in omega arith)

  -- no refusal of this call carries a place
  pub placeless : place_of (plain_of input output).answer ≡ 0
  placeless = by_outcome input output (λ (o : Outcome). place_of o.answer ≡ 0) refl refl (λ passes. refl)
