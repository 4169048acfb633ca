-- Any two numbers that the contract of the call through the door admits coincide. Assumes nothing.
use mathlib.Core.Path.{◌≡◌}
use mathlib.Core.List.{List}
use Prim.Native.Nat.{ℕ}
use Rattle.wire.proofs.Settled.{settled}
use Rattle.hpsdr_why.specs.Why.{why_byte_of}

pub why_byte_settled : (input : List ℕ) (place k k' : ℕ) → k ≡ why_byte_of input place → k' ≡ why_byte_of input place → k ≡ k'
why_byte_settled input place k k' p q = settled p q
