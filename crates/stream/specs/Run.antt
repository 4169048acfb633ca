-- Calls one after another, each on the record that the one before it gave. Assumes nothing.
use Rattle.std.specs.Prelude.{ℕ, ◌*◌, ◌≤◌, ◌≡◌, List, [], ◌∷◌, ◌++◌, length, take}
use Rattle.wire.specs.Answers.{Accepted}
use Rattle.stream.specs.Feed.{Outcome, feed_of}
use Rattle.stream.specs.declared.Stream.{Stream}

pub record Call : Type 0 where
  pub piece : List ℕ
  pub output : List ℕ

abbrev pub called : Stream → Call → Outcome
called given call = feed_of given call.piece call.output

-- every call is accepted
abbrev pub AllAccepted : Stream → List Call → Type 0
AllAccepted given [] = Unit {0}
AllAccepted given (call ∷ calls) = ((called given call).answer ≡ Accepted) × AllAccepted (called given call).next calls

-- no piece is too long, and no output too short
abbrev pub AllFit : List Call → Type 0
AllFit [] = Unit {0}
AllFit (call ∷ calls) = (length call.piece ≤ 4096) × (4096 ≤ length call.output) × AllFit calls

-- the pieces, one after another
abbrev pub pieces : List Call → List ℕ
pieces [] = []
pieces (call ∷ calls) = call.piece ++ pieces calls

-- the frames that the caller finds at the start of each output, one after another
abbrev pub handed_out : Stream → List Call → List ℕ
handed_out given [] = []
handed_out given (call ∷ calls) =
    take (512 * (called given call).frames) (called given call).output ++ handed_out (called given call).next calls

-- the record that the last call gave
abbrev pub last_of : Stream → List Call → Stream
last_of given [] = given
last_of given (call ∷ calls) = last_of (called given call).next calls
