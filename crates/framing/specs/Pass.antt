-- What the bytes of one read of the input make of the stream's record and of the text. Assumes nothing.
use Rattle.std.specs.Prelude.{ℕ, ◌+◌, ◌^◌, ◌≤◌, ◌≡◌, Bool, true, false, List, leb, length, take, Ok, Err}
use Rattle.std.specs.Io.KnownBytes.{Consumes, Appends}
use Rattle.std.specs.declared.option.Option.{Option}
use Rattle.std.specs.declared.result.Result.{Result}
use Rattle.stream.specs.Feed.{feed_of}
use Rattle.stream.specs.declared.Stream.{Stream}
use Rattle.text.specs.Put.{gave, written}
use Rattle.framed.specs.Hexadecimal.{lines_of}
use Rattle.framing.specs.declared.Failure.{Failure}
use Rattle.framing.specs.declared.step.Passed.{Passed}

-- a piece is what one call takes, and there is room for the frames that can come of it and for their lines
pub record Buffers (piece frames text : List ℕ) : Type 0 where
  pub short : length piece ≤ 4096
  pub whole : 4096 ≤ length frames
  pub wide : 8200 ≤ length text

-- the bytes that a read gave, by what it answered
abbrev pub bytes_read : ℕ → List ℕ → List ℕ
bytes_read got piece = take got piece

-- what a read leaves: the stream's record, how many bytes of the text wait to be written, and whether there is more to do
pub record Passing : Type 0 where
  pub stream : Stream
  pub waiting : ℕ
  pub going : Bool

abbrev pub gone_on : Passed → Passing
gone_on next = record { stream = next.stream; waiting = next.waiting; going = true }

-- where a call fails, the record that it was given stays, and nothing waits
abbrev pub passing : Stream → Result Passed Failure → Passing
passing given (Ok next) = gone_on next
passing given (Err failure) = record { stream = given; waiting = 0; going = false }

-- the bytes are passed on: the next record is the call's, the lines of its frames wait at the start of the text, and there is more to do
-- unless they make more than 2^48
pub record Passes (given : Stream) (bytes frames text : List ℕ) (next : Passing) (after : List ℕ) : Type 0 where
  pub stream_is : next.stream ≡ (feed_of given bytes frames).next
  pub text_is : gave next.waiting after ≡ written (lines_of (feed_of given bytes frames).frames (feed_of given bytes frames).output) text
  pub going_is : next.going ≡ leb (given.total + length bytes) (2 ^ 48)

-- so are the bytes of some read, which stand at the start of the piece as it returns
pub record PassesSome (given : Stream) (piece frames text : List ℕ) (next : Passing) (after : List ℕ) : Type 0 where
  pub got : ℕ
  pub passes : Passes given (bytes_read got piece) frames text next after

-- and where the bytes are known that the input has left and that the output holds, those bytes are the input's next ones, and the output has
-- the text that waited
pub record PassesOn (coming left had has : Option (List ℕ)) (given : Stream) (piece frames text : List ℕ) (next : Passing) (after : List ℕ) : Type 0 where
  pub got : ℕ
  pub passes : Passes given (bytes_read got piece) frames text next after
  pub reads : Consumes coming left (bytes_read got piece)
  pub writes : Appends had has (take next.waiting after)
