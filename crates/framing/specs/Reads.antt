-- Reads one after another, until the input ends. Assumes nothing.
use Rattle.std.specs.Prelude.{ℕ, List, [], ◌∷◌, ◌++◌, take}
use Rattle.stream.specs.Run.{Call}
use Rattle.stream.specs.declared.Stream.{Stream}
use Rattle.framing.specs.Pass.{Passing, Passes}

-- a read: its bytes with the frames' buffer as it finds it, the text's buffer, and what they are afterwards
pub record Read : Type 0 where
  pub call : Call
  pub text : List ℕ
  pub next : Passing
  pub after : List ℕ

-- each read's bytes are passed on, from the record that the one before it left
abbrev pub AllPass : Stream → List Read → Type 0
AllPass given [] = Unit {0}
AllPass given (r ∷ reads) = Passes given r.call.piece r.call.output r.text r.next r.after × AllPass r.next.stream reads

abbrev pub calls_of : List Read → List Call
calls_of [] = []
calls_of (r ∷ reads) = r.call ∷ calls_of reads

-- what is written: after each read the text that waits
abbrev pub written_by : List Read → List ℕ
written_by [] = []
written_by (r ∷ reads) = take r.next.waiting r.after ++ written_by reads

-- the record that the last read left, whose numbers are the closing line's
abbrev pub record_after : Stream → List Read → Stream
record_after given [] = given
record_after given (r ∷ reads) = record_after r.next.stream reads
