-- The bytes of the input, one read after another. Assumes nothing.
use Rattle.std.specs.Prelude.{ℕ, ◌+◌, ◌≡◌, Bool, true, false, cond, List, ◌++◌, ltb, length, take, Ok, Err}
use Rattle.std.specs.Io.KnownBytes.{Consumes}
use Rattle.std.specs.declared.option.Option.{Option}
use Rattle.std.specs.declared.result.Result.{Result}
use Rattle.std.proofs.lemmas.List.Edits.{sets}
use Rattle.explaining.specs.declared.Failure.{Failure}
use Rattle.explaining.specs.declared.recording.Recording.{Recording}

-- how many bytes of the input there are so far, whether there is more to read, and whether they are all there are
pub record Gathered : Type 0 where
  pub count : ℕ
  pub going : Bool
  pub whole : Bool

-- what is gathered, and the buffer that has it at its start
pub record Kept : Type 0 where
  pub gathered : Gathered
  pub input : List ℕ

abbrev pub kept : Gathered → List ℕ → Kept
kept gathered input = record { gathered = gathered; input = input }

-- what a recording has at its start
abbrev pub so_far : Recording → List ℕ
so_far r = take r.count r.bytes

-- a recording that grew, and one that had no room
abbrev pub gone_on : Recording → Gathered
gone_on r = record { count = r.count; going = true; whole = false }

abbrev pub kept_by : Result (Unit {0}) Failure → Recording → Kept
kept_by (Ok _) r = kept (gone_on r) r.bytes
kept_by (Err _) r = kept (record { count = r.count; going = false; whole = false }) r.bytes

-- bytes go behind those that are there; where they do not fit, there are too many
unfoldable pub appended : ℕ → List ℕ → List ℕ → Kept
appended count bytes input =
    cond (ltb (length input) (count + length bytes)) (kept (record { count = count; going = false; whole = false }) input)
    (kept (record { count = count + length bytes; going = true; whole = false }) (sets input count bytes))

-- so do the bytes of some read, which stand at the start of the chunk as it returns
pub record AppendsSome (count : ℕ) (chunk input : List ℕ) (next : Gathered) (after : List ℕ) : Type 0 where
  pub got : ℕ
  pub appends : kept next after ≡ appended count (take got chunk) input

-- of the bytes that are to come, where those are known, the next ones went behind the bytes before
abbrev pub Gathers : Option (List ℕ) → List ℕ → Option (List ℕ) → List ℕ → Type 0
Gathers coming before left after = (bytes : List ℕ) × Consumes coming left bytes × (after ≡ before ++ bytes)
