-- T-13 of the plain reader, by its agreement with a fresh stream. Assumes nothing.
use mathlib.Core.Path.{◌≡◌, sym, subst}
use mathlib.Core.Bool.{true}
use mathlib.Core.List.{List}
use Prim.Native.Nat.{ℕ, ◌*◌}
use lib.ListN.{take}
use Rattle.wire.specs.Answers.{Accepted}
use Rattle.reading.specs.Reading.{good}
use Rattle.plain.specs.Plain.{plain_of}
use Rattle.plain.proofs.Cases.{accepted_passes}
use Rattle.stream.specs.Clear.{Clear, Found, FoundOrOverlapped}
use Rattle.stream.specs.Record.{fresh_of}
use Rattle.stream.specs.Run.{Call, AllAccepted, pieces, handed_out}
use Rattle.stream.proofs.FoundHoweverCut.{found_however_cut, lost_however_cut}
use Rattle.agree.proofs.PlainAndQuick.{plain_agrees_with_quick, every_input_has_a_cutting}

-- of each input that the plain reader accepts
module _ (input output : List ℕ) (accepted : (plain_of input output).answer ≡ Accepted) where
  -- the frames at the start of the output
  abbrev pub handed_at_once : List ℕ
  handed_at_once = take (512 * (plain_of input output).frames) (plain_of input output).output

  -- what holds of what a fresh stream hands out, however the input is cut, holds of them
  as_a_stream : (P : List ℕ → Type 0) → ((calls : List Call) → pieces calls ≡ input → AllAccepted fresh_of calls → P (handed_out fresh_of calls)) → P handed_at_once
  as_a_stream P however_cut =
      let cutting = every_input_has_a_cutting input (accepted_passes input output accepted).short in
      let same = plain_agrees_with_quick input output accepted cutting.0 cutting.1 cutting.2 in
      subst P (sym same.frames_are) (however_cut cutting.0 cutting.1 cutting.2)

  pub found_at_once : (p b : ℕ) → Clear 511 input p b → Found input p b handed_at_once
  found_at_once p b clear = as_a_stream (Found input p b) (λ calls cut all. found_however_cut input calls cut all p b clear)

  pub lost_at_once : (p : ℕ) → good input p ≡ true → FoundOrOverlapped input p handed_at_once
  lost_at_once p here = as_a_stream (FoundOrOverlapped input p) (λ calls cut all. lost_however_cut input calls cut all p here)
