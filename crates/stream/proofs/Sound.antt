-- A fresh record is sound, and a call on a sound record gives a sound one. Assumes nothing.
use mathlib.Core.Path.{◌≡◌, refl, ap, ◌∙◌}
use mathlib.Core.Bool.{true}
use mathlib.Core.List.{List, ◌++◌}
use Prim.Native.Nat.{ℕ, ◌-◌}
use native.Mathlib.Omega.{arith}
use lib.ListN.{length, length-append}
use lib.Seq.{length-take-le}
use Rattle.stream.proofs.Calls.{Passes, by_outcome}
use Rattle.stream.proofs.Cells.{length-cells, drop_cells}
use Rattle.wire.proofs.Everywhere.{zeros}
use Rattle.reading.proofs.Readings.{counted}
use Rattle.stream.proofs.Records.{Sound, sound_shown, sound_told}
use Rattle.stream.specs.Feed.{after, feed_of}
use Rattle.reading.specs.Reading.{reading}
use Rattle.wire.specs.Every.{all_zero}
use Rattle.stream.specs.Record.{fresh_of, sound_of, held_bytes}
use Rattle.stream.specs.declared.Stream.{Stream}

pub fresh_sound : sound_of fresh_of ≡ true
unfolding sound_of
fresh_sound = refl

-- a sound record, with as many cells as its type says
pub record Kept (s : Stream) : Type 0 where
  pub sound : Sound s
  pub cells : length s.held ≡ 514

pub fresh_kept : Kept fresh_of
fresh_kept = record { sound = sound_told fresh_of fresh_sound; cells = refl }

pub after_kept : (given : Stream) (piece : List ℕ) {output : ℕ} → Kept given → Passes given (length piece) output → Kept (after given (length piece) (reading (held_bytes given ++ piece)))
after_kept given piece kept passes =
    let bytes = held_bytes given ++ piece in
    let left = (reading bytes).left in
    let counts = counted bytes in
    let held : length (held_bytes given) ≡ given.count = length-take-le given.count given.held (omega arith) in
    record {
      sound =
          record {
            few = counts.few;
            clean = ap all_zero (drop_cells 514 left) ∙ zeros (514 - length left);
            small = passes.fits;
            tally = omega (arith, length-append (held_bytes given) piece);
          };
      cells = length-cells 514 left counts.few;
    }

pub next-sound : (given : Stream) (piece output : List ℕ) → length given.held ≡ 514 → sound_of given ≡ true → sound_of (feed_of given piece output).next ≡ true
next-sound given piece output cells sound =
    by_outcome given piece output (λ o. sound_of o.next ≡ true) (λ refusal e. sound)
    (λ passes. sound_shown _ (after_kept given piece (record { sound = sound_told given sound; cells = cells }) passes).sound)
