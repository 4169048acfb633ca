-- What the plain reader returns through the door tells its answer, the frames, the bytes skipped and the bytes left. Assumes nothing.
use mathlib.Core.Path.{◌≡◌, refl, subst⁻¹}
use mathlib.Core.List.{List}
use Prim.Native.Nat.{ℕ, ◌+◌, ◌*◌, ◌^◌}
use native.Mathlib.Omega.{arith}
use Rattle.wire.specs.Answers.{Answer, told, place_of}
use Rattle.cells.proofs.Parts.{lower_half, upper_half}
use Rattle.cells.specs.Cells.{got, Written}
use Rattle.plain.specs.Plain.{Outcome, Few, plain_of}
use Rattle.plain.proofs.Counts.{few, placeless}
use Rattle.hpsdr_plain.specs.Plain.{returned_of, shown, plain_read_of, TellsAll}

pub shown-is : (input output : List ℕ) → plain_read_of input output ≡ shown (plain_of input output)
unfolding plain_read_of
shown-is input output = refl

-- where nothing is counted, the answer alone is told
pub no_counts : (a : Answer) → told a ≡ returned_of a 0 0 0
no_counts a = omega arith

-- where no place and no large count stands, each part has bits of its own
module _ (o : Outcome) (none : place_of o.answer ≡ 0) (small : Few o.frames o.skipped o.left) where
  abbrev upper : ℕ
  upper = o.skipped + 2 ^ 16 * o.left

  halves : (shown o).number ≡ got (told o.answer) o.frames + 2 ^ 32 * upper
  halves = omega arith

  apart : TellsAll (shown o).number o
  apart =
      let both = upper_half o.answer o.frames upper none (omega arith) in
      record {
        lower = rw halves (lower_half o.answer o.frames upper none (omega arith));
        skipped_is = rw (halves, both) (omega arith);
        left_is = omega (arith, halves, both);
      }

pub plain_read_tells : (input output : List ℕ) → TellsAll (plain_read_of input output).number (plain_of input output)
plain_read_tells input output =
    subst⁻¹ (λ (w : Written). TellsAll w.number (plain_of input output)) (shown-is input output) (apart (plain_of input output) (placeless input output) (few input output))
