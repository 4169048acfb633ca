-- `plain_of`, case by case, and what an accepted call tells. Assumes nothing.
use mathlib.Core.Path.{◌≡◌, ◌∙◌, subst⁻¹}
use mathlib.Core.List.{List, [], ◌∷◌}
use Prim.Native.Nat.{ℕ, ◌<◌, ◌≤◌}
use borrow.Author.Tests.{lt-ltb, le-ltb}
use lib.Dec.{ltb}
use lib.ListN.{length}
use Rattle.wire.proofs.Cases.{by_order}
use Rattle.wire.proofs.First.{first-here, first-later, none_accepted}
use Rattle.std.specs.Prelude.{Err}
use Rattle.wire.specs.Answers.{Answer, Accepted, Test, ◌gives◌, first}
use Rattle.wire.specs.declared.Refusal.TheVariants.{Length, ShortBuffer}
use Rattle.reading.specs.Reading.{reading}
use Rattle.plain.specs.Plain.{Outcome, refusals, refused, accepted, plain_of}

-- a call that no test refuses: the lengths of its input and of its output
pub record Passes (input output : ℕ) : Type 0 where
  pub short : input ≤ 65536
  pub room : input ≤ output

module _ (input output : List ℕ) where
  abbrev answer : Answer
  answer = first (refusals input output)

  abbrev too_long : Test
  too_long = ltb 65536 (length input) gives Length

  abbrev no_room : Test
  no_room = ltb (length output) (length input) gives ShortBuffer

  abbrev fits : Type 0
  fits = Passes (length input) (length output)

  pub input_too_long : 65536 < length input → plain_of input output ≡ refused (Err Length) output
  unfolding plain_of
  input_too_long long = rw (lt-ltb 65536 (length input) long)

  pub output_too_short : length input ≤ 65536 → length output < length input → plain_of input output ≡ refused (Err ShortBuffer) output
  unfolding plain_of
  output_too_short short small =
      let is : answer ≡ Err ShortBuffer =
      first-later too_long (no_room ∷ []) (le-ltb 65536 (length input) short) ∙ first-here no_room [] (lt-ltb (length output) (length input) small) in
      rw is

  pub reads : fits → plain_of input output ≡ accepted (reading input) output
  unfolding plain_of
  reads p =
      let is : answer ≡ Accepted =
      none_accepted (refusals input output) (le-ltb 65536 (length input) p.short, (le-ltb (length output) (length input) p.room, tt)) in
      rw is

  -- what holds of both refusals, and of a call that no test refuses, holds of every call
  pub by_outcome : (P : Outcome → Type 0) → P (refused (Err Length) output) → P (refused (Err ShortBuffer) output) → (fits → P (accepted (reading input) output)) → P (plain_of input output)
  by_outcome P at_length at-short at-accepted =
      by_order 65536 (length input) (λ long. subst⁻¹ P (input_too_long long) at_length)
      (λ short.
      by_order (length output) (length input) (λ small. subst⁻¹ P (output_too_short short small) at-short)
      (λ room. let passes : fits = record { short = short; room = room } in subst⁻¹ P (reads passes) (at-accepted passes)))

  pub accepted_passes : (plain_of input output).answer ≡ Accepted → fits
  accepted_passes =
      by_outcome (λ o. o.answer ≡ Accepted → fits) (λ e. absurd (cc)) (λ e. absurd (cc)) (λ passes e. passes)
