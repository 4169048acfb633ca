-- The reading followed as far as a place: what the loop keeps true, and the reason where it ends. Assumes nothing.
use mathlib.Core.Path.{◌≡◌, sym}
use mathlib.Core.Bool.{true, false}
use mathlib.Core.List.{List}
use Prim.Native.Nat.{ℕ, ◌+◌, ◌<◌, ◌≤◌}
use native.Mathlib.Omega.{arith}
use lib.ListN.{length}
use Rattle.reading.specs.Reading.{good}
use Rattle.reading.specs.UpTo.{Comes}
use Rattle.reading.proofs.Readings.{good-long, counted}
use Rattle.reading.proofs.UpTo.{comes_first, past_frame, past_byte, ends_here}
use Rattle.why.specs.Why.{skipped_for, reason_of}
use Rattle.why.specs.declared.Reason.TheVariants.{Inside, Held}
use Rattle.why.proofs.Reasons.{skipping, the_reason}

pub record Following (s : List ℕ) (asked place : ℕ) : Type 0 where
  pub comes : Comes s place
  pub not_past : place ≤ asked
  pub in_list : place ≤ length s

pub starts : (s : List ℕ) (asked : ℕ) → Following s asked 0
starts s asked = record { comes = comes_first s; not_past = omega arith; in_list = omega arith }

module _ {s : List ℕ} {asked place : ℕ} (here : Following s asked place) where
  module _ (begins : good s place ≡ true) where
    pub is_inside_lem : asked < place + 512 → Inside place ≡ reason_of s asked
    is_inside_lem before =
        the_reason s asked (Inside place) (record { comes = here.comes; begins = begins; from_start = here.not_past; before_end = before })

    pub goes_past_frame : place + 512 ≤ asked → Following s asked (place + 512)
    goes_past_frame past =
        let long = good-long s place begins in
        record { comes = past_frame here.comes begins; not_past = past; in_list = omega arith }

  module _ (none : good s place ≡ false) (remain : place + 515 ≤ length s) where
    pub is_skipped_lem : asked ≡ place → skipped_for s place ≡ reason_of s asked
    is_skipped_lem same =
        rw same (sym (skipping s place (record { comes = here.comes; remain = remain; none = none })))

    pub goes_past_byte : (asked ≡ place → ⊥) → Following s asked (place + 1)
    goes_past_byte other =
        record { comes = past_byte here.comes none remain; not_past = omega (arith, here.not_past); in_list = omega arith }

  pub stays_held : length s < place + 515 → asked < length s → Held ≡ reason_of s asked
  stays_held few inside =
      let end = ends_here here.comes few in
      let counts = counted s in
      the_reason s asked Held (record { left = omega (arith, end, here.not_past); inside = inside })
