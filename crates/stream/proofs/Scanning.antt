-- A scan under way: a reading from good frame to good frame. Assumes nothing.
use mathlib.Core.Path.{◌≡◌}
use mathlib.Core.Bool.{true, false}
use mathlib.Core.List.{List, []}
use Prim.Native.Nat.{ℕ, ◌+◌, ◌-◌, ◌*◌, ◌<◌, ◌≤◌, max}
use native.Mathlib.Omega.{arith}
use lib.ListN.{length, take, drop}
use lib.Seq.{sets}
use Rattle.reading.proofs.UnderWay.{Far, far_start, far_skips, far-good, far_end}
use Rattle.reading.specs.Reading.{good}
use Rattle.stream.specs.Steps.{Scans}

-- its place begins a good frame, unless fewer than 515 bytes remain
pub record Scanning (s output₀ output : List ℕ) (frames place : ℕ) : Type 0 where
  pub far : Far s output₀ output frames place
  pub good-here : place + 515 ≤ length s → good s place ≡ true

-- where fewer than 515 bytes remain
ends : {s output₀ output : List ℕ} {frames place : ℕ} → Far s output₀ output frames place → length s < place + 515 → Scans s output₀ (record { frames = frames; skipped = place - 512 * frames; place = place }) output
ends far few =
    let all = far_end far few in
    record {
      frames_is = all.frames_is;
      skipped_is = all.skipped_is;
      in_list = far.in_list;
      place_is = omega (arith, far.whole);
      left_is = all.left_is;
      output_is = all.output_is;
    }

-- what the next place is, by the contract of `next_good`
abbrev Next : List ℕ → ℕ → ℕ → Type 0
Next s start next =
    ((start ≤ next) × (next ≤ max start (length s - 514)))
    × (((k : ℕ) → start ≤ k → k < next → good s k ≡ false)
    × (next + 515 ≤ length s → good s next ≡ true))

goes_on : {s output₀ output : List ℕ} {frames place : ℕ} (next : ℕ) → Far s output₀ output frames place → Next s place next → Scanning s output₀ output frames next
goes_on next far found =
    record { far = far_skips far next found.0.0 found.0.1 (record { none = found.1.0 }); good-here = found.1.1 }

module _ {s output₀ output : List ℕ} {frames place : ℕ} (scanning : Scanning s output₀ output frames place) where
  pub scan_more : (next : ℕ) → place + 515 ≤ length s → 512 * frames + 512 ≤ length output → Next s (place + 512) next → Scanning s output₀ (sets output (512 * frames) (take 512 (drop place s))) (frames + 1) next
  scan_more next enough room = goes_on next (far-good scanning.far (scanning.good-here enough) room)

  pub scan_end : length s < place + 515 → Scans s output₀ (record { frames = frames; skipped = place - 512 * frames; place = place }) output
  scan_end few = ends scanning.far few

pub scan_start : (s output : List ℕ) (next : ℕ) → Next s 0 next → Scanning s output output 0 next
scan_start s output next = goes_on next (far_start s output)

pub scans_nothing : (output : List ℕ) → Scans [] output (record { frames = 0; skipped = 0; place = 0 }) output
scans_nothing output = ends (far_start [] output) (omega arith)
