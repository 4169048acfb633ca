-- The reading followed place by place: what the loop keeps true, and the outcome at its end. Assumes nothing.
use mathlib.Core.Path.{◌≡◌, ap, ◌∙◌, subst⁻¹}
use mathlib.Core.Bool.{true, false}
use mathlib.Core.List.{List}
use Prim.Native.Nat.{ℕ, ◌+◌, ◌-◌, ◌*◌, ◌<◌, ◌≤◌}
use native.Mathlib.Omega.{arith}
use lib.ListN.{length, take, drop, length-drop}
use lib.Seq.{sets, length-take-le}
use Rattle.std.specs.Prelude.{Ok}
use Rattle.wire.proofs.Copies.{written, all_written}
use Rattle.wire.specs.Sync.{sync_at}
use Rattle.reading.proofs.Readings.{good-long, left-length}
use Rattle.reading.proofs.UnderWay.{Far, far_start, far_skip, far-good, far_end}
use Rattle.reading.specs.Reading.{good, reading}
use Rattle.plain.specs.Plain.{gave, accepted}

pub record Following (input output₀ output : List ℕ) (frames skipped place : ℕ) : Type 0 where
  pub far : Far input output₀ output frames place
  pub place_is : place ≡ 512 * frames + skipped
  pub in_list : place ≤ length input
  pub as_long : length output ≡ length output₀

pub starts : (input output : List ℕ) → Following input output output 0 0 0
starts input output =
    let far = far_start input output in
    record { far = far; place_is = omega arith; in_list = omega arith; as_long = far.as_long }

module _ {input output₀ output : List ℕ} {frames skipped place : ℕ} (here : Following input output₀ output frames skipped place) where
  -- sync stands here and again 512 bytes later: the bytes between are written behind the frames that are there
  pub hands_out : (exit : List ℕ) → sync_at input place ≡ true → sync_at input (place + 512) ≡ true → length input ≤ length output₀ → exit ≡ written output (512 * frames) (take (place + 512 - place) (drop place input)) → Following input output₀ exit (frames + 1) skipped (place + 512)
  hands_out exit near far-off room is =
      let begins : good input place ≡ true = rw (near, far-off) in
      let long = good-long input place begins in
      let count : place + 512 - place ≡ 512 = omega arith in
      let size : length (take 512 (drop place input)) ≡ 512 = length-take-le 512 (drop place input) (rw (length-drop place input) (omega arith)) in
      let copied : exit ≡ sets output (512 * frames) (take 512 (drop place input)) =
      is ∙ ap (λ n. written output (512 * frames) (take n (drop place input))) count ∙ all_written output (512 * frames) (take 512 (drop place input)) (omega (arith, here.place_is, here.as_long)) in
      let far = far-good here.far begins (omega (arith, here.place_is, here.as_long)) in
      subst⁻¹ (λ out. Following input output₀ out (frames + 1) skipped (place + 512)) copied
      (record { far = far; place_is = omega (arith, here.place_is); in_list = far.in_list; as_long = far.as_long })

  pub skips_one : good input place ≡ false → place + 515 ≤ length input → Following input output₀ output frames (skipped + 1) (place + 1)
  skips_one none enough =
      let far = far_skip here.far none enough in
      record { far = far; place_is = omega (arith, here.place_is); in_list = far.in_list; as_long = far.as_long }

  pub ends : length input < place + 515 → gave (Ok (record { frames = frames; skipped = skipped; left = length input - place })) output ≡ accepted (reading input) output₀
  ends few =
      let all = far_end here.far few in
      let counted : skipped ≡ place - 512 * frames = omega (arith, here.place_is) in
      rw (counted, all.skipped_is, all.frames_is, left-length input place all.left_is, all.output_is)
