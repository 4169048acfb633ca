-- The lines of frames that stand one after another: those of two lists, and of the start of one. Assumes nothing.
use mathlib.Core.Path.{◌≡◌, refl, sym, ap, ap₂, ◌∙◌}
use mathlib.Core.List.{List, [], ◌++◌}
use Prim.Native.Nat.{ℕ, ◌+◌, ◌*◌, ◌≤◌}
use native.Mathlib.Omega.{arith}
use lib.ListN.{length, take, drop, length-drop, take-append-drop}
use lib.Seq.{take-append-le, drop-append-le, drop-append-add}
use Rattle.wire.proofs.Lists.{tabs-add, tabs-same}
use Rattle.framed.specs.Hexadecimal.{line_of, frame_at, lines_of}

pub no_frames : (s : List ℕ) → lines_of 0 s ≡ []
unfolding lines_of
no_frames s = refl

-- a frame in the first of two lists, and in the second
frame_before : (x y : List ℕ) (t : ℕ) → t * 512 + 512 ≤ length x → frame_at (x ++ y) t ≡ frame_at x t
frame_before x y t inside =
    ap (take 512) (drop-append-le (t * 512) x y (omega arith)) ∙ take-append-le 512 (drop (t * 512) x) y (rw (length-drop (t * 512) x) (omega arith))

frame_behind : (m : ℕ) (x y : List ℕ) (t : ℕ) → length x ≡ 512 * m → frame_at (x ++ y) (m + t) ≡ frame_at y t
frame_behind m x y t long =
    let place : (m + t) * 512 ≡ length x + t * 512 = omega arith in
    ap (λ n. take 512 (drop n (x ++ y))) place ∙ ap (take 512) (drop-append-add x y (t * 512))

-- no more frames are looked at
lines_before : (n : ℕ) (x y : List ℕ) → length x ≡ 512 * n → lines_of n (x ++ y) ≡ lines_of n x
unfolding lines_of
lines_before n x y long =
    tabs-same n (λ t. line_of (frame_at (x ++ y) t)) (λ t. line_of (frame_at x t)) (λ t below. ap line_of (frame_before x y t (omega arith)))

pub lines_taken : (n : ℕ) (s : List ℕ) → length (take (512 * n) s) ≡ 512 * n → lines_of n s ≡ lines_of n (take (512 * n) s)
lines_taken n s long = ap (lines_of n) (sym (take-append-drop (512 * n) s)) ∙ lines_before n (take (512 * n) s) (drop (512 * n) s) long

pub lines_joined : (m n : ℕ) (x y : List ℕ) → length x ≡ 512 * m → lines_of (m + n) (x ++ y) ≡ lines_of m x ++ lines_of n y
unfolding lines_of
lines_joined m n x y long =
    tabs-add m n (λ t. line_of (frame_at (x ++ y) t))
    ∙ ap₂ ◌++◌ (lines_before m x y long)
    (tabs-same n (λ t. line_of (frame_at (x ++ y) (m + t))) (λ t. line_of (frame_at y t)) (λ t below. ap line_of (frame_behind m x y t long)))
