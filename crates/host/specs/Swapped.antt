-- T-03: "The builder now puts the caller's I in the bytes drawn as Q, and its Q in those drawn as I; the host reader swaps back." Assumes nothing.
use Rattle.std.specs.Prelude.{ℕ, ◌+◌, ◌*◌, List, [], ◌∷◌, ◌≡◌, ℤ, pos, get_or}
use Rattle.wire.specs.Numbers.{be, signed}

-- the number in two bytes of slot t of a frame; the protocol draws L, R, I and Q from bytes 0, 2, 4 and 6 of a slot on
abbrev pub drawn : ℕ → List ℕ → ℕ → ℤ
drawn from frame t = signed 16 (be (get_or frame (8 + t * 8 + from) 0 ∷ get_or frame (8 + t * 8 + from + 1) 0 ∷ []))

abbrev pub drawn_l : List ℕ → ℕ → ℤ
drawn_l = drawn 0

abbrev pub drawn_r : List ℕ → ℕ → ℤ
drawn_r = drawn 2

abbrev pub drawn_i : List ℕ → ℕ → ℤ
drawn_i = drawn 4

abbrev pub drawn_q : List ℕ → ℕ → ℤ
drawn_q = drawn 6

-- what stands in slot t of a frame, and the four numbers of the caller's slice
pub record Swapped (frame : List ℕ) (audio : List ℤ) (t : ℕ) : Type 0 where
  pub l : get_or audio (t * 4) (pos 0) ≡ drawn_l frame t
  pub r : get_or audio (t * 4 + 1) (pos 0) ≡ drawn_r frame t
  pub i : get_or audio (t * 4 + 2) (pos 0) ≡ drawn_q frame t
  pub q : get_or audio (t * 4 + 3) (pos 0) ≡ drawn_i frame t
