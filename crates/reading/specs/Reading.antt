-- Document 01, "The stream reader": the reading of a list of bytes, from its place 0. What is held between calls is no part of it. Assumes nothing.
use Rattle.std.specs.Prelude.{ℕ, zero, suc, ◌+◌, Bool, true, false, ◌&&◌, List, [], ◌++◌, ltb, length, take, drop}
use Rattle.wire.specs.Sync.{sync_at}

-- "A place begins a good frame if sync stands there and again 512 bytes later"
abbrev pub good : List ℕ → ℕ → Bool
good s p = sync_at s p && sync_at s (p + 512)

-- what a reading gives: the frames handed out, their bytes one after another, the one-byte steps, and the bytes left
pub record Reading : Type 0 where
  pub frames : ℕ
  pub handed : List ℕ
  pub skipped : ℕ
  pub left : List ℕ

-- nothing is read: all of s is left
abbrev pub leaving : List ℕ → Reading
leaving s = record { frames = 0; handed = []; skipped = 0; left = s }

abbrev pub frame : List ℕ → Reading
frame bytes = record { frames = 1; handed = bytes; skipped = 0; left = [] }

abbrev pub skip : Reading
skip = record { frames = 0; handed = []; skipped = 1; left = [] }

-- one reading and then another: what is left is what the second leaves
infixr 60 ◌and_then◌
abbrev pub ◌and_then◌ : Reading → Reading → Reading
a and_then b =
    record { frames = a.frames + b.frames; handed = a.handed ++ b.handed; skipped = a.skipped + b.skipped; left = b.left }

-- "While at least 515 bytes remain: at a good frame hand out its 512 bytes and go on 512; otherwise skip one byte."
-- The first test is that fewer remain, the second that a good frame begins here.
abbrev pub step_of : Bool → Bool → List ℕ → (List ℕ → Reading) → Reading
step_of true here s go_on = leaving s
step_of false true s go_on = frame (take 512 s) and_then go_on (drop 512 s)
step_of false false s go_on = skip and_then go_on (drop 1 s)

abbrev pub step : List ℕ → (List ℕ → Reading) → Reading
step s go_on = step_of (ltb (length s) 515) (good s 0) s go_on

-- as many steps as there are bytes are enough, since each takes one at least
abbrev pub steps : ℕ → List ℕ → Reading
steps zero s = leaving s
steps (suc n) s = step s (steps n)

unfoldable pub reading : List ℕ → Reading
reading s = steps (length s) s
