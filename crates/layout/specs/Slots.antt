-- Document 01, "Frame and slots": a radio slot for n receivers, and how many fill the 504 bytes of payload. Assumes nothing.
use Rattle.std.specs.Prelude.{ℕ, ◌+◌, ◌*◌, ◌/◌, ◌%◌, ◌≡◌, Bool, ◌&&◌, leb}

-- "I then Q (3 bytes each) for receiver 1 to n, then 2 microphone bytes"
abbrev pub slot : ℕ → ℕ
slot n = 6 * n + 2

-- "As many whole slots as fit fill the payload; the rest is zero"
unfoldable pub slots : ℕ → ℕ
slots n = 504 / slot n

unfoldable pub padding : ℕ → ℕ
padding n = 504 % slot n

-- a receiver count that the table has: 1 to 8
abbrev pub counted : ℕ → Bool
counted n = leb 1 n && leb n 8

-- the three numbers of a row are those of n receivers
pub record FollowsRule (n bytes count rest : ℕ) : Type 0 where
  pub slot_is : bytes ≡ slot n
  pub slots_is : count ≡ slots n
  pub padding_is : rest ≡ padding n

-- the I and Q values of a frame, "in slot order, 2·n·slots of them"; the microphone has one a slot
abbrev pub values : ℕ → ℕ
values n = 2 * n * slots n

-- the byte of the payload where I or Q value k begins, and where microphone value t does
abbrev pub iq_place : ℕ → ℕ → ℕ
iq_place n k = k / (2 * n) * slot n + 3 * (k % (2 * n))

abbrev pub mic_place : ℕ → ℕ → ℕ
mic_place n t = t * slot n + 6 * n
