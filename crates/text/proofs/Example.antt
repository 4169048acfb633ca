-- Rows of what is printed, by the definitions alone: "1,324", a byte in hexadecimal, and texts that are numbers or none. Assumes nothing.
use mathlib.Core.Path.{◌≡◌, refl}
use mathlib.Core.List.{[], ◌∷◌}
use Rattle.std.specs.Prelude.{Some, None}
use Rattle.text.specs.Numbers.{groups_in, decimal_of, commas, hex_of}
use Rattle.text.specs.Place.{capped_of, place_of}

-- "0", "999", "1,000", "1,324", "65,536"
pub with-commas : commas 0 ∷ commas 999 ∷ commas 1000 ∷ commas 1324 ∷ commas 65536 ∷ []
    ≡ (0x30 ∷ [])
    ∷ (0x39 ∷ 0x39 ∷ 0x39 ∷ [])
    ∷ (0x31 ∷ 0x2c ∷ 0x30 ∷ 0x30 ∷ 0x30 ∷ [])
    ∷ (0x31 ∷ 0x2c ∷ 0x33 ∷ 0x32 ∷ 0x34 ∷ [])
    ∷ (0x36 ∷ 0x35 ∷ 0x2c ∷ 0x35 ∷ 0x33 ∷ 0x36 ∷ [])
    ∷ []
unfolding groups_in decimal_of commas
with-commas = refl

-- "00", "0A", "7F", "FF"
pub in_hexadecimal : hex_of 0x00 ∷ hex_of 0x0a ∷ hex_of 0x7f ∷ hex_of 0xff ∷ []
    ≡ (0x30 ∷ 0x30 ∷ []) ∷ (0x30 ∷ 0x41 ∷ []) ∷ (0x37 ∷ 0x46 ∷ []) ∷ (0x46 ∷ 0x46 ∷ []) ∷ []
unfolding hex_of
in_hexadecimal = refl

-- "0", "6100", "00042", "999999999", "1000000001", "99999999999999999999999", "", "-1", "+1", "1,324", "12a", " 7"
pub places : place_of (0x30 ∷ [])
    ∷ place_of (0x36 ∷ 0x31 ∷ 0x30 ∷ 0x30 ∷ [])
    ∷ place_of (0x30 ∷ 0x30 ∷ 0x30 ∷ 0x34 ∷ 0x32 ∷ [])
    ∷ place_of (0x39 ∷ 0x39 ∷ 0x39 ∷ 0x39 ∷ 0x39 ∷ 0x39 ∷ 0x39 ∷ 0x39 ∷ 0x39 ∷ [])
    ∷ place_of (0x31 ∷ 0x30 ∷ 0x30 ∷ 0x30 ∷ 0x30 ∷ 0x30 ∷ 0x30 ∷ 0x30 ∷ 0x30 ∷ 0x31 ∷ [])
    ∷ place_of (0x39 ∷ 0x39 ∷ 0x39 ∷ 0x39 ∷ 0x39 ∷ 0x39 ∷ 0x39 ∷ 0x39 ∷ 0x39 ∷ 0x39 ∷ 0x39 ∷ 0x39 ∷ 0x39 ∷ 0x39 ∷ 0x39 ∷ 0x39 ∷ 0x39 ∷ 0x39 ∷ 0x39 ∷ 0x39 ∷ 0x39 ∷ 0x39 ∷ 0x39 ∷ [])
    ∷ place_of []
    ∷ place_of (0x2d ∷ 0x31 ∷ [])
    ∷ place_of (0x2b ∷ 0x31 ∷ [])
    ∷ place_of (0x31 ∷ 0x2c ∷ 0x33 ∷ 0x32 ∷ 0x34 ∷ [])
    ∷ place_of (0x31 ∷ 0x32 ∷ 0x61 ∷ [])
    ∷ place_of (0x20 ∷ 0x37 ∷ [])
    ∷ []
    ≡ Some 0 ∷ Some 6100 ∷ Some 42 ∷ Some 999999999 ∷ Some 1000000000 ∷ Some 1000000000 ∷ None ∷ None ∷ None ∷ None ∷ None ∷ None ∷ []
unfolding capped_of place_of
places = refl
