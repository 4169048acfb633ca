-- What RESERVED names, in the order it is tested, and the number of each. Assumes nothing.
use Rattle.std.specs.Prelude.{ℕ, List, [], ◌∷◌}
use Rattle.wire.specs.declared.Cause.{Cause}
use Rattle.wire.specs.declared.Cause.TheVariants.{Source10, Relay, Word9C4Bit7, Word10C1Bit7, Ain5, Ain1, Ain2, Ain3, Ain4, Ain6}

-- T-02: "whether it was the 10 MHz source, the transmit relay or word 9's C4 bit 7, in that order", and T-07: word 10's C1 bit 7 "placed
-- after T-02's three". T-08, of a radio frame: the level, "in C1 to C4 order", word by word.
abbrev pub causes : List Cause
causes = Source10 ∷ Relay ∷ Word9C4Bit7 ∷ Word10C1Bit7 ∷ Ain5 ∷ Ain1 ∷ Ain2 ∷ Ain3 ∷ Ain4 ∷ Ain6 ∷ []

-- its place among them, from 1
abbrev pub cause_number : Cause → ℕ
cause_number Source10 = 1
cause_number Relay = 2
cause_number Word9C4Bit7 = 3
cause_number Word10C1Bit7 = 4
cause_number Ain5 = 5
cause_number Ain1 = 6
cause_number Ain2 = 7
cause_number Ain3 = 8
cause_number Ain4 = 9
cause_number Ain6 = 10
