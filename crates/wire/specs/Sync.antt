-- Document 01, "Frame and slots": a frame begins 7F 7F 7F, then C0 to C4. Assumes nothing.
use Rattle.std.specs.Prelude.{ℕ, ◌+◌, Bool, cond, ◌&&◌, List, ◌∷◌, eqb, ltb, length, get_or, take}
use Rattle.std.proofs.lemmas.List.Edits.{sets}
use Rattle.wire.specs.Places.{first_other}
use Rattle.wire.specs.declared.Refusal.{Refusal}
use Rattle.wire.specs.declared.Refusal.TheVariants.{NoSync}

-- sync stands at a place of s; `get_or` gives 0 past the end of s, so that there is none there
abbrev pub sync_at : List ℕ → ℕ → Bool
sync_at s p = eqb (get_or s p 0) 0x7f && eqb (get_or s (p + 1) 0) 0x7f && eqb (get_or s (p + 2) 0) 0x7f

-- T-02: "for NO_SYNC the first of the bytes 0 to 2 that isn't 7F"
abbrev pub no_sync : List ℕ → Refusal
no_sync frame = NoSync (first_other 0x7f (take 3 frame))

abbrev pub header_of : ℕ → List ℕ → List ℕ
header_of c0 word = 0x7f ∷ 0x7f ∷ 0x7f ∷ c0 ∷ word

-- the header over the start of a frame that has room for it
unfoldable pub headed : ℕ → List ℕ → List ℕ → List ℕ
headed c0 word frame = cond (ltb (length frame) 8) frame (sets frame 0 (header_of c0 word))
