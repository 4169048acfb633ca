-- Document 01, "Frame and slots": the row of n receivers, and that a count outside the table has none. Assumes nothing.
use Rattle.std.specs.Prelude.{ℕ, cond, refl, Result, Ok, Err}
use Rattle.wire.specs.declared.Refusal.{Refusal}
use Rattle.wire.specs.declared.Refusal.TheVariants.{BadCount}
use Rattle.layout.specs.Slots.{slot, slots, padding, counted}
use Rattle.layout.specs.declared.row.Row.{Row}

abbrev pub row_of : ℕ → Row
row_of n = record { receivers = n; slot = slot n; slots = slots n; padding = padding n; rule = record { slot_is = refl; slots_is = refl; padding_is = refl } }

abbrev pub lookup : ℕ → Result Row Refusal
lookup n = cond (counted n) (Ok (row_of n)) (Err BadCount)
