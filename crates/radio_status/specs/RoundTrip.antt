-- What document 01's "Reading what was written" and "Writing what was read" speak of. Assumes nothing.
use Rattle.std.specs.Prelude.{ℕ, zero, suc}
use Rattle.radio_status.specs.Words.{holding}
use Rattle.radio_status.specs.declared.record.Status.{Status}
use Rattle.radio_status.specs.declared.words.Word.{Word}
use Rattle.radio_status.specs.declared.words.Word.TheVariants.{Input, Forward, Reverse, Supply, Board}

-- word w with the contents that a record has for it
abbrev pub word_from : Status → ℕ → Word
word_from s zero = Input (record { adc1 = s.overflow.adc1; inputs = s.inputs })
word_from s (suc zero) = Forward s.forward
word_from s (suc (suc zero)) = Reverse s.reverse
word_from s (suc (suc (suc zero))) = Supply s.supply
word_from s (suc (suc (suc (suc w)))) = Board (record { overflow = s.overflow; versions = s.versions })

-- a record with the keys of another
abbrev pub with_keys : Status → Status → Status
with_keys keys s = holding keys s.overflow s.inputs s.forward s.reverse s.supply s.versions
