-- Rows a to l of document 01 hold: one claim over the list, which is computed. Assumes nothing.
use mathlib.Core.Path.{refl}
use Rattle.radio_status.specs.Words.{applied}
use Rattle.radio.specs.Read as radio
use Rattle.layout.specs.Slots.{slots, padding}
use Rattle.host.specs.Read as host
use Rattle.host_words.specs.Words.{heard}
use Rattle.stream.specs.Feed.{feed_of}
use Rattle.reading.specs.Reading.{reading}
use Rattle.stream.specs.Record.{sound_of}
use Rattle.rows.specs.Rows.{All, rows}

pub all_rows_hold : All rows
unfolding radio.read_of radio.answer_of applied slots padding host.read_of heard feed_of reading sound_of
all_rows_hold = (refl, (refl, (refl, (refl, (refl, (refl, (refl, (refl, (refl, (refl, (refl, (refl, (refl, (refl, (refl, (refl, (refl, (refl, (refl, (refl, (refl, tt)))))))))))))))))))))
