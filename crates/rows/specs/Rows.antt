-- Document 01, "Rows on both sides": rows a to l, one list. A row says that what the definitions give is what document 01 names.
-- Assumes nothing.
use Rattle.std.specs.Prelude.{ℕ, true, false, List, [], ◌∷◌, ◌++◌, ◌≡◌, pos, negsuc, get_or, replicate}
use Rattle.wire.specs.Answers.{number_of}
use Rattle.wire.specs.Numbers.{be, signed}
use Rattle.radio_status.specs.Record.{fresh_status}
use Rattle.radio_status.specs.Words.{address}
use Rattle.radio.specs.Read as radio
use Rattle.host.specs.Read as host
use Rattle.host_record.specs.Record.{fresh}
use Rattle.host_record.specs.declared.choices.Relay.{Relay}
use Rattle.stream.specs.Feed as stream
use Rattle.stream.specs.Record.{fresh_of}

infix 68 ◌is◌
pub data Row : Type 1 where
  ◌is◌ : {A : Type 0} → A → A → Row

-- every row of a list holds
abbrev pub All : List Row → Type 0
All [] = Unit {0}
All ((given is named) ∷ rows) = (given ≡ named) × All rows

abbrev sync : List ℕ
sync = 0x7f ∷ 0x7f ∷ 0x7f ∷ []

-- a frame with these five control bytes and silence, read into the fresh record
abbrev pub radio_read : List ℕ → radio.Outcome
radio_read control = radio.read_of (sync ++ control ++ replicate 504 0) 1 (replicate 126 (pos 0)) (replicate 63 (pos 0)) fresh_status

abbrev pub host_read : List ℕ → host.Outcome
host_read control = host.read_of (sync ++ control ++ replicate 504 0) (replicate 252 (pos 0)) fresh

-- the first piece of a fresh stream
abbrev pub fed : List ℕ → stream.Outcome
fed piece = stream.feed_of fresh_of piece (replicate 4096 0)

abbrev pub e : radio.Outcome
e = radio_read (0x0c ∷ 0 ∷ 0 ∷ 0 ∷ 0 ∷ [])

abbrev pub f : radio.Outcome
f = radio_read (0x08 ∷ 0x01 ∷ 0xf4 ∷ 0 ∷ 0 ∷ [])

abbrev pub g : host.Outcome
g = host_read (0x04 ∷ 0x00 ∷ 0x6c ∷ 0x56 ∷ 0x60 ∷ [])

abbrev pub h : host.Outcome
h = host_read (0 ∷ 0 ∷ 0 ∷ 0 ∷ 0x14 ∷ [])

abbrev pub j : stream.Outcome
j = fed (sync ++ replicate 511 0)

abbrev pub k : stream.Outcome
k = fed (sync ++ replicate 509 0 ++ sync)

abbrev pub l : stream.Outcome
l = fed (sync ++ replicate 512 0)

abbrev pub rows : List Row
rows =
    -- a. 7F FF FF is 8,388,607.
    signed 24 (be (0x7f ∷ 0xff ∷ 0xff ∷ [])) is pos 8388607
    -- b. 80 00 00 is -8,388,608.
    ∷ signed 24 (be (0x80 ∷ 0x00 ∷ 0x00 ∷ [])) is negsuc 8388607
    -- c. FF FF FF is -1.
    ∷ signed 24 (be (0xff ∷ 0xff ∷ 0xff ∷ [])) is negsuc 0
    -- d. Microphone 80 00 is -32,768.
    ∷ signed 16 (be (0x80 ∷ 0x00 ∷ [])) is negsuc 32767
    -- e. Radio C0 0C is word 1 with DOT on, DASH and PTT off.
    ∷ address 0x0c is 1
    ∷ e.reading.status.dot is true
    ∷ e.reading.status.dash is false
    ∷ e.reading.status.ptt is false
    -- f. Radio word 1 with C1C2 01 F4 has AIN5 at 500.
    ∷ f.reading.status.forward.ain5 is 500
    -- g. Host 04 00 6C 56 60 sets receiver 1 to 7,100,000 Hz, MOX off.
    ∷ get_or g.host.frequencies 0 0 is 7100000
    ∷ g.host.mox is false
    -- h. Host word 0, C4 14 is three receivers, duplex on, Tx1.
    ∷ h.host.receivers is 3
    ∷ h.host.duplex is true
    ∷ h.host.relay is Relay.Tx1
    -- i. C4 17 in that word is refused 8.
    ∷ number_of (host_read (0 ∷ 0 ∷ 0 ∷ 0 ∷ 0x17 ∷ [])).answer is 8
    -- j. 514 bytes beginning with sync: no frame, 514 held.
    ∷ j.frames is 0
    ∷ j.next.count is 514
    -- k. 515 with sync at 0 and 512: one frame, 3 held.
    ∷ k.frames is 1
    ∷ k.next.count is 3
    -- l. 515 with sync at 0 only: 1 skipped, 514 held.
    ∷ l.next.skipped is 1
    ∷ l.next.count is 514
    ∷ []
