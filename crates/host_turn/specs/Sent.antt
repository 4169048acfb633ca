-- Document 01, "Words from the host" and "Nine refusals", and T-07: the bytes of the word that is due, each byte a layout of its fields,
-- the lowest first, and the records that can be sent. Assumes nothing.
use Rattle.std.specs.Prelude.{ℕ, ◌-◌, ◌≤◌, Bool, false, cond, ◌&&◌, List, [], ◌∷◌, eqb, ltb, get_or}
use Rattle.wire.specs.Answers.{Test, ◌gives◌, first, accepts}
use Rattle.wire.specs.Fields.{flag, pack, eight_flags}
use Rattle.wire.specs.Numbers.{bytes_of}
use Rattle.wire.specs.Sync.{header_of, headed}
use Rattle.wire.specs.declared.Refusal.TheVariants.{Range}
use Rattle.host_record.specs.Choices.{speed_code, source10_code, source122_code, boards_code, microphone_code, attenuator_code, antenna_code, relay_code, jack_code}
use Rattle.host_words.specs.Words.{listed, tunes}
use Rattle.host_record.specs.declared.record.Host.{Host}
use Rattle.host_record.specs.declared.record.Controls.{Controls}
use Rattle.host_record.specs.declared.record.HighPass.{HighPass}
use Rattle.host_record.specs.declared.record.LowPass.{LowPass}
use Rattle.host_record.specs.declared.record.Front.{Front}

-- "C0 bits 7-1 are the address, bit 0 is MOX"
abbrev pub c0_of : ℕ → Bool → ℕ
c0_of turn mox = pack (1 ∷ 7 ∷ []) (flag mox ∷ turn ∷ [])

-- word 0: speed, 10 MHz source, 122.88 MHz source, boards, microphone source
abbrev pub c1_of : Host → ℕ
c1_of h =
    pack (2 ∷ 2 ∷ 1 ∷ 2 ∷ 1 ∷ [])
    (speed_code h.speed ∷ source10_code h.source10 ∷ source122_code h.source122 ∷ boards_code h.boards ∷ microphone_code h.microphone ∷ [])

-- class E, open collector outputs
abbrev pub c2_of : Host → ℕ
c2_of h = pack (1 ∷ 7 ∷ []) (flag h.classe ∷ h.outputs ∷ [])

-- attenuator, preamp, dither, random, receive antenna, receive out
abbrev pub c3_of : Host → ℕ
c3_of h =
    pack (2 ∷ 1 ∷ 1 ∷ 1 ∷ 2 ∷ 1 ∷ [])
    (attenuator_code h.attenuator ∷ flag h.preamp ∷ flag h.dither ∷ flag h.random ∷ antenna_code h.antenna ∷ flag h.rxout ∷ [])

-- transmit relay, duplex, receivers less one, time stamp, common frequency
abbrev pub c4_of : Host → ℕ
c4_of h =
    pack (2 ∷ 1 ∷ 3 ∷ 1 ∷ 1 ∷ [])
    (relay_code h.relay ∷ flag h.duplex ∷ (h.receivers - 1) ∷ flag h.timestamp ∷ flag h.common ∷ [])

abbrev pub settings_bytes : Host → List ℕ
settings_bytes h = c1_of h ∷ c2_of h ∷ c3_of h ∷ c4_of h ∷ []

-- word 9's C2, C3 and C4, "bit 7 unassigned"
abbrev pub controls_byte : Controls → ℕ
controls_byte s = eight_flags s.boost s.linein s.filter s.tuner s.tune s.board s.manual s.vna

abbrev pub highpass_byte : HighPass → ℕ
highpass_byte s = eight_flags s.mhz13 s.mhz20 s.mhz9 s.mhz6 s.mhz1 s.bypass s.amplifier s.trdisabled

abbrev pub lowpass_byte : LowPass → ℕ
lowpass_byte s = eight_flags s.m30 s.m60 s.m80 s.m160 s.m6 s.m12 s.m17 false

abbrev pub switches_bytes : Host → List ℕ
switches_bytes h = h.drive ∷ controls_byte h.controls ∷ highpass_byte h.highpass ∷ lowpass_byte h.lowpass ∷ []

-- word 10: the preamps, tip and ring, mic bias, PTT disabled, "bit 7 is unassigned"
abbrev pub front_c1 : Front → ℕ
front_c1 s =
    pack (1 ∷ 1 ∷ 1 ∷ 1 ∷ 1 ∷ 1 ∷ 1 ∷ 1 ∷ [])
    (flag s.preamp1 ∷ flag s.preamp2 ∷ flag s.preamp3 ∷ flag s.preamp4 ∷ jack_code s.jack ∷ flag s.bias ∷ flag s.pttdisabled ∷ 0 ∷ [])

-- line-in gain, and the top three bits
abbrev pub front_c2 : Front → ℕ
front_c2 s = pack (5 ∷ 3 ∷ []) (s.gain ∷ s.c2top ∷ [])

abbrev pub front_bytes : Front → List ℕ
front_bytes s = front_c1 s ∷ front_c2 s ∷ s.c3 ∷ s.c4 ∷ []

-- C1 to C4 of the word that is due
unfoldable pub said : ℕ → Host → List ℕ
said turn h =
    cond (eqb turn 0) (settings_bytes h)
    (cond (eqb turn 1) (bytes_of 4 h.transmitter)
    (cond (tunes turn) (bytes_of 4 (get_or h.frequencies (turn - 2) 0))
    (cond (eqb turn 9) (switches_bytes h) (front_bytes h.front))))

-- sync, and C0 to C4
abbrev pub head_of : ℕ → Host → List ℕ
head_of turn h = header_of (c0_of turn h.mox) (said turn h)

-- "RANGE: ... the collector outputs above 127; the host record's receivers not 1 to 8"; T-07: "a gain above 31 or top bits above 7"
pub record InRange (h : Host) : Type 0 where
  pub outputs : h.outputs ≤ 127
  pub some : 1 ≤ h.receivers
  pub few : h.receivers ≤ 8
  pub gain : h.front.gain ≤ 31
  pub top : h.front.c2top ≤ 7

-- "A build tests the whole record, whichever word is due"
abbrev pub ranges : Host → List Test
ranges h =
    ltb 127 h.outputs gives Range
    ∷ ltb h.receivers 1 gives Range
    ∷ ltb 8 h.receivers gives Range
    ∷ ltb 31 h.front.gain gives Range
    ∷ ltb 7 h.front.c2top gives Range
    ∷ []

-- T-07: "the turn runs 0 to 10"; and a record in range
abbrev pub sendable : ℕ → Host → Bool
sendable turn h = listed turn && accepts (first (ranges h))

-- "the frame whose word is the turn's", begun: its head over the start of a frame that has room for it; the frame as it was
-- where the word cannot be sent
unfoldable pub begun : ℕ → Host → List ℕ → List ℕ
begun turn h frame = cond (sendable turn h) (headed (c0_of turn h.mox) (said turn h) frame) frame
