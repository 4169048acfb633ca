-- Document 01, "Words from the host", and T-07: the address, MOX, and the fields of each word by their bits. Assumes nothing.
use Rattle.std.specs.Prelude.{ℕ, suc, Result, Ok, Err, ◌+◌, ◌-◌, Bool, false, cond, ◌&&◌, List, [], ◌∷◌, eqb, leb, set}
use Rattle.wire.specs.Answers.{Test, reserving}
use Rattle.wire.specs.Fields.{bits, bit, on}
use Rattle.wire.specs.Lists.{tab}
use Rattle.wire.specs.Numbers.{be}
use Rattle.wire.specs.declared.Cause.{Cause}
use Rattle.host_record.specs.Choices.{speed_of, source10_of, source122_of, boards_of, microphone_of, attenuator_of, antenna_of, relay_of, jack_of}
use Rattle.host_record.specs.declared.record.Host.{Host}
use Rattle.host_record.specs.declared.record.Controls.{Controls}
use Rattle.host_record.specs.declared.record.HighPass.{HighPass}
use Rattle.host_record.specs.declared.record.LowPass.{LowPass}
use Rattle.host_record.specs.declared.record.Front.{Front}
use Rattle.host_record.specs.declared.choices.Source10.{Source10}
use Rattle.host_record.specs.declared.choices.Relay.{Relay}
use Rattle.host_record.specs.declared.choices.Unassigned.{Unassigned}
use Rattle.wire.specs.declared.control.Control.{Control}

-- "C0 bits 7-1 are the address"
abbrev pub address : Control → ℕ
address c = bits c.c0 7 1

-- T-07: addresses 11 to 127 are accepted, and set MOX only; the listed words are those up to this one
abbrev pub last_word : ℕ
last_word = 10

abbrev pub listed : ℕ → Bool
listed a = leb a last_word

abbrev pub listed_words : List ℕ
listed_words = tab (suc last_word) (λ w. w)

-- words 2 to 8 carry the frequencies of receivers 1 to 7
abbrev pub tunes : ℕ → Bool
tunes a = leb 2 a && leb a 8

-- "frequency in Hz, 32 bits"
abbrev pub hertz : Control → ℕ
hertz c = be (c.c1 ∷ c.c2 ∷ c.c3 ∷ c.c4 ∷ [])

-- "an unassigned host code or bit is set": word 0's 10 MHz source and its transmit relay, word 9's C4 bit 7, and word 10's C1 bit 7; no
-- host word carries a level
abbrev pub is_set : Control → Cause → Bool
is_set c Cause.Source10 = eqb (address c) 0 && eqb (bits c.c1 3 2) 3
is_set c Cause.Relay = eqb (address c) 0 && eqb (bits c.c4 1 0) 3
is_set c Cause.Word9C4Bit7 = eqb (address c) 9 && on c.c4 7
is_set c Cause.Word10C1Bit7 = eqb (address c) 10 && on c.c1 7
is_set c Cause.Ain5 = false
is_set c Cause.Ain1 = false
is_set c Cause.Ain2 = false
is_set c Cause.Ain3 = false
is_set c Cause.Ain4 = false
is_set c Cause.Ain6 = false

abbrev pub unassigned : Control → List Test
unassigned c = reserving (is_set c)

-- what a code names, and the given choice where it names none
abbrev pub source10_or : Result Source10 Unassigned → Source10 → Source10
source10_or (Ok source) given = source
source10_or (Err none) given = given

abbrev pub relay_or : Result Relay Unassigned → Relay → Relay
relay_or (Ok relay) given = relay
relay_or (Err none) given = given

-- word 9: "C2 bits 0 to 7", "C3 bits 0 to 7", "C4 bits 0 to 6"
abbrev pub controls_of : ℕ → Controls
controls_of c2 =
    record { boost = on c2 0; linein = on c2 1; filter = on c2 2; tuner = on c2 3; tune = on c2 4; board = on c2 5; manual = on c2 6; vna = on c2 7 }

abbrev pub highpass_of : ℕ → HighPass
highpass_of c3 =
    record { mhz13 = on c3 0; mhz20 = on c3 1; mhz9 = on c3 2; mhz6 = on c3 3; mhz1 = on c3 4; bypass = on c3 5; amplifier = on c3 6; trdisabled = on c3 7 }

abbrev pub lowpass_of : ℕ → LowPass
lowpass_of c4 = record { m30 = on c4 0; m60 = on c4 1; m80 = on c4 2; m160 = on c4 3; m6 = on c4 4; m12 = on c4 5; m17 = on c4 6 }

-- T-07, word 10: "C1 bits 0 to 3 are the four receiver preamps, bit 4 the Orion tip and ring choice, 5 mic bias, 6 microphone PTT
-- disabled", "C2's low five bits are the line-in gain"; C2's top three bits, C3 and C4 are plain numbers
abbrev pub front_of : Control → Front
front_of c =
    record {
      preamp1 = on c.c1 0;
      preamp2 = on c.c1 1;
      preamp3 = on c.c1 2;
      preamp4 = on c.c1 3;
      jack = jack_of (bit c.c1 4);
      bias = on c.c1 5;
      pttdisabled = on c.c1 6;
      gain = bits c.c2 4 0;
      c2top = bits c.c2 7 5;
      c3 = c.c3;
      c4 = c.c4;
    }

-- The record after word a: each field with the word that carries it, and its bits there. Every other field is as it was.
unfoldable pub heard : ℕ → Control → Host → Host
heard a c h =
    record {
      mox = on c.c0 0;
      speed = cond (eqb a 0) (speed_of (bits c.c1 1 0)) h.speed;
      source10 = cond (eqb a 0) (source10_or (source10_of (bits c.c1 3 2)) h.source10) h.source10;
      source122 = cond (eqb a 0) (source122_of (bit c.c1 4)) h.source122;
      boards = cond (eqb a 0) (boards_of (bits c.c1 6 5)) h.boards;
      microphone = cond (eqb a 0) (microphone_of (bit c.c1 7)) h.microphone;
      classe = cond (eqb a 0) (on c.c2 0) h.classe;
      outputs = cond (eqb a 0) (bits c.c2 7 1) h.outputs;
      attenuator = cond (eqb a 0) (attenuator_of (bits c.c3 1 0)) h.attenuator;
      preamp = cond (eqb a 0) (on c.c3 2) h.preamp;
      dither = cond (eqb a 0) (on c.c3 3) h.dither;
      random = cond (eqb a 0) (on c.c3 4) h.random;
      antenna = cond (eqb a 0) (antenna_of (bits c.c3 6 5)) h.antenna;
      rxout = cond (eqb a 0) (on c.c3 7) h.rxout;
      relay = cond (eqb a 0) (relay_or (relay_of (bits c.c4 1 0)) h.relay) h.relay;
      duplex = cond (eqb a 0) (on c.c4 2) h.duplex;
      receivers = cond (eqb a 0) (bits c.c4 5 3 + 1) h.receivers;
      timestamp = cond (eqb a 0) (on c.c4 6) h.timestamp;
      common = cond (eqb a 0) (on c.c4 7) h.common;
      transmitter = cond (eqb a 1) (hertz c) h.transmitter;
      frequencies = cond (tunes a) (set h.frequencies (a - 2) (hertz c)) h.frequencies;
      drive = cond (eqb a 9) c.c1 h.drive;
      controls = cond (eqb a 9) (controls_of c.c2) h.controls;
      highpass = cond (eqb a 9) (highpass_of c.c3) h.highpass;
      lowpass = cond (eqb a 9) (lowpass_of c.c4) h.lowpass;
      front = cond (eqb a 10) (front_of c) h.front;
    }

-- the record after an accepted frame
abbrev pub after : Control → Host → Host
after c h = heard (address c) c h
