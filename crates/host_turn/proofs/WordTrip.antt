-- A word through its bytes and back: reading what was said gives its fields. Assumes nothing.
use mathlib.Core.Path.{◌≡◌, ap, ◌∙◌}
use mathlib.Core.Bool.{false}
use mathlib.Core.List.{List, [], ◌∷◌}
use Prim.Native.Nat.{ℕ, ◌+◌, ◌-◌, ◌^◌, ◌<◌, ◌≤◌}
use native.Mathlib.Nat.{mod-eq_of_lt}
use native.Mathlib.Omega.{arith}
use lib.ListN.{get_or}
use Rattle.std.specs.Prelude.{Ok}
use Rattle.wire.proofs.Bytes.{be-bytes_of}
use Rattle.wire.specs.Fields.{flag, fields}
use Rattle.wire.specs.Numbers.{bytes_of}
use Rattle.host_words.proofs.Carries.{own_entry}
use Rattle.host_record.proofs.Codes.{speed_codes, source10_codes, source122_codes, boards_codes, microphone_codes, attenuator_codes, antenna_codes, relay_codes, jack_codes}
use Rattle.host_turn.proofs.Saying.{said-frequency}
use Rattle.host_record.specs.Choices.{speed_of, speed_code, source10_of, source10_code, source122_of, source122_code, boards_of, boards_code, microphone_of, microphone_code, attenuator_of, attenuator_code, antenna_of, antenna_code, relay_of, relay_code, jack_of, jack_code}
use Rattle.host_record.specs.Record.{Same, Seven, settings}
use Rattle.host_turn.specs.Sent.{InRange, c1_of, c2_of, c3_of, c4_of, controls_byte, highpass_byte, lowpass_byte, front_c1, front_c2, front_bytes, said}
use Rattle.host_words.specs.Words.{hertz, heard, source10_or, relay_or, controls_of, highpass_of, lowpass_of, front_of}
use Rattle.host_record.specs.declared.record.Host.{Host}
use Rattle.host_record.specs.declared.record.Controls.{Controls}
use Rattle.host_record.specs.declared.record.HighPass.{HighPass}
use Rattle.host_record.specs.declared.record.LowPass.{LowPass}
use Rattle.host_record.specs.declared.record.Front.{Front}
use Rattle.wire.specs.declared.control.Control.{Control}
use Rattle.host_turn.proofs.BitTrip.{flag-fits, switched, field_back, ones, eight_back}

-- the frequencies of a host record, as the language holds them
pub record Held (h : Host) : Type 0 where
  pub seven : Seven h
  pub transmitter : h.transmitter < 2 ^ 32
  pub frequencies : (i : ℕ) → get_or h.frequencies i 0 < 2 ^ 32

controls_back : (s : Controls) → controls_of (controls_byte s) ≡ s
controls_back s =
    let d = eight_back s.boost s.linein s.filter s.tuner s.tune s.board s.manual s.vna in
    λ i.
    record {
      boost = switched s.boost (d 0) i;
      linein = switched s.linein (d 1) i;
      filter = switched s.filter (d 2) i;
      tuner = switched s.tuner (d 3) i;
      tune = switched s.tune (d 4) i;
      board = switched s.board (d 5) i;
      manual = switched s.manual (d 6) i;
      vna = switched s.vna (d 7) i;
    }

highpass_back : (s : HighPass) → highpass_of (highpass_byte s) ≡ s
highpass_back s =
    let d = eight_back s.mhz13 s.mhz20 s.mhz9 s.mhz6 s.mhz1 s.bypass s.amplifier s.trdisabled in
    λ i.
    record {
      mhz13 = switched s.mhz13 (d 0) i;
      mhz20 = switched s.mhz20 (d 1) i;
      mhz9 = switched s.mhz9 (d 2) i;
      mhz6 = switched s.mhz6 (d 3) i;
      mhz1 = switched s.mhz1 (d 4) i;
      bypass = switched s.bypass (d 5) i;
      amplifier = switched s.amplifier (d 6) i;
      trdisabled = switched s.trdisabled (d 7) i;
    }

lowpass_back : (s : LowPass) → lowpass_of (lowpass_byte s) ≡ s
lowpass_back s =
    let d = eight_back s.m30 s.m60 s.m80 s.m160 s.m6 s.m12 s.m17 false in
    λ i.
    record {
      m30 = switched s.m30 (d 0) i;
      m60 = switched s.m60 (d 1) i;
      m80 = switched s.m80 (d 2) i;
      m160 = switched s.m160 (d 3) i;
      m6 = switched s.m6 (d 4) i;
      m12 = switched s.m12 (d 5) i;
      m17 = switched s.m17 (d 6) i;
    }

-- the control bytes of C0 and four bytes more
abbrev pub control_from : ℕ → List ℕ → Control
control_from c0 l = record { c0 = c0; c1 = get_or l 0 0; c2 = get_or l 1 0; c3 = get_or l 2 0; c4 = get_or l 3 0 }

-- word 0's bytes, field by field
module _ (h : Host) where
  pub c1_field : (k : ℕ) → get_or (fields (2 ∷ 2 ∷ 1 ∷ 2 ∷ 1 ∷ []) (c1_of h)) k 0 ≡ get_or (speed_code h.speed ∷ source10_code h.source10 ∷ source122_code h.source122 ∷ boards_code h.boards ∷ microphone_code h.microphone ∷ []) k 0
  c1_field =
      field_back (2 ∷ 2 ∷ 1 ∷ 2 ∷ 1 ∷ []) (speed_code h.speed ∷ source10_code h.source10 ∷ source122_code h.source122 ∷ boards_code h.boards ∷ microphone_code h.microphone ∷ [])
      (speed_codes.fits h.speed, (source10_codes.fits (Ok h.source10), (source122_codes.fits h.source122, (boards_codes.fits h.boards, (microphone_codes.fits h.microphone, tt)))))

  c3_field : (k : ℕ) → get_or (fields (2 ∷ 1 ∷ 1 ∷ 1 ∷ 2 ∷ 1 ∷ []) (c3_of h)) k 0 ≡ get_or (attenuator_code h.attenuator ∷ flag h.preamp ∷ flag h.dither ∷ flag h.random ∷ antenna_code h.antenna ∷ flag h.rxout ∷ []) k 0
  c3_field =
      field_back (2 ∷ 1 ∷ 1 ∷ 1 ∷ 2 ∷ 1 ∷ []) (attenuator_code h.attenuator ∷ flag h.preamp ∷ flag h.dither ∷ flag h.random ∷ antenna_code h.antenna ∷ flag h.rxout ∷ [])
      (attenuator_codes.fits h.attenuator, (flag-fits h.preamp, (flag-fits h.dither, (flag-fits h.random, (antenna_codes.fits h.antenna, (flag-fits h.rxout, tt))))))

  module _ (range : InRange h) where
    c2_field : (k : ℕ) → get_or (fields (1 ∷ 7 ∷ []) (c2_of h)) k 0 ≡ get_or (flag h.classe ∷ h.outputs ∷ []) k 0
    c2_field = field_back (1 ∷ 7 ∷ []) (flag h.classe ∷ h.outputs ∷ []) (flag-fits h.classe, (omega arith, tt))

    pub c4_field : (k : ℕ) → get_or (fields (2 ∷ 1 ∷ 3 ∷ 1 ∷ 1 ∷ []) (c4_of h)) k 0 ≡ get_or (relay_code h.relay ∷ flag h.duplex ∷ (h.receivers - 1) ∷ flag h.timestamp ∷ flag h.common ∷ []) k 0
    c4_field =
        field_back (2 ∷ 1 ∷ 3 ∷ 1 ∷ 1 ∷ []) (relay_code h.relay ∷ flag h.duplex ∷ (h.receivers - 1) ∷ flag h.timestamp ∷ flag h.common ∷ [])
        (relay_codes.fits (Ok h.relay), (flag-fits h.duplex, (omega arith, (flag-fits h.timestamp, (flag-fits h.common, tt)))))

-- Word 0 from the bytes of a record: its fields, whatever record they are read into.
settings-back : (c0 : ℕ) (g h : Host) → InRange h → settings (heard 0 (control_from c0 (said 0 h)) g) ≡ settings h
unfolding heard said
settings-back c0 g h range =
    let b1 = c1_field h in
    let b2 = c2_field h range in
    let b3 = c3_field h in
    let b4 = c4_field h range in
    let receivers : h.receivers - 1 + 1 ≡ h.receivers = omega arith in
    λ i. (
      (ap speed_of (b1 0) ∙ speed_codes.back h.speed) i,
      ap (λ found. source10_or found g.source10) (ap source10_of (b1 1) ∙ source10_codes.back (Ok h.source10)) i,
      (ap source122_of (b1 2) ∙ source122_codes.back h.source122) i,
      (ap boards_of (b1 3) ∙ boards_codes.back h.boards) i,
      (ap microphone_of (b1 4) ∙ microphone_codes.back h.microphone) i,
      switched h.classe (b2 0) i,
      b2 1 i,
      (ap attenuator_of (b3 0) ∙ attenuator_codes.back h.attenuator) i,
      switched h.preamp (b3 1) i,
      switched h.dither (b3 2) i,
      switched h.random (b3 3) i,
      (ap antenna_of (b3 4) ∙ antenna_codes.back h.antenna) i,
      switched h.rxout (b3 5) i,
      ap (λ found. relay_or found g.relay) (ap relay_of (b4 0) ∙ relay_codes.back (Ok h.relay)) i,
      switched h.duplex (b4 1) i,
      (ap (λ n. n + 1) (b4 2) ∙ receivers) i,
      switched h.timestamp (b4 3) i,
      switched h.common (b4 4) i,
    )

-- word 10's C1 and C2, field by field
module _ (s : Front) where
  pub front_c1_field : (k : ℕ) → get_or (fields ones (front_c1 s)) k 0 ≡ get_or (flag s.preamp1 ∷ flag s.preamp2 ∷ flag s.preamp3 ∷ flag s.preamp4 ∷ jack_code s.jack ∷ flag s.bias ∷ flag s.pttdisabled ∷ 0 ∷ []) k 0
  front_c1_field =
      field_back ones (flag s.preamp1 ∷ flag s.preamp2 ∷ flag s.preamp3 ∷ flag s.preamp4 ∷ jack_code s.jack ∷ flag s.bias ∷ flag s.pttdisabled ∷ 0 ∷ [])
      (flag-fits s.preamp1, (flag-fits s.preamp2, (flag-fits s.preamp3, (flag-fits s.preamp4, (jack_codes.fits s.jack, (flag-fits s.bias, (flag-fits s.pttdisabled, (omega arith, tt))))))))

  front_c2_field : s.gain ≤ 31 → s.c2top ≤ 7 → (k : ℕ) → get_or (fields (5 ∷ 3 ∷ []) (front_c2 s)) k 0 ≡ get_or (s.gain ∷ s.c2top ∷ []) k 0
  front_c2_field low few = field_back (5 ∷ 3 ∷ []) (s.gain ∷ s.c2top ∷ []) (omega arith, (omega arith, tt))

front-back : (c0 : ℕ) (h : Host) → InRange h → front_of (control_from c0 (front_bytes h.front)) ≡ h.front
front-back c0 h range =
    let s = h.front in
    let b1 = front_c1_field s in
    let b2 = front_c2_field s range.gain range.top in
    λ i.
    record {
      preamp1 = switched s.preamp1 (b1 0) i;
      preamp2 = switched s.preamp2 (b1 1) i;
      preamp3 = switched s.preamp3 (b1 2) i;
      preamp4 = switched s.preamp4 (b1 3) i;
      jack = (ap jack_of (b1 4) ∙ jack_codes.back s.jack) i;
      bias = switched s.bias (b1 5) i;
      pttdisabled = switched s.pttdisabled (b1 6) i;
      gain = b2 0 i;
      c2top = b2 1 i;
      c3 = s.c3;
      c4 = s.c4;
    }

-- four bytes of a number that fits them
hertz-back : (c0 n : ℕ) → n < 2 ^ 32 → hertz (control_from c0 (bytes_of 4 n)) ≡ n
hertz-back c0 n fits = be-bytes_of 4 n ∙ mod-eq_of_lt fits

-- Reading the bytes of a word gives its fields back, whatever record they are read into.
pub word_back : (turn c0 : ℕ) (g h : Host) → Seven g → InRange h → Held h → Same turn (heard turn (control_from c0 (said turn h)) g) h
unfolding heard said
word_back turn c0 g h seven range held =
    record {
      zeroth = λ z. rw z (settings-back c0 g h range);
      first = λ z. rw z (hertz-back c0 h.transmitter held.transmitter);
      receiver = λ i small z.
          let at : turn - 2 ≡ i = omega arith in
          own_entry turn (control_from c0 (said turn h)) g i small z seven
          ∙ ap (λ l. hertz (control_from c0 l)) (said-frequency turn h (omega arith) (omega arith) ∙ ap (λ k. bytes_of 4 (get_or h.frequencies k 0)) at)
          ∙ hertz-back c0 (get_or h.frequencies i 0) (held.frequencies i);
      ninth = λ z. rw z (λ i. (h.drive, controls_back h.controls i, highpass_back h.highpass i, lowpass_back h.lowpass i));
      tenth = λ z. rw z (front-back c0 h range);
    }
