-- Two records that are the same in every word, and in MOX, are the same; and each word's sameness passes on. Assumes nothing.
use mathlib.Core.Path.{◌≡◌, refl, sym, ◌∙◌}
use Prim.Native.Nat.{ℕ, ◌+◌, ◌<◌, ◌≤◌}
use native.Mathlib.Omega.{arith}
use lib.Seq.{ext_get_or}
use Rattle.host_record.specs.Record.{Same, Seven}
use Rattle.host_words.specs.Words.{last_word}
use Rattle.host_record.specs.declared.record.Host.{Host}

pub same_same : {w : ℕ} {f g h : Host} → Same w f g → Same w g h → Same w f h
same_same p q =
    record {
      zeroth = λ z. p.zeroth z ∙ q.zeroth z;
      first = λ z. p.first z ∙ q.first z;
      receiver = λ i small z. p.receiver i small z ∙ q.receiver i small z;
      ninth = λ z. p.ninth z ∙ q.ninth z;
      tenth = λ z. p.tenth z ∙ q.tenth z;
    }

module _ (g h : Host) where
  frequencies-same : Seven g → Seven h → ((w : ℕ) → w ≤ last_word → Same w g h) → g.frequencies ≡ h.frequencies
  frequencies-same long-g long-h same =
      ext_get_or 0 g.frequencies h.frequencies (long-g ∙ sym long-h)
      (λ i below. let small : i < 7 = omega arith in (same (i + 2) (omega arith)).receiver i small refl)

  pub wholly_same : g.mox ≡ h.mox → Seven g → Seven h → ((w : ℕ) → w ≤ last_word → Same w g h) → g ≡ h
  wholly_same keyed long-g long-h same =
      let s = (same 0 (omega arith)).zeroth refl in
      let t = (same 1 (omega arith)).first refl in
      let r = frequencies-same long-g long-h same in
      let n = (same 9 (omega arith)).ninth refl in
      let f = (same 10 (omega arith)).tenth refl in
      λ i.
      record {
        mox = keyed i;
        speed = (s i).0;
        source10 = (s i).1;
        source122 = (s i).2;
        boards = (s i).3;
        microphone = (s i).4;
        classe = (s i).5;
        outputs = (s i).6;
        attenuator = (s i).7;
        preamp = (s i).8;
        dither = (s i).9;
        random = (s i).10;
        antenna = (s i).11;
        rxout = (s i).12;
        relay = (s i).13;
        duplex = (s i).14;
        receivers = (s i).15;
        timestamp = (s i).16;
        common = (s i).17;
        transmitter = t i;
        frequencies = r i;
        drive = (n i).0;
        controls = (n i).1;
        highpass = (n i).2;
        lowpass = (n i).3;
        front = f i;
      }
