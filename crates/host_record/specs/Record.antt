-- Document 01, "Words from the host", and T-07: which word carries each field of the host record, and a fresh one. Assumes nothing.
use Rattle.std.specs.Prelude.{ℕ, ◌+◌, ◌<◌, Bool, false, ◌≡◌, get_or, length, replicate}
use Rattle.host_record.specs.declared.record.Host.{Host}
use Rattle.host_record.specs.declared.record.Controls.{Controls}
use Rattle.host_record.specs.declared.record.HighPass.{HighPass}
use Rattle.host_record.specs.declared.record.LowPass.{LowPass}
use Rattle.host_record.specs.declared.choices.Jack.{Jack}
use Rattle.host_record.specs.declared.choices.Speed.{Speed}
use Rattle.host_record.specs.declared.choices.Source10.{Source10}
use Rattle.host_record.specs.declared.choices.Source122.{Source122}
use Rattle.host_record.specs.declared.choices.Boards.{Boards}
use Rattle.host_record.specs.declared.choices.Microphone.{Microphone}
use Rattle.host_record.specs.declared.choices.Attenuator.{Attenuator}
use Rattle.host_record.specs.declared.choices.Antenna.{Antenna}
use Rattle.host_record.specs.declared.choices.Relay.{Relay}

-- word 0
abbrev pub settings : Host → Speed × Source10 × Source122 × Boards × Microphone × Bool × ℕ × Attenuator × Bool × Bool × Bool × Antenna × Bool × Relay × Bool × ℕ × Bool × Bool
settings h =
    (h.speed, h.source10, h.source122, h.boards, h.microphone, h.classe, h.outputs, h.attenuator, h.preamp, h.dither, h.random, h.antenna, h.rxout, h.relay, h.duplex, h.receivers, h.timestamp, h.common)

-- word 9
abbrev pub switches : Host → ℕ × Controls × HighPass × LowPass
switches h = (h.drive, h.controls, h.highpass, h.lowpass)

-- the fields of word w are the same in two records; an unlisted word has none
pub record Same (w : ℕ) (g h : Host) : Type 0 where
  pub zeroth : w ≡ 0 → settings g ≡ settings h
  pub first : w ≡ 1 → g.transmitter ≡ h.transmitter
  pub receiver : (i : ℕ) → i < 7 → w ≡ i + 2 → get_or g.frequencies i 0 ≡ get_or h.frequencies i 0
  pub ninth : w ≡ 9 → switches g ≡ switches h
  pub tenth : w ≡ 10 → g.front ≡ h.front

-- the array of seven frequencies, as the language holds it
abbrev pub Seven : Host → Type 0
Seven h = length h.frequencies ≡ 7

-- "what all-zero words give (one receiver)"
abbrev pub fresh : Host
fresh =
    record {
      mox = false;
      speed = Speed.Khz48;
      source10 = Source10.AtlasOrExcalibur;
      source122 = Source122.Penelope;
      boards = Boards.Neither;
      microphone = Microphone.Janus;
      classe = false;
      outputs = 0;
      attenuator = Attenuator.Db0;
      preamp = false;
      dither = false;
      random = false;
      antenna = Antenna.Unused;
      rxout = false;
      relay = Relay.Tx1;
      duplex = false;
      receivers = 1;
      timestamp = false;
      common = false;
      transmitter = 0;
      frequencies = replicate 7 0;
      drive = 0;
      controls = record { boost = false; linein = false; filter = false; tuner = false; tune = false; board = false; manual = false; vna = false };
      highpass = record { mhz13 = false; mhz20 = false; mhz9 = false; mhz6 = false; mhz1 = false; bypass = false; amplifier = false; trdisabled = false };
      lowpass = record { m30 = false; m60 = false; m80 = false; m160 = false; m6 = false; m12 = false; m17 = false };
      front = record { preamp1 = false; preamp2 = false; preamp3 = false; preamp4 = false; jack = Jack.PttToRing; bias = false; pttdisabled = false; gain = 0; c2top = 0; c3 = 0; c4 = 0 };
    }
