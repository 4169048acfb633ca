-- The host record that 62 cells are, in the order of its fields, and the builder that those and its turn are. Assumes nothing.
use Rattle.std.specs.Prelude.{ℕ, zero, suc, ◌^◌, ◌-◌, cond, List, [], ◌∷◌, ◌++◌, leb, length, get_or}
use Rattle.host.specs.Build.{fresh_builder}
use Rattle.host_record.specs.Choices.{speed_of, source122_of, boards_of, microphone_of, attenuator_of, antenna_of, jack_of}
use Rattle.host_record.specs.Record.{fresh}
use Rattle.host.specs.declared.Builder.{Builder}
use Rattle.host_record.specs.declared.record.Controls.{Controls}
use Rattle.host_record.specs.declared.record.Front.{Front}
use Rattle.host_record.specs.declared.record.HighPass.{HighPass}
use Rattle.host_record.specs.declared.record.Host.{Host}
use Rattle.host_record.specs.declared.choices.Jack.{Jack}
use Rattle.host_record.specs.declared.record.LowPass.{LowPass}
use Rattle.host_record.specs.declared.choices.Relay.{Relay}
use Rattle.host_record.specs.declared.choices.Source10.{Source10}
use Rattle.host_record.specs.declared.choices.Antenna.{Antenna}
use Rattle.host_record.specs.declared.choices.Attenuator.{Attenuator}
use Rattle.host_record.specs.declared.choices.Boards.{Boards}
use Rattle.host_record.specs.declared.choices.Microphone.{Microphone}
use Rattle.host_record.specs.declared.choices.Source122.{Source122}
use Rattle.host_record.specs.declared.choices.Speed.{Speed}
use Rattle.cells.specs.Cells.{flag, number}
use Rattle.host_cells.specs.Host.{host_count}

-- the most that a frequency can be
abbrev pub any : ℕ
any = 2 ^ 32 - 1

abbrev pub host_most : List ℕ
host_most =
    1 ∷ 3 ∷ 2 ∷ 1 ∷ 3 ∷ 1 ∷ 1 ∷ 255 ∷ 3 ∷ 1 ∷ 1 ∷ 1 ∷ 3 ∷ 1 ∷ 2 ∷ 1 ∷ 255 ∷ 1 ∷ 1
    ∷ any ∷ any ∷ any ∷ any ∷ any ∷ any ∷ any ∷ any ∷ 255
    ∷ 1 ∷ 1 ∷ 1 ∷ 1 ∷ 1 ∷ 1 ∷ 1 ∷ 1 ∷ 1 ∷ 1 ∷ 1 ∷ 1 ∷ 1 ∷ 1 ∷ 1 ∷ 1 ∷ 1 ∷ 1 ∷ 1 ∷ 1 ∷ 1 ∷ 1 ∷ 1
    ∷ 1 ∷ 1 ∷ 1 ∷ 1 ∷ 1 ∷ 1 ∷ 1 ∷ 255 ∷ 255 ∷ 255 ∷ 255 ∷ []

abbrev pub builder_most : List ℕ
builder_most = host_most ++ (255 ∷ [])

-- the choice at a code, of three in the order of their codes
abbrev pub three : {A : Type 0} → A → A → A → ℕ → A
three a b c zero = a
three a b c (suc zero) = b
three a b c (suc (suc n)) = c

abbrev pub source10_of : ℕ → Source10
source10_of = three Source10.AtlasOrExcalibur Source10.Penelope Source10.Mercury

abbrev pub relay_of : ℕ → Relay
relay_of = three Relay.Tx1 Relay.Tx2 Relay.Tx3

abbrev pub controls_of : List ℕ → Controls
controls_of cs = record { boost = flag cs 28; linein = flag cs 29; filter = flag cs 30; tuner = flag cs 31; tune = flag cs 32; board = flag cs 33; manual = flag cs 34; vna = flag cs 35 }

abbrev pub highpass_of : List ℕ → HighPass
highpass_of cs = record { mhz13 = flag cs 36; mhz20 = flag cs 37; mhz9 = flag cs 38; mhz6 = flag cs 39; mhz1 = flag cs 40; bypass = flag cs 41; amplifier = flag cs 42; trdisabled = flag cs 43 }

abbrev pub lowpass_of : List ℕ → LowPass
lowpass_of cs = record { m30 = flag cs 44; m60 = flag cs 45; m80 = flag cs 46; m160 = flag cs 47; m6 = flag cs 48; m12 = flag cs 49; m17 = flag cs 50 }

abbrev pub front_of : List ℕ → Jack → Front
front_of cs jack =
    record {
      preamp1 = flag cs 51;
      preamp2 = flag cs 52;
      preamp3 = flag cs 53;
      preamp4 = flag cs 54;
      jack = jack;
      bias = flag cs 56;
      pttdisabled = flag cs 57;
      gain = number 8 cs 58;
      c2top = number 8 cs 59;
      c3 = number 8 cs 60;
      c4 = number 8 cs 61;
    }

-- the named choices
pub record Choices : Type 0 where
  pub speed : Speed
  pub source10 : Source10
  pub source122 : Source122
  pub boards : Boards
  pub microphone : Microphone
  pub attenuator : Attenuator
  pub antenna : Antenna
  pub relay : Relay
  pub jack : Jack

abbrev pub choices_of : List ℕ → Choices
choices_of cs =
    record {
      speed = speed_of (number 8 cs 1);
      source10 = source10_of (get_or cs 2 0);
      source122 = source122_of (number 8 cs 3);
      boards = boards_of (number 8 cs 4);
      microphone = microphone_of (number 8 cs 5);
      attenuator = attenuator_of (number 8 cs 8);
      antenna = antenna_of (number 8 cs 12);
      relay = relay_of (get_or cs 14 0);
      jack = jack_of (number 8 cs 55);
    }

abbrev pub host_with : List ℕ → Choices → Controls → HighPass → LowPass → Front → Host
host_with cs chosen controls highpass lowpass front =
    record {
      mox = flag cs 0;
      speed = chosen.speed;
      source10 = chosen.source10;
      source122 = chosen.source122;
      boards = chosen.boards;
      microphone = chosen.microphone;
      classe = flag cs 6;
      outputs = number 8 cs 7;
      attenuator = chosen.attenuator;
      preamp = flag cs 9;
      dither = flag cs 10;
      random = flag cs 11;
      antenna = chosen.antenna;
      rxout = flag cs 13;
      relay = chosen.relay;
      duplex = flag cs 15;
      receivers = number 8 cs 16;
      timestamp = flag cs 17;
      common = flag cs 18;
      transmitter = get_or cs 19 0;
      frequencies = get_or cs 20 0 ∷ get_or cs 21 0 ∷ get_or cs 22 0 ∷ get_or cs 23 0 ∷ get_or cs 24 0 ∷ get_or cs 25 0 ∷ get_or cs 26 0 ∷ [];
      drive = number 8 cs 27;
      controls = controls;
      highpass = highpass;
      lowpass = lowpass;
      front = front;
    }

abbrev pub host_of : List ℕ → Host
host_of cs = host_with cs (choices_of cs) (controls_of cs) (highpass_of cs) (lowpass_of cs) (front_of cs (choices_of cs).jack)

-- the record that the first cells are; too few of them give a fresh one
unfoldable pub host_in : List ℕ → Host
host_in cs = cond (leb host_count (length cs)) (host_of cs) fresh

abbrev pub builder_of : List ℕ → Builder
builder_of cs = record { host = host_of cs; turn = number 8 cs host_count }

-- the builder that the first cells are, likewise
unfoldable pub builder_in : List ℕ → Builder
builder_in cs = cond (leb (suc host_count) (length cs)) (builder_of cs) fresh_builder
