-- Nothing of a host record is lost in the door: the record that is left in the cells is the one that they are made of. A record's
-- numbers are below the widths of their fields, which a machine's record has by its types. Assumes nothing.
use mathlib.Core.Path.{◌≡◌, refl, sym, ap, ap₂, subst⁻¹, ◌∙◌}
use mathlib.Core.List.{List, [], ◌∷◌, ◌++◌}
use Prim.Native.Nat.{ℕ, suc, ◌%◌, ◌^◌, ◌<◌, ◌≤◌}
use native.Mathlib.Nat.{mod-eq_of_lt, le_trans}
use native.Mathlib.Omega.{arith}
use lib.ListN.{length, get_or, drop, set, take-append-drop}
use lib.Seq.{sets, take_all, drop-cons}
use Rattle.wire.specs.Lists.{tab}
use Rattle.wire.proofs.Lists.{tab-get_or}
use Rattle.host_record.specs.Choices.{speed_code, speed_of, source10_code, source122_code, source122_of, boards_code, boards_of, microphone_code, microphone_of, attenuator_code, attenuator_of, antenna_code, antenna_of, relay_code, jack_code, jack_of}
use Rattle.host_record.specs.Record.{Seven}
use Rattle.host_record.specs.declared.record.Host.{Host}
use Rattle.host_record.specs.declared.choices.Relay.{Relay}
use Rattle.host_record.specs.declared.choices.Source10.{Source10}
use Rattle.host_record.proofs.Codes.{ThereAndBack, speed_codes, source122_codes, boards_codes, microphone_codes, attenuator_codes, antenna_codes, jack_codes}
use Rattle.cells.proofs.Back.{flag_back, over}
use Rattle.host_cells.specs.Host.{host_count, host_cells}
use Rattle.host_from_cells.specs.FromCells.{host_of, builder_of, source10_of, relay_of}

-- a choice is the one at its code
choice_back : {A : Type 0} (count : ℕ) (code : A → ℕ) (choice : ℕ → A) → ThereAndBack count code choice → count ≤ 256 → (x : A) → choice (code x % 2 ^ 8) ≡ x
choice_back count code choice codes few x =
    let below : code x < 2 ^ 8 = le_trans (codes.fits x) few in ap choice (mod-eq_of_lt below) ∙ codes.back x

source10_back : (x : Source10) → source10_of (source10_code x) ≡ x
source10_back Source10.AtlasOrExcalibur = refl
source10_back Source10.Penelope = refl
source10_back Source10.Mercury = refl

relay_back : (x : Relay) → relay_of (relay_code x) ≡ x
relay_back Relay.Tx1 = refl
relay_back Relay.Tx2 = refl
relay_back Relay.Tx3 = refl

pub record HostFits (h : Host) : Type 0 where
  pub outputs : h.outputs < 256
  pub receivers : h.receivers < 256
  pub drive : h.drive < 256
  pub gain : h.front.gain < 256
  pub top : h.front.c2top < 256
  pub c3 : h.front.c3 < 256
  pub c4 : h.front.c4 < 256
  pub seven : Seven h

seven_back : (hz : List ℕ) → length hz ≡ 7 → get_or hz 0 0 ∷ get_or hz 1 0 ∷ get_or hz 2 0 ∷ get_or hz 3 0 ∷ get_or hz 4 0 ∷ get_or hz 5 0 ∷ get_or hz 6 0 ∷ [] ≡ hz
seven_back hz seven = tab-get_or 7 hz 0 (omega (arith, seven)) ∙ take_all 7 hz (omega (arith, seven))

pub host_back : (h : Host) (cells : List ℕ) → HostFits h → host_count ≤ length cells → host_of (sets cells 0 (host_cells h)) ≡ h
host_back h cells fits room = ap host_of (over (host_cells h) cells room) ∙ (λ i.
    record {
      mox = flag_back h.mox i;
      speed = choice_back 4 speed_code speed_of speed_codes (omega arith) h.speed i;
      source10 = source10_back h.source10 i;
      source122 = choice_back 2 source122_code source122_of source122_codes (omega arith) h.source122 i;
      boards = choice_back 4 boards_code boards_of boards_codes (omega arith) h.boards i;
      microphone = choice_back 2 microphone_code microphone_of microphone_codes (omega arith) h.microphone i;
      classe = flag_back h.classe i;
      outputs = mod-eq_of_lt fits.outputs i;
      attenuator = choice_back 4 attenuator_code attenuator_of attenuator_codes (omega arith) h.attenuator i;
      preamp = flag_back h.preamp i;
      dither = flag_back h.dither i;
      random = flag_back h.random i;
      antenna = choice_back 4 antenna_code antenna_of antenna_codes (omega arith) h.antenna i;
      rxout = flag_back h.rxout i;
      relay = relay_back h.relay i;
      duplex = flag_back h.duplex i;
      receivers = mod-eq_of_lt fits.receivers i;
      timestamp = flag_back h.timestamp i;
      common = flag_back h.common i;
      transmitter = h.transmitter;
      frequencies = seven_back h.frequencies fits.seven i;
      drive = mod-eq_of_lt fits.drive i;
      controls = record { boost = flag_back h.controls.boost i; linein = flag_back h.controls.linein i; filter = flag_back h.controls.filter i; tuner = flag_back h.controls.tuner i; tune = flag_back h.controls.tune i; board = flag_back h.controls.board i; manual = flag_back h.controls.manual i; vna = flag_back h.controls.vna i };
      highpass = record { mhz13 = flag_back h.highpass.mhz13 i; mhz20 = flag_back h.highpass.mhz20 i; mhz9 = flag_back h.highpass.mhz9 i; mhz6 = flag_back h.highpass.mhz6 i; mhz1 = flag_back h.highpass.mhz1 i; bypass = flag_back h.highpass.bypass i; amplifier = flag_back h.highpass.amplifier i; trdisabled = flag_back h.highpass.trdisabled i };
      lowpass = record { m30 = flag_back h.lowpass.m30 i; m60 = flag_back h.lowpass.m60 i; m80 = flag_back h.lowpass.m80 i; m160 = flag_back h.lowpass.m160 i; m6 = flag_back h.lowpass.m6 i; m12 = flag_back h.lowpass.m12 i; m17 = flag_back h.lowpass.m17 i };
      front = record {
        preamp1 = flag_back h.front.preamp1 i;
        preamp2 = flag_back h.front.preamp2 i;
        preamp3 = flag_back h.front.preamp3 i;
        preamp4 = flag_back h.front.preamp4 i;
        jack = choice_back 2 jack_code jack_of jack_codes (omega arith) h.front.jack i;
        bias = flag_back h.front.bias i;
        pttdisabled = flag_back h.front.pttdisabled i;
        gain = mod-eq_of_lt fits.gain i;
        c2top = mod-eq_of_lt fits.top i;
        c3 = mod-eq_of_lt fits.c3 i;
        c4 = mod-eq_of_lt fits.c4 i;
      };
    })

-- a build writes the turn's cell alone: the host record that the cells are is the one that it was
pub builder_back : (cells : List ℕ) (turn : ℕ) → turn < 256 → suc host_count ≤ length cells → builder_of (set cells host_count turn) ≡ record { host = host_of cells; turn = turn }
builder_back cells turn fits room =
    let first = tab host_count (λ k. get_or cells k 0) in
    let last = get_or cells host_count 0 ∷ drop (suc host_count) cells in
    let parted : cells ≡ first ++ last =
    sym (take-append-drop host_count cells) ∙ ap₂ ◌++◌ (sym (tab-get_or host_count cells 0 (omega arith))) (drop-cons cells host_count 0 (omega arith)) in
    subst⁻¹ (λ (l : List ℕ). builder_of (set l host_count turn) ≡ record { host = host_of l; turn = turn }) parted
    (λ i. record { host = host_of (first ++ last); turn = mod-eq_of_lt fits i })
