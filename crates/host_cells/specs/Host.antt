-- The host record as 62 cells, in the order of its fields. Assumes nothing.
use Rattle.std.specs.Prelude.{ℕ, List, [], ◌∷◌, ◌++◌, get_or}
use Rattle.host_record.specs.Choices.{speed_code, source10_code, source122_code, boards_code, microphone_code, attenuator_code, antenna_code, relay_code, jack_code}
use Rattle.host_record.specs.declared.record.Controls.{Controls}
use Rattle.host_record.specs.declared.record.Front.{Front}
use Rattle.host_record.specs.declared.record.HighPass.{HighPass}
use Rattle.host_record.specs.declared.record.Host.{Host}
use Rattle.host_record.specs.declared.record.LowPass.{LowPass}
use Rattle.cells.specs.Cells.{cell_of}

-- the number of its cells, and so the place of the turn after them
abbrev pub host_count : ℕ
host_count = 62

-- the codes of the named choices
pub record Codes : Type 0 where
  pub speed : ℕ
  pub source10 : ℕ
  pub source122 : ℕ
  pub boards : ℕ
  pub microphone : ℕ
  pub attenuator : ℕ
  pub antenna : ℕ
  pub relay : ℕ
  pub jack : ℕ

abbrev pub codes_of : Host → Codes
codes_of h =
    record {
      speed = speed_code h.speed;
      source10 = source10_code h.source10;
      source122 = source122_code h.source122;
      boards = boards_code h.boards;
      microphone = microphone_code h.microphone;
      attenuator = attenuator_code h.attenuator;
      antenna = antenna_code h.antenna;
      relay = relay_code h.relay;
      jack = jack_code h.front.jack;
    }

abbrev pub word0_cells : Host → Codes → ℕ → ℕ → List ℕ
word0_cells h k outputs receivers =
    cell_of h.mox ∷ k.speed ∷ k.source10 ∷ k.source122 ∷ k.boards ∷ k.microphone ∷ cell_of h.classe ∷ outputs
    ∷ k.attenuator ∷ cell_of h.preamp ∷ cell_of h.dither ∷ cell_of h.random ∷ k.antenna ∷ cell_of h.rxout
    ∷ k.relay ∷ cell_of h.duplex ∷ receivers ∷ cell_of h.timestamp ∷ cell_of h.common ∷ []

-- the frequencies, and the drive after them
abbrev pub tuned_cells : Host → List ℕ
tuned_cells h =
    h.transmitter ∷ get_or h.frequencies 0 0 ∷ get_or h.frequencies 1 0 ∷ get_or h.frequencies 2 0 ∷ get_or h.frequencies 3 0
    ∷ get_or h.frequencies 4 0 ∷ get_or h.frequencies 5 0 ∷ get_or h.frequencies 6 0 ∷ h.drive ∷ []

abbrev pub word9_cells : Controls → HighPass → LowPass → List ℕ
word9_cells c hp lp =
    cell_of c.boost ∷ cell_of c.linein ∷ cell_of c.filter ∷ cell_of c.tuner ∷ cell_of c.tune ∷ cell_of c.board ∷ cell_of c.manual ∷ cell_of c.vna
    ∷ cell_of hp.mhz13 ∷ cell_of hp.mhz20 ∷ cell_of hp.mhz9 ∷ cell_of hp.mhz6 ∷ cell_of hp.mhz1 ∷ cell_of hp.bypass ∷ cell_of hp.amplifier ∷ cell_of hp.trdisabled
    ∷ cell_of lp.m30 ∷ cell_of lp.m60 ∷ cell_of lp.m80 ∷ cell_of lp.m160 ∷ cell_of lp.m6 ∷ cell_of lp.m12 ∷ cell_of lp.m17 ∷ []

abbrev pub word10_cells : Front → ℕ → List ℕ
word10_cells f jack =
    cell_of f.preamp1 ∷ cell_of f.preamp2 ∷ cell_of f.preamp3 ∷ cell_of f.preamp4 ∷ jack ∷ cell_of f.bias ∷ cell_of f.pttdisabled
    ∷ f.gain ∷ f.c2top ∷ f.c3 ∷ f.c4 ∷ []

abbrev pub host_cells : Host → List ℕ
host_cells h =
    word0_cells h (codes_of h) h.outputs h.receivers
    ++ tuned_cells h
    ++ word9_cells h.controls h.highpass h.lowpass
    ++ word10_cells h.front (codes_of h).jack
