-- Document 01, "Words from the host", and T-07: the named choices, each with its code, and the way back from a code. Assumes nothing.
use Rattle.std.specs.Prelude.{ℕ, Result, Ok, Err}
use Rattle.wire.specs.Choice.{four, two}
use Rattle.host_record.specs.declared.choices.Speed.{Speed}
use Rattle.host_record.specs.declared.choices.Source10.{Source10}
use Rattle.host_record.specs.declared.choices.Source122.{Source122}
use Rattle.host_record.specs.declared.choices.Boards.{Boards}
use Rattle.host_record.specs.declared.choices.Microphone.{Microphone}
use Rattle.host_record.specs.declared.choices.Attenuator.{Attenuator}
use Rattle.host_record.specs.declared.choices.Antenna.{Antenna}
use Rattle.host_record.specs.declared.choices.Relay.{Relay}
use Rattle.host_record.specs.declared.choices.Jack.{Jack}
use Rattle.host_record.specs.declared.choices.Unassigned.{Unassigned}

-- a code that names no choice
abbrev pub no_choice : Unassigned
no_choice = record {}

-- "speed 48/96/192/384 kHz (codes 0 to 3)"
abbrev pub speed_code : Speed → ℕ
speed_code Speed.Khz48 = 0
speed_code Speed.Khz96 = 1
speed_code Speed.Khz192 = 2
speed_code Speed.Khz384 = 3

abbrev pub speed_of : ℕ → Speed
speed_of = four Speed.Khz48 Speed.Khz96 Speed.Khz192 Speed.Khz384

-- "10 MHz source (Atlas or Excalibur, Penelope, Mercury; code 3 unassigned)"
abbrev pub source10_code : Source10 → ℕ
source10_code Source10.AtlasOrExcalibur = 0
source10_code Source10.Penelope = 1
source10_code Source10.Mercury = 2

abbrev pub source10_of : ℕ → Result Source10 Unassigned
source10_of = four (Ok Source10.AtlasOrExcalibur) (Ok Source10.Penelope) (Ok Source10.Mercury) (Err no_choice)

-- a code as it was found, the unassigned one among them
abbrev pub found_source10_code : Result Source10 Unassigned → ℕ
found_source10_code (Ok source) = source10_code source
found_source10_code (Err none) = 3

abbrev pub source122_code : Source122 → ℕ
source122_code Source122.Penelope = 0
source122_code Source122.Mercury = 1

abbrev pub source122_of : ℕ → Source122
source122_of = two Source122.Penelope Source122.Mercury

abbrev pub boards_code : Boards → ℕ
boards_code Boards.Neither = 0
boards_code Boards.Penelope = 1
boards_code Boards.Mercury = 2
boards_code Boards.Both = 3

abbrev pub boards_of : ℕ → Boards
boards_of = four Boards.Neither Boards.Penelope Boards.Mercury Boards.Both

abbrev pub microphone_code : Microphone → ℕ
microphone_code Microphone.Janus = 0
microphone_code Microphone.Penelope = 1

abbrev pub microphone_of : ℕ → Microphone
microphone_of = two Microphone.Janus Microphone.Penelope

-- "Alex attenuator 0/10/20/30 dB"
abbrev pub attenuator_code : Attenuator → ℕ
attenuator_code Attenuator.Db0 = 0
attenuator_code Attenuator.Db10 = 1
attenuator_code Attenuator.Db20 = 2
attenuator_code Attenuator.Db30 = 3

abbrev pub attenuator_of : ℕ → Attenuator
attenuator_of = four Attenuator.Db0 Attenuator.Db10 Attenuator.Db20 Attenuator.Db30

abbrev pub antenna_code : Antenna → ℕ
antenna_code Antenna.Unused = 0
antenna_code Antenna.Rx1 = 1
antenna_code Antenna.Rx2 = 2
antenna_code Antenna.Xv = 3

abbrev pub antenna_of : ℕ → Antenna
antenna_of = four Antenna.Unused Antenna.Rx1 Antenna.Rx2 Antenna.Xv

-- "transmit relay Tx1 to Tx3 (code 3 unassigned)"
abbrev pub relay_code : Relay → ℕ
relay_code Relay.Tx1 = 0
relay_code Relay.Tx2 = 1
relay_code Relay.Tx3 = 2

abbrev pub relay_of : ℕ → Result Relay Unassigned
relay_of = four (Ok Relay.Tx1) (Ok Relay.Tx2) (Ok Relay.Tx3) (Err no_choice)

abbrev pub found_relay_code : Result Relay Unassigned → ℕ
found_relay_code (Ok relay) = relay_code relay
found_relay_code (Err none) = 3

-- T-07, "the Orion tip and ring choice"; document 001 has its codes: 0 is PTT to ring and microphone to tip, 1 the reverse
abbrev pub jack_code : Jack → ℕ
jack_code Jack.PttToRing = 0
jack_code Jack.PttToTip = 1

abbrev pub jack_of : ℕ → Jack
jack_of = two Jack.PttToRing Jack.PttToTip
