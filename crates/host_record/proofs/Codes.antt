-- A choice and its code, there and back: one law, and that each of the nine choices keeps it. Assumes nothing.
use mathlib.Core.Path.{◌≡◌, refl, ◌∙◌}
use Prim.Native.Nat.{ℕ, zero, suc, ◌<◌}
use native.Mathlib.Omega.{arith}
use Rattle.std.specs.Prelude.{Result, Ok, Err}
use Rattle.wire.specs.Choice.{four, two}
use Rattle.host_record.specs.Choices.{no_choice, speed_code, speed_of, found_source10_code, source10_of, source122_code, source122_of, boards_code, boards_of, microphone_code, microphone_of, attenuator_code, attenuator_of, antenna_code, antenna_of, found_relay_code, relay_of, jack_code, jack_of}
use Rattle.host_record.specs.declared.choices.Speed.{Speed}
use Rattle.host_record.specs.declared.choices.Source10.{Source10}
use Rattle.host_record.specs.declared.choices.Source122.{Source122}
use Rattle.host_record.specs.declared.choices.Boards.{Boards}
use Rattle.host_record.specs.declared.choices.Microphone.{Microphone}
use Rattle.host_record.specs.declared.choices.Attenuator.{Attenuator}
use Rattle.host_record.specs.declared.choices.Antenna.{Antenna}
use Rattle.host_record.specs.declared.choices.Relay.{Relay}
use Rattle.host_record.specs.declared.choices.Unassigned.{Unassigned}
use Rattle.host_record.specs.declared.choices.Jack.{Jack}

-- `count` codes, each the code of the choice that it names, and each choice named by its code
pub record ThereAndBack {A : Type 0} (count : ℕ) (code : A → ℕ) (choice : ℕ → A) : Type 0 where
  pub fits : (x : A) → code x < count
  pub back : (x : A) → choice (code x) ≡ x
  pub again : (n : ℕ) → n < count → code (choice n) ≡ n

-- a table of choices keeps the law if each choice stands at its own code
module _ {A : Type 0} (code : A → ℕ) where
  four-choices : (a b c d : A) → code a ≡ 0 → code b ≡ 1 → code c ≡ 2 → code d ≡ 3 → ((x : A) → (code x < 4) × (four a b c d (code x) ≡ x)) → ThereAndBack 4 code (four a b c d)
  four-choices a b c d p q r s named = record { fits = λ x. (named x).0; back = λ x. (named x).1; again = each }
    where
      each : (n : ℕ) → n < 4 → code (four a b c d n) ≡ n
      each zero h = p
      each (suc zero) h = q
      each (suc (suc zero)) h = r
      each (suc (suc (suc n))) h = s ∙ omega arith

  two-choices : (a b : A) → code a ≡ 0 → code b ≡ 1 → ((x : A) → (code x < 2) × (two a b (code x) ≡ x)) → ThereAndBack 2 code (two a b)
  two-choices a b p q named = record { fits = λ x. (named x).0; back = λ x. (named x).1; again = each }
    where
      each : (n : ℕ) → n < 2 → code (two a b n) ≡ n
      each zero h = p
      each (suc n) h = q ∙ omega arith

pub speed_codes : ThereAndBack 4 speed_code speed_of
speed_codes = four-choices speed_code Speed.Khz48 Speed.Khz96 Speed.Khz192 Speed.Khz384 refl refl refl refl named
  where
    named : (x : Speed) → (speed_code x < 4) × (speed_of (speed_code x) ≡ x)
    named Speed.Khz48 = (omega arith, refl)
    named Speed.Khz96 = (omega arith, refl)
    named Speed.Khz192 = (omega arith, refl)
    named Speed.Khz384 = (omega arith, refl)

pub source10_codes : ThereAndBack 4 found_source10_code source10_of
source10_codes = four-choices found_source10_code (Ok Source10.AtlasOrExcalibur) (Ok Source10.Penelope) (Ok Source10.Mercury) (Err no_choice) refl refl refl refl named
  where
    named : (x : Result Source10 Unassigned) → (found_source10_code x < 4) × (source10_of (found_source10_code x) ≡ x)
    named (Ok Source10.AtlasOrExcalibur) = (omega arith, refl)
    named (Ok Source10.Penelope) = (omega arith, refl)
    named (Ok Source10.Mercury) = (omega arith, refl)
    named (Err none) = (omega arith, refl)

pub source122_codes : ThereAndBack 2 source122_code source122_of
source122_codes = two-choices source122_code Source122.Penelope Source122.Mercury refl refl named
  where
    named : (x : Source122) → (source122_code x < 2) × (source122_of (source122_code x) ≡ x)
    named Source122.Penelope = (omega arith, refl)
    named Source122.Mercury = (omega arith, refl)

pub boards_codes : ThereAndBack 4 boards_code boards_of
boards_codes = four-choices boards_code Boards.Neither Boards.Penelope Boards.Mercury Boards.Both refl refl refl refl named
  where
    named : (x : Boards) → (boards_code x < 4) × (boards_of (boards_code x) ≡ x)
    named Boards.Neither = (omega arith, refl)
    named Boards.Penelope = (omega arith, refl)
    named Boards.Mercury = (omega arith, refl)
    named Boards.Both = (omega arith, refl)

pub microphone_codes : ThereAndBack 2 microphone_code microphone_of
microphone_codes = two-choices microphone_code Microphone.Janus Microphone.Penelope refl refl named
  where
    named : (x : Microphone) → (microphone_code x < 2) × (microphone_of (microphone_code x) ≡ x)
    named Microphone.Janus = (omega arith, refl)
    named Microphone.Penelope = (omega arith, refl)

pub attenuator_codes : ThereAndBack 4 attenuator_code attenuator_of
attenuator_codes = four-choices attenuator_code Attenuator.Db0 Attenuator.Db10 Attenuator.Db20 Attenuator.Db30 refl refl refl refl named
  where
    named : (x : Attenuator) → (attenuator_code x < 4) × (attenuator_of (attenuator_code x) ≡ x)
    named Attenuator.Db0 = (omega arith, refl)
    named Attenuator.Db10 = (omega arith, refl)
    named Attenuator.Db20 = (omega arith, refl)
    named Attenuator.Db30 = (omega arith, refl)

pub antenna_codes : ThereAndBack 4 antenna_code antenna_of
antenna_codes = four-choices antenna_code Antenna.Unused Antenna.Rx1 Antenna.Rx2 Antenna.Xv refl refl refl refl named
  where
    named : (x : Antenna) → (antenna_code x < 4) × (antenna_of (antenna_code x) ≡ x)
    named Antenna.Unused = (omega arith, refl)
    named Antenna.Rx1 = (omega arith, refl)
    named Antenna.Rx2 = (omega arith, refl)
    named Antenna.Xv = (omega arith, refl)

pub relay_codes : ThereAndBack 4 found_relay_code relay_of
relay_codes = four-choices found_relay_code (Ok Relay.Tx1) (Ok Relay.Tx2) (Ok Relay.Tx3) (Err no_choice) refl refl refl refl named
  where
    named : (x : Result Relay Unassigned) → (found_relay_code x < 4) × (relay_of (found_relay_code x) ≡ x)
    named (Ok Relay.Tx1) = (omega arith, refl)
    named (Ok Relay.Tx2) = (omega arith, refl)
    named (Ok Relay.Tx3) = (omega arith, refl)
    named (Err none) = (omega arith, refl)

pub jack_codes : ThereAndBack 2 jack_code jack_of
jack_codes = two-choices jack_code Jack.PttToRing Jack.PttToTip refl refl named
  where
    named : (x : Jack) → (jack_code x < 2) × (jack_of (jack_code x) ≡ x)
    named Jack.PttToRing = (omega arith, refl)
    named Jack.PttToTip = (omega arith, refl)

-- document 01's eight named choices, and T-07's
pub there_and_back : ThereAndBack 4 speed_code speed_of × ThereAndBack 4 found_source10_code source10_of × ThereAndBack 2 source122_code source122_of × ThereAndBack 4 boards_code boards_of × ThereAndBack 2 microphone_code microphone_of × ThereAndBack 4 attenuator_code attenuator_of × ThereAndBack 4 antenna_code antenna_of × ThereAndBack 4 found_relay_code relay_of × ThereAndBack 2 jack_code jack_of
there_and_back = (speed_codes, source10_codes, source122_codes, boards_codes, microphone_codes, attenuator_codes, antenna_codes, relay_codes, jack_codes)
