-- What a call that reads a frame returns tells the answer of document 01's read, its place, and the word's address. Assumes nothing.
use mathlib.Core.Path.{◌≡◌, refl, ap, subst⁻¹, ◌∙◌}
use mathlib.Core.Bool.{true}
use mathlib.Core.List.{List}
use Prim.Native.Nat.{ℕ, ◌<◌}
use native.Mathlib.Omega.{arith}
use borrow.Author.Tests.{eqb-true, eqb-false}
use lib.Dec.{eqb}
use lib.IntN.{ℤ}
use lib.ListN.{length}
use Rattle.wire.specs.Answers.{accepts, first, number_of}
use Rattle.wire.proofs.Cases.{by_test}
use Rattle.wire.proofs.First.{accepts-only, only_accepted}
use Rattle.radio_status.specs.Words.{word_number, address}
use Rattle.radio_status.specs.declared.record.Status.{Status}
use Rattle.radio_status.proofs.Carries.{word_addressed}
use Rattle.radio.specs.Read as Radio
use Rattle.radio.proofs.Cases as radio
use Rattle.host.specs.Read as Host
use Rattle.host.proofs.ReadCases as host
use Rattle.host_door.specs.HostCalls as door-host
use Rattle.host_door.proofs.HostCases as host-cases
use Rattle.host_from_cells.specs.FromCells.{host_most, host_of}
use Rattle.radio_door.specs.Radio as door-radio
use Rattle.radio_door.specs.Status.{status_most, status_of}
use Rattle.radio_door.proofs.RadioCases as radio-cases
use Rattle.cells.specs.Cells.{within, Tells}
use Rattle.cells.proofs.Parts.{three_parts}

module _ (frame : List ℕ) (n : ℕ) (iq mic : List ℤ) where
  address_few : (s : Status) → word_number (Radio.read_of frame n iq mic s).reading.word < 256
  address_few s =
      let answer = Radio.answer_of frame n (length iq) (length mic) in
      by_test (accepts answer)
      (λ is.
      let taken = ap (λ (o : Radio.Outcome). word_number o.reading.word) (radio.read_taken frame n iq mic s (accepts-only answer is)) ∙ word_addressed (address (Radio.byte frame 3)) (Radio.byte frame 4) (Radio.byte frame 5) (Radio.byte frame 6) (Radio.byte frame 7) in
      omega (arith, taken))
      (λ isn't. let none = ap (λ (o : Radio.Outcome). word_number o.reading.word) (radio.read-refused frame n iq mic s answer refl isn't) in omega (arith, none))

  pub radio_read_tells : (cells : List ℕ) → within status_most cells ≡ true → Tells (door-radio.radio_read_of frame n iq mic cells).number (Radio.read_of frame n iq mic (status_of cells)).reading.answer (word_number (Radio.read_of frame n iq mic (status_of cells)).reading.word)
  radio_read_tells cells record-held =
      let read = (Radio.read_of frame n iq mic (status_of cells)).reading in
      subst⁻¹ (λ (k : ℕ). Tells k read.answer (word_number read.word)) (ap (λ (o : door-radio.Outcome). o.number) (radio-cases.read_good frame n iq mic cells record-held)) (three_parts read.answer (word_number read.word) (address_few (status_of cells)))

module _ (frame : List ℕ) (audio : List ℤ) (cells : List ℕ) (record-held : within host_most cells ≡ true) where
  abbrev heard : Host.Outcome
  heard = Host.read_of frame audio (host_of cells)

  host_address_few : heard.address < 256
  host_address_few =
      let answer = first (Host.refusals frame (length audio)) in
      by_test (eqb (number_of answer) 0)
      (λ is. let taken = ap (λ (o : Host.Outcome). o.address) (host.read_accepted frame audio (host_of cells) (only_accepted answer (eqb-true _ 0 is))) in omega (arith, taken))
      (λ isn't. let none = ap (λ (o : Host.Outcome). o.address) (host.read-refused frame audio (host_of cells) (eqb-false _ 0 isn't)) in omega (arith, none))

  pub host_read_tells : Tells (door-host.host_read_of frame audio cells).number heard.answer heard.address
  host_read_tells =
      subst⁻¹ (λ (k : ℕ). Tells k heard.answer heard.address) (ap (λ (o : door-host.Outcome). o.number) (host-cases.read_good frame audio cells record-held)) (three_parts heard.answer heard.address host_address_few)
