-- What an accepted call leaves in the cells is the record that document 01's call gives back. Assumes nothing.
use mathlib.Core.Path.{◌≡◌, sym, ap, subst⁻¹, ◌∙◌}
use mathlib.Core.Bool.{true}
use mathlib.Core.List.{List}
use Prim.Native.Nat.{ℕ, ◌<◌, ◌≤◌}
use native.Mathlib.Omega.{arith}
use lib.Dec.{eqb}
use lib.IntN.{ℤ}
use lib.ListN.{length}
use Rattle.wire.specs.Answers.{number_of, first}
use Rattle.wire.proofs.Cases.{by_test}
use Rattle.wire.proofs.First.{only_accepted}
use Rattle.radio.specs.Read as Radio
use Rattle.host.specs.Build as Build
use Rattle.host.specs.Read as Host
use Rattle.host_words.specs.Words.{last_word}
use Rattle.host.proofs.BuildCases.{accepted_ready, build-accepted, build_answer}
use Rattle.stream.specs.Feed as Feed
use Rattle.cells.specs.Cells.{within, number}
use Rattle.radio_door.specs.Status.{status_most, status_of, status_cells}
use Rattle.host_cells.specs.Host.{host_count, host_cells}
use Rattle.host_from_cells.specs.FromCells.{host_most, builder_most, host_of, builder_of}
use Rattle.host_door.specs.HostCalls as door-host
use Rattle.radio_door.specs.Radio as door-radio
use Rattle.stream_door.specs.Stream as door-stream
use Rattle.stream_cells.specs.Stream.{lent, stream_of, counts_of}
use Rattle.cells.proofs.Cases.{enough, kept-accepted}
use Rattle.radio_door.proofs.Faithful.{StatusFits, status_back}
use Rattle.host_from_cells.proofs.Faithful.{HostFits, host_back, builder_back}
use Rattle.stream_cells.proofs.Cases as stream-room
use Rattle.stream_cells.proofs.Faithful.{stream_back}
use Rattle.host_door.proofs.HostCases as host-cases
use Rattle.radio_door.proofs.RadioCases as radio-cases
use Rattle.stream_door.proofs.StreamCases as stream-cases

module _ (frame : List ℕ) (n : ℕ) (iq mic : List ℤ) (cells : List ℕ) (record-held : within status_most cells ≡ true) where
  abbrev read : Radio.Outcome
  read = Radio.read_of frame n iq mic (status_of cells)

  pub radio_read_leaves : number_of read.reading.answer ≡ 0 → StatusFits read.reading.status → status_of (door-radio.radio_read_of frame n iq mic cells).status ≡ read.reading.status
  radio_read_leaves accepted fits =
      ap (λ (o : door-radio.Outcome). status_of o.status) (radio-cases.read_good frame n iq mic cells record-held)
      ∙ ap status_of (kept-accepted read.reading.answer (status_cells read.reading.status) cells accepted)
      ∙ status_back read.reading.status cells fits (enough status_most cells record-held)

module _ (frame : List ℕ) (audio : List ℤ) (cells : List ℕ) (record-held : within host_most cells ≡ true) where
  abbrev heard : Host.Outcome
  heard = Host.read_of frame audio (host_of cells)

  pub host_read_leaves : number_of heard.answer ≡ 0 → HostFits heard.host → host_of (door-host.host_read_of frame audio cells).host ≡ heard.host
  host_read_leaves accepted fits =
      ap (λ (o : door-host.Outcome). host_of o.host) (host-cases.read_good frame audio cells record-held)
      ∙ ap host_of (kept-accepted heard.answer (host_cells heard.host) cells accepted)
      ∙ host_back heard.host cells fits (enough host_most cells record-held)

module _ (cells : List ℕ) (audio : List ℤ) (frame : List ℕ) (record-held : within builder_most cells ≡ true) where
  abbrev built : Build.Outcome
  built = Build.build_of (builder_of cells) audio frame

  next_fits : (turn : ℕ) → turn ≤ last_word → Build.next_turn turn < 256
  next_fits turn few = by_test (eqb turn last_word) (λ last. rw last (omega arith)) (λ before. rw before (omega arith))

  pub build_leaves : number_of built.answer ≡ 0 → builder_of (door-host.host_build_of cells audio frame).builder ≡ built.builder
  build_leaves accepted =
      let tested = build_answer (builder_of cells) audio frame in
      let passed = only_accepted (first (Build.refusals (builder_of cells) (length audio) (length frame))) (ap number_of (sym tested) ∙ accepted) in
      let made = build-accepted (builder_of cells) audio frame passed in
      let next : built.builder.turn < 256 =
      subst⁻¹ (λ (k : ℕ). k < 256) (ap (λ (o : Build.Outcome). o.builder.turn) made) (next_fits (number 8 cells host_count) (accepted_ready (builder_of cells) (length audio) (length frame) passed).turn) in
      ap (λ (o : door-host.Done). builder_of o.builder) (host-cases.build_good cells audio frame record-held)
      ∙ ap builder_of (host-cases.turned-accepted built.answer built.builder.turn cells accepted)
      ∙ builder_back cells built.builder.turn next (enough builder_most cells record-held)
      ∙ (λ i. record { host = sym (ap (λ (o : Build.Outcome). o.builder.host) made) i; turn = built.builder.turn })

module _ (counts held piece output : List ℕ) (record-held : lent counts held ≡ true) where
  abbrev fed : Feed.Outcome
  fed = Feed.feed_of (stream_of counts held) piece output

  pub feed_leaves : number_of fed.answer ≡ 0 → length fed.next.held ≡ 514 → stream_of (door-stream.feed_in counts held piece output).counts (door-stream.feed_in counts held piece output).held ≡ fed.next
  feed_leaves accepted full =
      let room = stream-room.enough counts held record-held in
      ap (λ (o : door-stream.Outcome). stream_of o.counts o.held) (stream-cases.feed_good counts held piece output record-held)
      ∙ (λ i. stream_of (kept-accepted fed.answer (counts_of fed.next) counts accepted i) (kept-accepted fed.answer fed.next.held held accepted i))
      ∙ stream_back fed.next counts held full room.0 room.1
