-- Reading and building host frames through the door, in their cases. Assumes nothing.
use mathlib.Core.Path.{◌≡◌, sym, ap, ◌∙◌}
use mathlib.Core.Bool.{true, false}
use mathlib.Core.List.{List}
use Prim.Native.Nat.{ℕ}
use lib.IntN.{ℤ}
use lib.ListN.{set}
use lib.Seq.{sets}
use Rattle.std.specs.Prelude.{Ok, Err}
use Rattle.wire.specs.Answers.{Answer, Accepted, number_of}
use Rattle.wire.specs.declared.Refusal.{Refusal}
use Rattle.wire.proofs.First.{only_accepted}
use Rattle.host.specs.Build as Build
use Rattle.host.specs.Read as Read
use Rattle.host.specs.declared.Builder.{Builder}
use Rattle.host.specs.declared.Reading.{Reading}
use Rattle.host_record.specs.declared.record.Host.{Host}
use Rattle.cells.specs.Cells.{within, bad_state, returned_by}
use Rattle.cells.proofs.Cases.{if_refused, if_accepted, kept-err, enough}
use Rattle.host_cells.specs.Host.{host_count, host_cells}
use Rattle.host_from_cells.specs.FromCells.{host_most, builder_most, host_of, host_in, builder_of, builder_in}
use Rattle.host_from_cells.proofs.Cases.{host_held, builder_held}
use Rattle.host_door.specs.HostCalls.{gave, shown, host_read_of, built, turned, numbered, host_build_of}

module _ (answer : Answer) (turn : ℕ) (cells : List ℕ) where
  pub turned-refused : (number_of answer ≡ 0 → ⊥) → turned answer turn cells ≡ cells
  turned-refused not_accepted = if_refused answer (set cells host_count turn) cells not_accepted

  pub turned-accepted : number_of answer ≡ 0 → turned answer turn cells ≡ set cells host_count turn
  turned-accepted accepted = if_accepted answer (set cells host_count turn) cells accepted

module _ (frame : List ℕ) (audio : List ℤ) (cells : List ℕ) where
  pub read_bad : within host_most cells ≡ false → host_read_of frame audio cells ≡ gave bad_state cells audio
  unfolding host_read_of
  read_bad bad = rw bad

  module _ (good : within host_most cells ≡ true) where
    pub read_good : host_read_of frame audio cells ≡ shown cells (Read.read_of frame audio (host_of cells))
    unfolding host_read_of
    read_good = rw good

    module _ {given : Host} (are : given ≡ host_in cells) where
      -- what a read into the record that the cells are gave
      read_shown : {o : Read.Outcome} → o ≡ Read.read_of frame audio given → shown cells o ≡ host_read_of frame audio cells
      read_shown is =
          ap (shown cells) (is ∙ ap (Read.read_of frame audio) (are ∙ host_held cells (enough host_most cells good))) ∙ sym read_good

      pub read-refused : (refusal : Refusal) (out : List ℤ) → Read.gave given (Err refusal) out ≡ Read.read_of frame audio given → gave (returned_by (Err refusal)) cells out ≡ host_read_of frame audio cells
      read-refused refusal out is =
          ap (λ c. gave (returned_by (Err refusal)) c out) (sym (kept-err refusal (host_cells given) cells)) ∙ read_shown is

      pub read_accepted : (r : Reading) (out : List ℤ) → Read.gave given (Ok r) out ≡ Read.read_of frame audio given → gave (returned_by (Ok r.address)) (sets cells 0 (host_cells r.host)) out ≡ host_read_of frame audio cells
      read_accepted r out is = read_shown is

module _ (cells : List ℕ) (audio : List ℤ) (frame : List ℕ) where
  pub build_bad : within builder_most cells ≡ false → host_build_of cells audio frame ≡ built bad_state cells frame
  unfolding host_build_of
  build_bad bad = rw bad

  module _ (good : within builder_most cells ≡ true) where
    pub build_good : host_build_of cells audio frame ≡ numbered cells (Build.build_of (builder_of cells) audio frame)
    unfolding host_build_of
    build_good = rw good

    module _ {given : Builder} (are : given ≡ builder_in cells) where
      -- what a build by the builder that the cells are gave
      build_shown : {o : Build.Outcome} → o ≡ Build.build_of given audio frame → numbered cells o ≡ host_build_of cells audio frame
      build_shown is =
          ap (numbered cells) (is ∙ ap (λ b. Build.build_of b audio frame) (are ∙ builder_held cells (enough builder_most cells good))) ∙ sym build_good

      pub build-refused : (refusal : Refusal) (out : List ℕ) → Build.gave given (Err refusal) out ≡ Build.build_of given audio frame → built (number_of (Err refusal)) cells out ≡ host_build_of cells audio frame
      build-refused refusal out is =
          ap (λ c. built (number_of (Err refusal)) c out) (sym (turned-refused (Err refusal) given.turn cells (λ none. cc (only_accepted (Err refusal) none))))
          ∙ build_shown is

      pub build-accepted : (next : Builder) (out : List ℕ) → Build.gave given (Ok next) out ≡ Build.build_of given audio frame → built (number_of Accepted) (set cells host_count next.turn) out ≡ host_build_of cells audio frame
      build-accepted next out is = build_shown is
