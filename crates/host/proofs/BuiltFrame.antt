-- A built frame as its reader finds it: its control bytes, its payload, and that it is good. Assumes nothing.
use mathlib.Core.Path.{◌≡◌, refl, ap, subst⁻¹, ◌∙◌}
use mathlib.Core.List.{List}
use Prim.Native.Nat.{ℕ, ◌<◌, ◌≤◌}
use native.Mathlib.Omega.{arith}
use lib.IntN.{ℤ}
use lib.ListN.{length, length-append, get_or-append}
use lib.Seq.{drop_at}
use Rattle.host.proofs.BuildCases.{Ready}
use Rattle.host_turn.proofs.Saying.{length_said, length_head}
use Rattle.host_samples.proofs.Slots.{length-payload}
use Rattle.host.proofs.Told.{Says}
use Rattle.host_turn.proofs.Assigned.{Assigned, built_assigned, assigned_none}
use Rattle.host_turn.proofs.BitTrip.{c0_address, c0_mox}
use Rattle.host_turn.proofs.WordTrip.{Held, control_from, word_back}
use Rattle.host.specs.Build.{frame_of}
use Rattle.host_record.specs.Record.{Same}
use Rattle.host_samples.specs.Samples.{payload_of, payload_from}
use Rattle.host_turn.specs.Sent.{c0_of, said, head_of}
use Rattle.wire.specs.Control.{control_of}
use Rattle.host_words.specs.Words.{address, heard}
use Rattle.host.specs.declared.Builder.{Builder}
use Rattle.wire.specs.declared.control.Control.{Control}

module _ (b : Builder) (audio : List ℤ) where
  pub control_built : control_of (frame_of b audio) ≡ control_from (c0_of b.turn b.host.mox) (said b.turn b.host)
  control_built =
      let word = said b.turn b.host in
      let four = length_said b.turn b.host in
      λ i.
      record {
        c0 = c0_of b.turn b.host.mox;
        c1 = get_or-append word (payload_from audio) 0 0 (omega arith) i;
        c2 = get_or-append word (payload_from audio) 0 1 (omega arith) i;
        c3 = get_or-append word (payload_from audio) 0 2 (omega arith) i;
        c4 = get_or-append word (payload_from audio) 0 3 (omega arith) i;
      }

  pub payload_built : payload_of (frame_of b audio) ≡ payload_from audio
  payload_built = drop_at (head_of b.turn b.host) (payload_from audio) 8 (length_head b.turn b.host)

  pub length_built : length (frame_of b audio) ≡ 512
  length_built = rw (length-append (head_of b.turn b.host) (payload_from audio), length_head b.turn b.host, length-payload audio)

  module _ (count room : ℕ) (ready : Ready b count room) where
    pub address_built : address (control_of (frame_of b audio)) ≡ b.turn
    address_built = ap address control_built ∙ c0_address b.turn b.host.mox (let low = ready.turn in omega arith)

    -- a fact of the due word and its bytes is one of the frame's address and control bytes
    carried_over : (P : ℕ → Control → Type 0) → P b.turn (control_from (c0_of b.turn b.host.mox) (said b.turn b.host)) → P (address (control_of (frame_of b audio))) (control_of (frame_of b audio))
    carried_over P p =
        subst⁻¹ (λ a. P a (control_of (frame_of b audio))) address_built (subst⁻¹ (λ c. P b.turn c) control_built p)

    -- it says the word that is due, into a slice with room
    pub built_says : (out : List ℤ) → 252 ≤ length out → Held b.host → Says b.host b.turn (record { frame = frame_of b audio; audio = out })
    built_says out long held =
        let c0 = c0_of b.turn b.host.mox in
        let low : b.turn < 128 = let due = ready.turn in omega arith in
        record {
          good = record {
            long = length_built;
            fits = long;
            sync = refl;
            assigned = assigned_none (control_of (frame_of b audio)) (carried_over Assigned (built_assigned b.turn c0 b.host ready.range));
          };
          word = address_built;
          keyed = c0_mox b.turn b.host.mox low;
          fields = λ g seven. carried_over (λ a c. Same b.turn (heard a c g) b.host) (word_back b.turn c0 g b.host seven ready.range held);
        }
