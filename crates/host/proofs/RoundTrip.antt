-- Reading what was built gives the values back; building from what was read gives the frame back. Assumes nothing.
use mathlib.Core.Path.{◌≡◌, refl, sym, ap, ◌∙◌}
use mathlib.Core.Bool.{true, ◌&&◌}
use mathlib.Core.List.{List, ◌∷◌, ◌++◌}
use Prim.Native.Nat.{ℕ, ◌+◌, ◌≤◌}
use native.Mathlib.Omega.{arith}
use borrow.Author.Tests.{eqb-true, leb-true}
use lib.Dec.{eqb}
use lib.IntN.{ℤ}
use lib.ListN.{length, get_or, take, drop, length-drop, take-append-drop}
use lib.Seq.{get_or-drop}
use Rattle.wire.specs.Answers.{Accepted}
use Rattle.wire.proofs.Cases.{either, both_true}
use Rattle.wire.proofs.Lists.{tab-get_or, length_over}
use Rattle.wire.specs.Numbers.{Bytes, Samples16}
use Rattle.wire.specs.Sync.{sync_at}
use Rattle.host.proofs.BuildCases.{Ready, accepted_ready, ready_accepted, build_answer, build-accepted}
use Rattle.host.proofs.BuiltFrame.{payload_built, address_built, built_says}
use Rattle.host_words.proofs.Carries.{mox_follows, others_kept}
use Rattle.host.proofs.ReadCases.{Good, accepted_good, good_accepted, read_answer, read_accepted}
use Rattle.host_samples.proofs.SampleTrip.{numbers-back, payload_back}
use Rattle.host_turn.proofs.Assigned.{assigned}
use Rattle.host_turn.proofs.BitTrip.{c0_again}
use Rattle.host_turn.proofs.ByteTrip.{ByteControl, four_bytes, bytes_again}
use Rattle.host_turn.proofs.WordTrip.{Held}
use Rattle.host.specs.Build.{build_of, frame_of, moved}
use Rattle.host.specs.Read.{read_of}
use Rattle.wire.specs.Control.{control_of}
use Rattle.host_record.specs.Record.{Same, Seven}
use Rattle.host_samples.specs.Samples.{payload_of, payload_from, number, numbers}
use Rattle.host_turn.specs.Sent.{InRange, c0_of, said}
use Rattle.host_words.specs.Words.{last_word, listed, address, heard, after}
use Rattle.host.specs.declared.Builder.{Builder}
use Rattle.host_record.specs.declared.record.Front.{Front}
use Rattle.host_record.specs.declared.record.Host.{Host}
use Rattle.wire.specs.declared.control.Control.{Control}
use Rattle.host.specs.Read as reading

-- what a reader has of a frame that b built from the numbers sent: g is the record that it lent, out its slice
pub record CameBack (b : Builder) (sent out : List ℤ) (g : Host) (r : reading.Outcome) : Type 0 where
  pub answer : r.answer ≡ Accepted
  pub address : r.address ≡ b.turn
  pub mox : r.host.mox ≡ b.host.mox
  pub fields : Same b.turn r.host b.host
  pub others : (w : ℕ) → (w ≡ b.turn → ⊥) → Same w r.host g
  pub audio : r.audio ≡ take 252 sent ++ drop 252 out

module _ (b : Builder) (audio : List ℤ) (frame : List ℕ) (answered : (build_of b audio frame).answer ≡ Accepted) where
  passed : Ready b (length audio) (length frame)
  passed = accepted_ready b (length audio) (length frame) (sym (build_answer b audio frame) ∙ answered)

  -- of the definition's outcome, for a frame as it was built
  came_back : Held b.host → Samples16 audio → (out : List ℤ) (g : Host) → 252 ≤ length out → Seven g → CameBack b audio out g (reading.accepted (frame_of b audio) out g)
  came_back held sixteen out g room seven =
      let says = built_says b audio (length audio) (length frame) passed out room held in
      let word = address_built b audio (length audio) (length frame) passed in
      record {
        answer = refl;
        address = word;
        mox = mox_follows _ (control_of (frame_of b audio)) g ∙ says.keyed;
        fields = says.fields g seven;
        others = λ w other. others_kept (address (control_of (frame_of b audio))) (control_of (frame_of b audio)) g w (λ same. other (same ∙ word));
        audio = ap (λ p. numbers p out) (payload_built b audio) ∙ numbers-back audio out sixteen passed.fits;
      }

  pub read_built : Held b.host → Samples16 audio → (out : List ℤ) (g : Host) → 252 ≤ length out → Seven g → CameBack b audio out g (read_of (build_of b audio frame).frame out g)
  read_built held sixteen out g room seven =
      let says = built_says b audio (length audio) (length frame) passed out room held in
      rw (build-accepted b audio frame (sym (build_answer b audio frame) ∙ answered), read_accepted (frame_of b audio) out g (good_accepted (frame_of b audio) (length out) says.good))
      (came_back held sixteen out g room seven)

-- the builder that holds what was read, its turn the word's address
abbrev pub again : reading.Outcome → Builder
again r = record { host = r.host; turn = r.address }

module _ (f : List ℕ) where
  -- a frame is its eight first bytes, and its payload
  head_and_payload : 8 ≤ length f → get_or f 0 0 ∷ get_or f 1 0 ∷ get_or f 2 0 ∷ get_or f 3 0 ∷ get_or f 4 0 ∷ get_or f 5 0 ∷ get_or f 6 0 ∷ get_or f 7 0 ∷ payload_of f ≡ f
  head_and_payload long = ap (λ l. l ++ drop 8 f) (tab-get_or 8 f 0 long) ∙ take-append-drop 8 f

  sync_bytes : sync_at f 0 ≡ true → (get_or f 0 0 ≡ 127) × (get_or f 1 0 ≡ 127) × (get_or f 2 0 ≡ 127)
  sync_bytes e =
      let last = both_true (eqb (get_or f 0 0) 127 && eqb (get_or f 1 0) 127) (eqb (get_or f 2 0) 127) e in
      let first = both_true (eqb (get_or f 0 0) 127) (eqb (get_or f 1 0) 127) last.0 in
      (eqb-true _ _ first.0, eqb-true _ _ first.1, eqb-true _ _ last.1)

  byte_control : Bytes f → ByteControl (control_of f)
  byte_control bytes = record { b0 = bytes 3; b1 = bytes 4; b2 = bytes 5; b3 = bytes 6; b4 = bytes 7 }

-- a record in range stays so: a word can only bring what fits it
still_in_range : (a : ℕ) (c : Control) (h : Host) → InRange h → InRange (heard a c h)
unfolding heard
still_in_range a c h range =
    record {
      outputs = either (eqb a 0) (λ n. n ≤ 127) (omega arith) range.outputs;
      some = either (eqb a 0) (λ n. 1 ≤ n) (omega arith) range.some;
      few = either (eqb a 0) (λ n. n ≤ 8) (omega arith) range.few;
      gain = either (eqb a 10) (λ (s : Front). s.gain ≤ 31) (omega arith) range.gain;
      top = either (eqb a 10) (λ (s : Front). s.c2top ≤ 7) (omega arith) range.top;
    }

module _ (f : List ℕ) (out : List ℤ) (h : Host) (bytes : Bytes f) (good : Good f (length out)) (low : address (control_of f) ≤ last_word) (range : InRange h) (seven : Seven h) where
  frame_again : frame_of (again (reading.accepted f out h)) (numbers (payload_of f) out) ≡ f
  frame_again =
      let c = control_of f in
      let byte = byte_control f bytes in
      let sync = sync_bytes f good.sync in
      let c0 : c0_of (address c) (after c h).mox ≡ c.c0 = ap (c0_of (address c)) (mox_follows (address c) c h) ∙ c0_again c.c0 byte.b0 in
      let word : said (address c) (after c h) ≡ four_bytes c = bytes_again (address c) c h low seven byte (assigned c good.assigned) in
      let long : length (payload_of f) ≡ 504 = rw (length-drop 8 f, good.long) in
      let payload : payload_from (numbers (payload_of f) out) ≡ payload_of f = payload_back (payload_of f) out (λ i. rw (get_or-drop 8 f i 0) (bytes (8 + i))) long good.fits in
      (λ i. sym sync.0 i ∷ sym sync.1 i ∷ sym sync.2 i ∷ c0 i ∷ word i ++ payload i)
      ∙ head_and_payload f (let whole = good.long in omega arith)

  ready-again : (frame : List ℕ) → length frame ≡ 512 → Ready (again (reading.accepted f out h)) (length (numbers (payload_of f) out)) (length frame)
  unfolding numbers
  ready-again frame long =
      record {
        turn = low;
        long = long;
        fits = rw (length_over 252 (number (payload_of f)) out good.fits) good.fits;
        range = still_in_range (address (control_of f)) (control_of f) h range;
      }

  built-again : (frame : List ℕ) → length frame ≡ 512 → build_of (again (reading.accepted f out h)) (numbers (payload_of f) out) frame ≡ record { answer = Accepted; builder = moved (again (reading.accepted f out h)); frame = f }
  built-again frame long =
      build-accepted (again (reading.accepted f out h)) (numbers (payload_of f) out) frame
      (ready_accepted (again (reading.accepted f out h)) (length (numbers (payload_of f) out)) (length frame) (ready-again frame long))
      ∙ (λ i. record { answer = Accepted; builder = moved (again (reading.accepted f out h)); frame = frame_again i })

pub build_read : (f : List ℕ) (out : List ℤ) (h : Host) → Bytes f → (read_of f out h).answer ≡ Accepted → listed (read_of f out h).address ≡ true → InRange h → Seven h → (frame : List ℕ) → length frame ≡ 512 → build_of (again (read_of f out h)) (read_of f out h).audio frame ≡ record { answer = Accepted; builder = moved (again (read_of f out h)); frame = f }
build_read f out h bytes answered listed-word range seven frame long =
    let passed = sym (read_answer f out h) ∙ answered in
    let read = read_accepted f out h passed in
    rw read
    (built-again f out h bytes (accepted_good f (length out) passed) (leb-true _ _ (rw read at listed-word)) range seven frame long)
