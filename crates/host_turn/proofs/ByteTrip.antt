-- A word's bytes through the record and back: saying what was read gives them again. Assumes nothing.
use mathlib.Core.Path.{◌≡◌, refl, sym, ap, ◌∙◌}
use mathlib.Core.Bool.{false}
use mathlib.Core.List.{List, [], ◌∷◌}
use Prim.Native.Nat.{ℕ, zero, suc, ◌+◌, ◌-◌, ◌<◌, ◌≤◌}
use native.Mathlib.Omega.{arith}
use lib.ListN.{get_or}
use Rattle.wire.proofs.Bytes.{bytes_of-be}
use borrow.Author.Tests.{eqb-true, eqb-false}
use lib.Dec.{eqb}
use Rattle.wire.proofs.Cases.{by_order, by_test}
use Rattle.wire.proofs.Pack.{pack-fields}
use Rattle.wire.specs.Fields.{bits, bit, on, flag, pack, eight_flags}
use Rattle.wire.specs.Numbers.{bytes_of, Bytes}
use Rattle.host_words.proofs.Carries.{own_entry}
use Rattle.host_record.proofs.Codes.{speed_codes, source122_codes, boards_codes, microphone_codes, attenuator_codes, antenna_codes, jack_codes}
use Rattle.host_turn.proofs.Saying.{said-frequency}
use Rattle.host_record.specs.Choices.{source10_of, source10_code, relay_of, relay_code}
use Rattle.host_record.specs.Record.{Seven}
use Rattle.host_turn.specs.Sent.{c1_of, c2_of, c3_of, c4_of, front_c1, said}
use Rattle.host_words.specs.Words.{heard, source10_or, relay_or, front_of, last_word}
use Rattle.host_record.specs.declared.record.Host.{Host}
use Rattle.host_record.specs.declared.choices.Source10.{Source10}
use Rattle.host_record.specs.declared.choices.Relay.{Relay}
use Rattle.wire.specs.declared.control.Control.{Control}
use Rattle.host_turn.proofs.BitTrip.{bit-back, ones, eight_again}
use Rattle.host_turn.proofs.Assigned.{Assigned}

-- C1 to C4 are bytes
pub record ByteControl (c : Control) : Type 0 where
  pub b0 : c.c0 < 256
  pub b1 : c.c1 < 256
  pub b2 : c.c2 < 256
  pub b3 : c.c3 < 256
  pub b4 : c.c4 < 256

abbrev pub four_bytes : Control → List ℕ
four_bytes c = c.c1 ∷ c.c2 ∷ c.c3 ∷ c.c4 ∷ []

four_bytes_lem : (c : Control) → ByteControl c → Bytes (four_bytes c)
four_bytes_lem c byte zero = byte.b1
four_bytes_lem c byte (suc zero) = byte.b2
four_bytes_lem c byte (suc (suc zero)) = byte.b3
four_bytes_lem c byte (suc (suc (suc zero))) = byte.b4
four_bytes_lem c byte (suc (suc (suc (suc i)))) = omega arith

-- a code below 3 comes back from the choice that it named
source_again : (n : ℕ) (x : Source10) → n < 3 → source10_code (source10_or (source10_of n) x) ≡ n
source_again zero x h = refl
source_again (suc zero) x h = refl
source_again (suc (suc zero)) x h = refl
source_again (suc (suc (suc n))) x h = absurd (omega arith)

relay_again : (n : ℕ) (x : Relay) → n < 3 → relay_code (relay_or (relay_of n) x) ≡ n
relay_again zero x h = refl
relay_again (suc zero) x h = refl
relay_again (suc (suc zero)) x h = refl
relay_again (suc (suc (suc n))) x h = absurd (omega arith)

settings_again : (c : Control) (h : Host) → ByteControl c → Assigned 0 c → said 0 (heard 0 c h) ≡ four_bytes c
unfolding heard said
settings_again c h byte ok =
    let receivers : bits c.c4 5 3 + 1 - 1 ≡ bits c.c4 5 3 = omega arith in
    let e1 : c1_of (heard 0 c h) ≡ c.c1 =
    ap (pack (2 ∷ 2 ∷ 1 ∷ 2 ∷ 1 ∷ []))
    (λ i. speed_codes.again (bits c.c1 1 0) (omega arith) i ∷ source_again (bits c.c1 3 2) h.source10 (ok.source refl) i ∷ source122_codes.again (bit c.c1 4) (omega arith) i ∷ boards_codes.again (bits c.c1 6 5) (omega arith) i ∷ microphone_codes.again (bit c.c1 7) (omega arith) i ∷ [])
    ∙ pack-fields (2 ∷ 2 ∷ 1 ∷ 2 ∷ 1 ∷ []) c.c1 byte.b1 in
    let e2 : c2_of (heard 0 c h) ≡ c.c2 =
    ap (pack (1 ∷ 7 ∷ [])) (λ i. bit-back c.c2 0 i ∷ bits c.c2 7 1 ∷ [])
    ∙ pack-fields (1 ∷ 7 ∷ []) c.c2 byte.b2 in
    let e3 : c3_of (heard 0 c h) ≡ c.c3 =
    ap (pack (2 ∷ 1 ∷ 1 ∷ 1 ∷ 2 ∷ 1 ∷ []))
    (λ i. attenuator_codes.again (bits c.c3 1 0) (omega arith) i ∷ bit-back c.c3 2 i ∷ bit-back c.c3 3 i ∷ bit-back c.c3 4 i ∷ antenna_codes.again (bits c.c3 6 5) (omega arith) i ∷ bit-back c.c3 7 i ∷ [])
    ∙ pack-fields (2 ∷ 1 ∷ 1 ∷ 1 ∷ 2 ∷ 1 ∷ []) c.c3 byte.b3 in
    let e4 : c4_of (heard 0 c h) ≡ c.c4 =
    ap (pack (2 ∷ 1 ∷ 3 ∷ 1 ∷ 1 ∷ []))
    (λ i. relay_again (bits c.c4 1 0) h.relay (ok.relay refl) i ∷ bit-back c.c4 2 i ∷ receivers i ∷ bit-back c.c4 6 i ∷ bit-back c.c4 7 i ∷ [])
    ∙ pack-fields (2 ∷ 1 ∷ 3 ∷ 1 ∷ 1 ∷ []) c.c4 byte.b4 in
    λ i. e1 i ∷ e2 i ∷ e3 i ∷ e4 i ∷ []

switches_again : (c : Control) (h : Host) → ByteControl c → Assigned 9 c → said 9 (heard 9 c h) ≡ four_bytes c
unfolding heard said
switches_again c h byte ok =
    let last : eight_flags (on c.c4 0) (on c.c4 1) (on c.c4 2) (on c.c4 3) (on c.c4 4) (on c.c4 5) (on c.c4 6) false ≡ c.c4 =
    ap (eight_flags (on c.c4 0) (on c.c4 1) (on c.c4 2) (on c.c4 3) (on c.c4 4) (on c.c4 5) (on c.c4 6)) (sym (ok.ninth refl)) ∙ eight_again c.c4 byte.b4 in
    λ i. c.c1 ∷ eight_again c.c2 byte.b2 i ∷ eight_again c.c3 byte.b3 i ∷ last i ∷ []

front_again : (c : Control) (h : Host) → ByteControl c → Assigned 10 c → said 10 (heard 10 c h) ≡ four_bytes c
unfolding heard said
front_again c h byte ok =
    let e1 : front_c1 (front_of c) ≡ c.c1 =
    ap (pack ones)
    (λ i. bit-back c.c1 0 i ∷ bit-back c.c1 1 i ∷ bit-back c.c1 2 i ∷ bit-back c.c1 3 i ∷ jack_codes.again (bit c.c1 4) (omega arith) i ∷ bit-back c.c1 5 i ∷ bit-back c.c1 6 i ∷ (ap flag (sym (ok.tenth refl)) ∙ bit-back c.c1 7) i ∷ [])
    ∙ pack-fields ones c.c1 byte.b1 in
    λ i. e1 i ∷ pack-fields (5 ∷ 3 ∷ []) c.c2 byte.b2 i ∷ c.c3 ∷ c.c4 ∷ []

-- words 1 to 8 are one number each
frequency_again : (a i : ℕ) (c : Control) (h : Host) → a ≡ i + 2 → i < 7 → Seven h → ByteControl c → said a (heard a c h) ≡ four_bytes c
frequency_again a i c h own small seven byte =
    let at : a - 2 ≡ i = omega arith in
    said-frequency a (heard a c h) (omega arith) (omega arith)
    ∙ ap (λ k. bytes_of 4 (get_or (heard a c h).frequencies k 0)) at
    ∙ ap (bytes_of 4) (own_entry a c h i small own seven)
    ∙ bytes_of-be (four_bytes c) (four_bytes_lem c byte)

transmitter_again : (c : Control) (h : Host) → ByteControl c → said 1 (heard 1 c h) ≡ four_bytes c
unfolding heard said
transmitter_again c h byte = bytes_of-be (four_bytes c) (four_bytes_lem c byte)

-- Sending what was read gives the word's bytes back, for listed words.
pub bytes_again : (a : ℕ) (c : Control) (h : Host) → a ≤ last_word → Seven h → ByteControl c → Assigned a c → said a (heard a c h) ≡ four_bytes c
bytes_again zero c h listed seven byte ok = settings_again c h byte ok
bytes_again (suc zero) c h listed seven byte ok = transmitter_again c h byte
bytes_again (suc (suc i)) c h listed seven byte ok =
    by_order i 7
    (λ small. frequency_again (suc (suc i)) i c h (omega arith) small seven byte)
    (λ past.
    by_test (eqb i 7)
    (λ e.
    let ninth : suc (suc i) ≡ 9 = ap (λ k. suc (suc k)) (eqb-true i 7 e) in
    rw ninth (switches_again c h byte (rw ninth at ok)))
    (λ e.
    let other = eqb-false i 7 e in
    let tenth : suc (suc i) ≡ 10 = omega arith in
    rw tenth (front_again c h byte (rw tenth at ok))))
