-- `said`, word by word: which bytes a turn sends, and that they are four. Assumes nothing.
use mathlib.Core.Path.{◌≡◌}
use Prim.Native.Nat.{ℕ, ◌-◌, ◌≤◌}
use native.Mathlib.Omega.{arith}
use borrow.Author.Tests.{ne_eqb}
use lib.Dec.{eqb}
use lib.ListN.{length, get_or}
use Rattle.wire.proofs.Cases.{by_test}
use Rattle.wire.specs.Numbers.{bytes_of}
use Rattle.host_words.proofs.Heard.{tests, receiver-tunes, past-tunes}
use Rattle.host_turn.specs.Sent.{said, head_of, front_bytes}
use Rattle.host_words.specs.Words.{tunes}
use Rattle.host_record.specs.declared.record.Host.{Host}

module _ (turn : ℕ) (h : Host) where
  pub said-frequency : 2 ≤ turn → turn ≤ 8 → said turn h ≡ bytes_of 4 (get_or h.frequencies (turn - 2) 0)
  unfolding said
  said-frequency above below =
      let other = tests turn above (omega arith) (omega arith) in
      rw (other.settings, other.transmitter, receiver-tunes turn above below)

  pub said-front : 10 ≤ turn → said turn h ≡ front_bytes h.front
  unfolding said
  said-front above =
      rw (ne_eqb turn 0 (omega arith), ne_eqb turn 1 (omega arith), past-tunes turn (omega arith), ne_eqb turn 9 (omega arith))

  pub length_said : length (said turn h) ≡ 4
  unfolding said
  length_said =
      by_test (eqb turn 0) (λ e. rw e)
      (λ e. rw e (by_test (eqb turn 1) (λ f. rw f) (λ f. rw f (by_test (tunes turn) (λ g. rw g) (λ g. rw g (by_test (eqb turn 9) (λ k. rw k) (λ k. rw k)))))))

  pub length_head : length (head_of turn h) ≡ 8
  length_head = rw length_said
