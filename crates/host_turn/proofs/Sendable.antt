-- A record that no test of its ranges refuses, and `begun` where a word can be sent and where not. Assumes nothing.
use mathlib.Core.Path.{◌≡◌, ap, ◌∙◌}
use mathlib.Core.Bool.{false, and-false}
use mathlib.Core.List.{List, ◌++◌}
use Prim.Native.Nat.{ℕ, ◌+◌, ◌<◌, ◌≤◌}
use native.Mathlib.Omega.{arith}
use borrow.Author.Tests.{ne_eqb, le-leb, lt-leb, le-ltb, ltb-false}
use lib.ListN.{length, drop}
use lib.Seq.{sets-eq}
use Rattle.wire.proofs.First.{None, none_accepted, only_accepted}
use Rattle.wire.proofs.Header.{with_room}
use Rattle.std.specs.Prelude.{Err}
use Rattle.wire.specs.Answers.{first, number_of, accepts}
use Rattle.wire.specs.Sync.{headed}
use Rattle.wire.specs.declared.Refusal.{Refusal}
use Rattle.host_record.specs.declared.record.Host.{Host}
use Rattle.host_words.specs.Words.{last_word, listed}
use Rattle.host_turn.proofs.Saying.{length_head}
use Rattle.host_turn.specs.Sent.{InRange, c0_of, said, head_of, ranges, begun}

module _ (h : Host) where
  pub none_in_range : None (ranges h) → InRange h
  none_in_range none =
      record {
        outputs = ltb-false _ _ none.0;
        some = ltb-false _ _ none.1.0;
        few = ltb-false _ _ none.1.1.0;
        gain = ltb-false _ _ none.1.1.1.0;
        top = ltb-false _ _ none.1.1.1.1.0;
      }

  pub in_range_none : InRange h → None (ranges h)
  in_range_none range =
      (le-ltb _ _ range.outputs, (le-ltb _ _ range.some, (le-ltb _ _ range.few, (le-ltb _ _ range.gain, (le-ltb _ _ range.top, tt)))))

module _ (turn : ℕ) (h : Host) (frame : List ℕ) where
  pub past_last : last_word < turn → begun turn h frame ≡ frame
  unfolding begun
  past_last above = rw (lt-leb turn last_word above)

  pub out_of_range : {e : Refusal} → first (ranges h) ≡ Err e → begun turn h frame ≡ frame
  unfolding begun
  out_of_range {e} refused =
      let not_accepted : accepts (first (ranges h)) ≡ false = ne_eqb (number_of (first (ranges h))) 0 (λ z. let same = only_accepted (first (ranges h)) z in grind (arith, same, refused)) in
      rw (not_accepted, and-false (listed turn))

  module _ (low : turn ≤ last_word) (range : InRange h) where
    pub sent : begun turn h frame ≡ headed (c0_of turn h.mox) (said turn h) frame
    unfolding begun
    sent = rw (le-leb turn last_word low, none_accepted (ranges h) (in_range_none h range))

    pub head_put : 8 ≤ length frame → begun turn h frame ≡ head_of turn h ++ drop 8 frame
    head_put room =
        let long : length (head_of turn h) ≡ 8 = length_head turn h in
        sent
        ∙ with_room (c0_of turn h.mox) (said turn h) frame room
        ∙ sets-eq (head_of turn h) frame 0 (omega arith)
        ∙ ap (λ n. head_of turn h ++ drop (0 + n) frame) long
