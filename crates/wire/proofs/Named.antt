-- The byte that a refusal names is wrong, and every byte before it, among those that are tested, is right. Assumes nothing.
use mathlib.Core.Path.{◌≡◌, sym, ap, subst⁻¹, ◌∙◌}
use mathlib.Core.Bool.{Bool, false, not, ◌&&◌, and_assoc, and-true, true≢false}
use mathlib.Core.List.{List, [], ◌∷◌, ◌++◌}
use Prim.Native.Nat.{ℕ, ◌+◌, ◌-◌, ◌<◌, ◌≤◌}
use native.Mathlib.Nat.{zero-add, add-zero}
use native.Mathlib.Omega.{arith}
use borrow.Author.Tests.{not-true}
use lib.Dec.{eqb}
use lib.ListN.{length, get_or, take, drop, length-drop}
use lib.Seq.{get_or-take, get_or-drop, length-take-le}
use Rattle.std.specs.Prelude.{Err}
use Rattle.wire.specs.Answers.{Answer, Test, ◌gives◌, first, number_of, place_of}
use Rattle.wire.specs.Every.{every}
use Rattle.wire.specs.Places.{first_other, FirstNot}
use Rattle.wire.specs.Sync.{sync_at, no_sync}
use Rattle.wire.proofs.Cases.{by_order}
use Rattle.wire.proofs.First.{None, mentions, passing, stopping}
use Rattle.wire.proofs.FirstWrong.{first_inside, wrong_there, right_before}
use Rattle.wire.proofs.SyncCases.{sync-drop}

-- of a part of a frame, which stands there from a place on
module _ (due : ℕ) (frame part : List ℕ) (start : ℕ) (same : (i : ℕ) → i < length part → get_or part i 0 ≡ get_or frame (start + i) 0) where
  abbrev is : ℕ → Bool
  is b = eqb b due

  pub named_in : every is part ≡ false → FirstNot due frame start (start + length part) (start + first_other due part)
  named_in other =
      let inside = first_inside is part other in
      record {
        from_start = omega arith;
        before_end = omega (arith, inside);
        wrong = sym (ap is (same (first_other due part) inside)) ∙ wrong_there is part 0 other;
        right_before = λ k from before.
            let at : start + (k - start) ≡ k = omega (arith, from) in
            let earlier : k - start < first_other due part = omega (arith, from, before) in
            sym (ap is (same (k - start) (omega (arith, earlier, inside)) ∙ ap (λ p. get_or frame p 0) at)) ∙ right_before is part 0 (k - start) earlier;
      }

sync-every : (f : List ℕ) → 3 ≤ length f → sync_at f 0 ≡ every (λ b. eqb b 0x7f) (take 3 f)
sync-every [] long = absurd (omega arith)
sync-every (a ∷ []) long = absurd (omega arith)
sync-every (a ∷ b ∷ []) long = absurd (omega arith)
sync-every (a ∷ b ∷ c ∷ rest) long = and_assoc (eqb a 0x7f) (eqb b 0x7f) (eqb c 0x7f) ∙ ap (λ t. eqb a 0x7f && (eqb b 0x7f && t)) (sym (and-true (eqb c 0x7f)))

module _ (frame : List ℕ) where
  -- the end of a frame
  pub named_behind : (due start : ℕ) → start ≤ length frame → every (λ b. eqb b due) (drop start frame) ≡ false → FirstNot due frame start (length frame) (start + first_other due (drop start frame))
  named_behind due start inside other =
      let whole : start + length (drop start frame) ≡ length frame = rw (length-drop start frame) (omega (arith, inside)) in
      rw whole at (named_in due frame (drop start frame) start (λ i h. get_or-drop start frame i 0) other)

  -- and the three bytes of a sync
  pub named_at : (p : ℕ) → p + 3 ≤ length frame → sync_at frame p ≡ false → FirstNot 0x7f frame p (p + 3) (p + first_other 0x7f (take 3 (drop p frame)))
  named_at p inside missing =
      let rest = drop p frame in
      let long : 3 ≤ length rest = rw (length-drop p frame) (omega arith) in
      let three : length (take 3 rest) ≡ 3 = length-take-le 3 rest long in
      let same : (i : ℕ) → i < length (take 3 rest) → get_or (take 3 rest) i 0 ≡ get_or frame (p + i) 0 =
      λ i h. get_or-take 3 rest i 0 (omega (arith, h, three)) ∙ get_or-drop p frame i 0 in
      let at_once : sync_at rest 0 ≡ sync_at frame p = sync-drop p frame 0 ∙ ap (sync_at frame) (add-zero p) in
      rw three at (named_in 0x7f frame (take 3 rest) p same (sym (sync-every rest long) ∙ at_once ∙ missing))

  pub named_sync : 3 ≤ length frame → sync_at frame 0 ≡ false → FirstNot 0x7f frame 0 3 (place_of (Err (no_sync frame)))
  named_sync long missing = rw (zero-add (first_other 0x7f (take 3 frame))) at (named_at 0 long missing)

-- among any tests, of which no other gives NO_SYNC, and those before it hold the frame to 512 bytes
pub sync_told : (frame : List ℕ) (before after : List Test) → mentions 6 before ≡ false → mentions 6 after ≡ false → (None before → length frame ≡ 512) → number_of (first (before ++ ((not (sync_at frame 0) gives no_sync frame) ∷ after))) ≡ 6 → FirstNot 0x7f frame 0 3 (place_of (first (before ++ ((not (sync_at frame 0) gives no_sync frame) ∷ after))))
sync_told frame before after not-before not_after long is =
    let test = not (sync_at frame 0) gives no_sync frame in
    let passed = passing 6 before (test ∷ after) not-before is in
    let here = stopping 6 test after not_after (λ e. omega arith) (sym (ap number_of passed.1) ∙ is) in
    let whole = long passed.0 in
    subst⁻¹ (λ (a : Answer). FirstNot 0x7f frame 0 3 (place_of a)) (passed.1 ∙ here.1) (named_sync frame (omega (arith, whole)) (not-true _ here.0))

-- what is said of the byte is true of one byte alone
module _ (due : ℕ) (frame : List ℕ) (start end : ℕ) where
  not_earlier : (p q : ℕ) → FirstNot due frame start end p → FirstNot due frame start end q → p < q → ⊥
  not_earlier p q one other earlier = true≢false (sym (other.right_before p one.from_start earlier) ∙ one.wrong)

  pub only_one : (p q : ℕ) → FirstNot due frame start end p → FirstNot due frame start end q → p ≡ q
  only_one p q one other =
      by_order p q (λ less. absurd (not_earlier p q one other less))
      (λ more. by_order q p (λ less. absurd (not_earlier q p other one less)) (λ fewer. omega arith))
