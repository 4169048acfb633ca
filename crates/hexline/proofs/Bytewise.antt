-- The reading of a text byte by byte, which the calls of `take` on it come to. Assumes nothing.
use mathlib.Core.Path.{◌≡◌, refl, sym, ap, ◌∙◌}
use mathlib.Core.Bool.{cond}
use mathlib.Core.List.{List, [], ◌∷◌, ◌++◌, append_assoc, append-nil}
use Prim.Native.Nat.{ℕ, zero, suc, ◌+◌, ◌<◌, ◌≤◌}
use native.Mathlib.Omega.{arith}
use borrow.Author.Tests.{eqb-true, eqb-false, eq-eqb, ne_eqb}
use lib.Dec.{eqb}
use lib.ListN.{length, drop, length-append, length-drop}
use lib.Seq.{drop-length, drop_at, append_snoc}
use Rattle.wire.proofs.Cases.{by_test}
use Rattle.hexline.proofs.Steps.{take_nothing, take-newline, take_byte}
use Rattle.hexline.specs.Lines.{newline}
use Rattle.hexline.specs.Reader.{byte_on, line_end, take_from, take_of}
use Rattle.hexline.specs.Text.{found_by, Run, after, chunk_in, chunk_of}
use Rattle.hexline.specs.declared.Reader.{Reader}
use Rattle.hexline.specs.declared.Taken.{Taken}

unfoldable pub each : Reader → List ℕ → Run
each r [] = record { found = []; reader = r }
each r (b ∷ s) = cond (eqb b newline) (after (found_by (line_end 0 r)) (each (line_end 0 r).reader s)) (each (byte_on r b) s)

pub each-nothing : (r : Reader) → each r [] ≡ record { found = []; reader = r }
unfolding each
each-nothing r = refl

module _ (r : Reader) (b : ℕ) (s : List ℕ) where
  pub each-newline : b ≡ newline → each r (b ∷ s) ≡ after (found_by (line_end 0 r)) (each (line_end 0 r).reader s)
  unfolding each
  each-newline e = rw (eq-eqb _ _ e)

  pub each-byte : (b ≡ newline → ⊥) → each r (b ∷ s) ≡ each (byte_on r b) s
  unfolding each
  each-byte e = rw (ne_eqb _ _ e)

line-used : (used : ℕ) (r : Reader) → line_end used r ≡ record { reader = (line_end 0 r).reader; used = used; line = (line_end 0 r).line }
unfolding line_end
line-used used r = refl

-- a proof by cases on whether a byte is a newline
pub by-newline : {P : Type 0} (b : ℕ) → (b ≡ newline → P) → ((b ≡ newline → ⊥) → P) → P
by-newline b yes-it-is not-it = by_test (eqb b newline) (λ e. yes-it-is (eqb-true b newline e)) (λ e. not-it (eqb-false b newline e))

pub each-cut : (r : Reader) (x y : List ℕ) → each r (x ++ y) ≡ after (each r x).found (each (each r x).reader y)
each-cut r [] y = rw (each-nothing r)
each-cut r (b ∷ x) y =
    by-newline b
    (λ e. rw (each-newline r b (x ++ y) e, each-newline r b x e, each-cut (line_end 0 r).reader x y)
    (ap (λ l. record { found = l; reader = (each (each (line_end 0 r).reader x).reader y).reader }) (sym (append_assoc (found_by (line_end 0 r)) _ _))))
    (λ e. rw (each-byte r b (x ++ y) e, each-byte r b x e) (each-cut (byte_on r b) x y))

-- what a call leaves of the bytes that it was given is read after it
abbrev rest_of : Taken → List ℕ → Run
rest_of t whole = after (found_by t) (each t.reader (drop t.used whole))

-- where `p` of them are behind
call_behind : (p s : List ℕ) (r : Reader) → each r s ≡ rest_of (take_from (length p) r s) (p ++ s)
call_behind p [] r = rw (take_nothing (length p) r, append-nil p, drop-length p)
call_behind p (b ∷ s) r =
    let longer : length (p ++ (b ∷ [])) ≡ length p + 1 = length-append p (b ∷ []) in
    let passed : drop (length p + 1) (p ++ (b ∷ s)) ≡ s = rw (← append_snoc p b s) (drop_at (p ++ (b ∷ [])) s (length p + 1) longer) in
    by-newline b
    (λ e. rw (each-newline r b s e, take-newline (length p) r b s e, line-used (length p + 1) r, passed))
    (λ e. rw (each-byte r b s e, take_byte (length p) r b s e, ← longer, ← append_snoc p b s) (call_behind (p ++ (b ∷ [])) s (byte_on r b)))

used_more : (used : ℕ) (r : Reader) (s : List ℕ) → used ≤ (take_from used r s).used
used_more used r [] = rw (take_nothing used r) (omega arith)
used_more used r (b ∷ s) =
    by-newline b
    (λ e. rw (take-newline used r b s e, line-used (used + 1) r) (omega arith))
    (λ e. rw (take_byte used r b s e) (omega (arith, used_more (used + 1) (byte_on r b) s)))

-- a call on some bytes reads at least one of them
used-some : (r : Reader) (b : ℕ) (s : List ℕ) → 1 ≤ (take_of r (b ∷ s)).used
used-some r b s =
    by-newline b
    (λ e. rw (take-newline 0 r b s e, line-used 1 r) (omega arith))
    (λ e. rw (take_byte 0 r b s e) (used_more 1 (byte_on r b) s))

-- and no more than there are
used_inside : (used : ℕ) (r : Reader) (s : List ℕ) → (take_from used r s).used ≤ used + length s
used_inside used r [] = rw (take_nothing used r) (omega arith)
used_inside used r (b ∷ s) =
    by-newline b
    (λ e. rw (take-newline used r b s e, line-used (used + 1) r) (omega arith))
    (λ e. rw (take_byte used r b s e) (omega (arith, used_inside (used + 1) (byte_on r b) s)))

-- so that a caller's loop over a chunk ends, and stays inside it
pub used-of : (r : Reader) (s : List ℕ) → 0 < length s → (1 ≤ (take_of r s).used) × ((take_of r s).used ≤ length s)
used-of r [] some = absurd (omega arith)
used-of r (b ∷ s) some = (used-some r b s, omega (arith, used_inside 0 r (b ∷ s)))

calls-each : (n : ℕ) (r : Reader) (s : List ℕ) → length s ≤ n → chunk_in n r s ≡ each r s
unfolding chunk_in
calls-each zero r [] h = sym (each-nothing r)
calls-each zero r (b ∷ s) h = absurd (omega arith)
calls-each (suc n) r [] h = sym (each-nothing r)
calls-each (suc n) r (b ∷ s) h =
    let t = take_of r (b ∷ s) in
    let fewer : length (drop t.used (b ∷ s)) ≤ n = rw (length-drop t.used (b ∷ s)) (omega (arith, used-some r b s)) in
    rw (calls-each n t.reader (drop t.used (b ∷ s)) fewer) (sym (call_behind [] (b ∷ s) r))

pub chunk-each : (r : Reader) (s : List ℕ) → chunk_of r s ≡ each r s
chunk-each r s = calls-each (length s) r s (omega arith)

-- a chunk is what the first call finds, and then what is left of it
pub chunk_turn : (r : Reader) (s : List ℕ) → chunk_of r s ≡ after (found_by (take_of r s)) (chunk_of (take_of r s).reader (drop (take_of r s).used s))
chunk_turn r s =
    let t = take_of r s in
    chunk-each r s ∙ call_behind [] s r ∙ ap (after (found_by t)) (sym (chunk-each t.reader (drop t.used s)))
