-- Texts put into a slice one after another. Assumes nothing.
use mathlib.Core.Path.{◌≡◌, refl, sym, ap, ◌∙◌}
use mathlib.Core.Bool.{Bool, true, false, cond}
use mathlib.Core.List.{List, [], ◌∷◌, ◌++◌, append_assoc}
use Prim.Native.Nat.{ℕ, suc, ◌+◌, ◌-◌, ◌<◌, ◌≤◌, min}
use native.Mathlib.Nat.{zero-add, add-zero}
use native.Mathlib.Numerals.{add-one}
use native.Mathlib.Omega.{arith}
use borrow.Author.Tests.{lt-ltb, le-ltb}
use borrow.Rule.Slice.PartMut.{put_mid, Post-is}
use lib.ListN.{length, take, drop, set, take-append-drop, length-append, length-set}
use lib.Seq.{sets, sets-eq, length-sets, take_all, length-take-le}
use Rattle.wire.proofs.Cases.{by_order}
use Rattle.wire.proofs.Lists.{sets-append}
use Rattle.text.specs.Put.{Written, gave, written, put_of, Put, Puts}
use Rattle.text.specs.declared.Writer.{Writer}

module _ (out : List ℕ) (at : ℕ) where
  pub put_none : Put out at [] (at + 0) out
  put_none = record { place = refl; stored = refl }

  pub put_one : (b : ℕ) → Put out at (b ∷ []) (at + 1) (set out at b)
  put_one b = record { place = refl; stored = refl }

  module _ {text : List ℕ} {next : ℕ} {after : List ℕ} (done : Put out at text next after) where
    -- one text after another
    pub put_then : {text' : List ℕ} {next' : ℕ} {after' : List ℕ} → Put after next text' next' after' → Put out at (text ++ text') next' after'
    put_then {text'} {next'} {after'} then =
        record {
          place = rw (length-append text text') (omega arith);
          stored = then.stored ∙ rw (done.stored, done.place) (sets-append out at text text');
        }

    pub put_length : length after ≡ length out
    put_length = ap length done.stored ∙ length-sets out at text

-- a text at the start
pub put_whole : (out text : List ℕ) (next : ℕ) (after : List ℕ) → length text ≤ length out → Put out 0 text next after → gave next after ≡ written text out
put_whole out text next after room done =
    rw (done.place, done.stored, sets-eq text out 0 (omega arith), zero-add (length text))

-- what is written is inside the slice
pub written-inside : (text out : List ℕ) (r : ℕ) (after : List ℕ) → gave r after ≡ written text out → r ≤ length after
written-inside text out r after e =
    let count_is : r ≡ length text = ap (λ (w : Written). w.count) e in
    let out-is : after ≡ text ++ drop (length text) out = ap (λ (w : Written). w.out) e in
    omega (arith, ap length out-is, length-append text (drop (length text) out))

-- nor is more than is there where a call may write nothing
pub cond-inside : (none : Bool) (text out : List ℕ) (r : ℕ) (after : List ℕ) → gave r after ≡ cond none (gave 0 out) (written text out) → r ≤ length after
cond-inside true text out r after e = let nothing : r ≡ 0 = ap (λ (w : Written). w.count) e in omega arith
cond-inside false text out r after e = written-inside text out r after e

-- ---- as much as there is room for

module _ (out : List ℕ) (at : ℕ) where
  pub put_nothing : gave at out ≡ put_of out at []
  unfolding put_of
  put_nothing = refl

  pub put_byte : (b : ℕ) (text : List ℕ) → at < length out → put_of out at (b ∷ text) ≡ put_of (set out at b) (at + 1) text
  unfolding put_of
  put_byte b text room = rw (lt-ltb at (length out) room)

  pub put_full : (text : List ℕ) → length out ≤ at → gave at out ≡ put_of out at text
  unfolding put_of
  put_full [] full = refl
  put_full (b ∷ text) full = rw (le-ltb at (length out) full)

append_put : (out : List ℕ) (at : ℕ) (x y : List ℕ) → put_of out at (x ++ y) ≡ put_of (put_of out at x).out (put_of out at x).count y
append_put out at [] y = rw (← put_nothing out at)
append_put out at (b ∷ x) y =
    by_order at (length out)
    (λ room. rw (put_byte out at b (x ++ y) room, put_byte out at b x room) (append_put (set out at b) (at + 1) x y))
    (λ full. rw (← put_full out at (b ∷ x) full, ← put_full out at (b ∷ (x ++ y)) full) (put_full out at y full))

-- one text after another
pub and_then : (out : List ℕ) (at : ℕ) (x y : List ℕ) {mid after : List ℕ} {next r : ℕ} → gave next mid ≡ put_of out at x → gave r after ≡ put_of mid next y
    → gave r after ≡ put_of out at (x ++ y)
and_then out at x y one other = other ∙ ap (λ (w : Written). put_of w.out w.count y) one ∙ sym (append_put out at x y)

-- where there is room, all of it
pub room_put : (out : List ℕ) (at : ℕ) (text : List ℕ) → at + length text ≤ length out → put_of out at text ≡ gave (at + length text) (sets out at text)
room_put out at [] room = rw (add-zero at) (sym (put_nothing out at))
room_put out at (b ∷ text) room =
    let longer : at + suc (length text) ≡ at + 1 + length text = omega arith in
    rw (put_byte out at b text (omega arith), longer, ← add-one at)
    (room_put (set out at b) (at + 1) text (rw (length-set out at b) (omega arith)))

pub put_start : (out text : List ℕ) → length text ≤ length out → put_of out 0 text ≡ written text out
put_start out text room =
    room_put out 0 text (omega arith) ∙ put_whole out text (0 + length text) (sets out 0 text) room (record { place = refl; stored = refl })

-- what there is room for of a text, copied over a part of the slice
pub put_room : (out : List ℕ) (at : ℕ) (text : List ℕ) (n : ℕ) {part : List ℕ} → at ≤ length out → n ≡ min (length text) (length out - at) → part ≡ take n text
    → gave (at + n) (put_mid at (at + n - at) out part) ≡ put_of out at text
put_room out at text n {part} inside room is =
    let long : length (take n text) ≡ n = length-take-le n text (omega arith) in
    let fits : at + length (take n text) ≤ length out = omega arith in
    let over : put_mid at (at + n - at) out part ≡ sets out at (take n text) =
    rw (Post-is at (at + n) out (omega arith), is, sets-eq (take n text) out at fits, long, append_assoc) in
    let one : gave (at + n) (put_mid at (at + n - at) out part) ≡ put_of out at (take n text) =
    rw (over, room_put out at (take n text) fits, long) in
    by_order n (length text)
    (λ cut.
    let full : length (put_mid at (at + n - at) out part) ≤ at + n = omega (arith, ap length over, length-sets out at (take n text)) in
    and_then _ _ (take n text) (drop n text) one (put_full _ _ _ full) ∙ ap (put_of out at) (take-append-drop n text))
    (λ whole. one ∙ ap (put_of out at) (take_all n text whole))

-- ---- a writer

pub puts_nothing : {w : Writer} → Puts w w []
puts_nothing = record { same = refl; put = put_nothing _ _ }

-- one text after another
pub puts_then : {before mid after : Writer} {x y : List ℕ} → Puts before mid x → Puts mid after y → Puts before after (x ++ y)
puts_then one other = record { same = other.same ∙ one.same; put = and_then _ _ _ _ one.put other.put }

-- what a writer put stands in the slice when that is back with its owner
pub handed_back : {before w : Writer} {text after : List ℕ} → Puts before w text → w.out.now ≡ after → gave w.at after ≡ put_of before.out.now before.at text
handed_back {w} done back = ap (gave w.at) (sym back) ∙ done.put
