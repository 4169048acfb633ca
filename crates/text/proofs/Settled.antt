-- Any two outcomes that a call's contract admits coincide. Assumes nothing.
use mathlib.Core.Path.{◌≡◌, ap}
use mathlib.Core.List.{List}
use Prim.Native.Nat.{ℕ}
use Rattle.std.specs.Prelude.{Option}
use Rattle.wire.proofs.Settled.{settled}
use Rattle.text.specs.Put.{Written, gave, put_of, Puts}
use Rattle.text.specs.declared.Writer.{Writer}
use Rattle.text.specs.Place.{place_of}

-- both the count and the lent slice afterwards
pub written_settled : (w : Written) (r s : ℕ) (one other : List ℕ) → gave r one ≡ w → gave s other ≡ w → (r ≡ s) × (one ≡ other)
written_settled w r s one other p q =
    let same : gave r one ≡ gave s other = settled p q in
    (ap (λ (v : Written). v.count) same, ap (λ (v : Written). v.out) same)

-- whatever the text: a byte, bytes, a number or a byte in hexadecimal
pub put_settled : (out : List ℕ) (at : ℕ) (text : List ℕ) (r s : ℕ) (one other : List ℕ) → gave r one ≡ put_of out at text → gave s other ≡ put_of out at text → (r ≡ s) × (one ≡ other)
put_settled out at text = written_settled (put_of out at text)

-- a writer after a text: the place, and what the slice holds
pub puts_settled : (before one other : Writer) (text : List ℕ) → Puts before one text → Puts before other text → (one.at ≡ other.at) × (one.out.now ≡ other.out.now)
puts_settled before one other text p q = put_settled before.out.now before.at text one.at other.at one.out.now other.out.now p.put q.put

pub place_settled : (text : List ℕ) (r s : Option ℕ) → r ≡ place_of text → s ≡ place_of text → r ≡ s
place_settled text r s = settled
