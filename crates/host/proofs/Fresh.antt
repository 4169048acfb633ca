-- Eleven all-zero words, read into any record, leave the fresh one. Assumes nothing.
use mathlib.Core.Path.{◌≡◌, refl, sym, ap, subst⁻¹, ◌∙◌}
use mathlib.Core.List.{List}
use Prim.Native.Nat.{ℕ, suc, ◌*◌, ◌<◌}
use native.Mathlib.Omega.{arith}
use borrow.Author.Tests.{ne_eqb}
use lib.ListN.{length, get_or-replicate}
use Rattle.wire.specs.Fields.{bit, on}
use Rattle.wire.specs.Numbers.{Bytes}
use Rattle.host_words.proofs.Carries.{own_entry}
use Rattle.wire.proofs.Everywhere.{below}
use Rattle.host.proofs.ReadCases.{Good}
use Rattle.host.proofs.Told.{Says, Each, each, among, wholly_told}
use Rattle.host.specs.Read.{Call, reads}
use Rattle.wire.specs.Control.{control_of}
use Rattle.host_record.specs.Record.{Same, Seven, fresh}
use Rattle.host_words.specs.Words.{last_word, listed_words, address, heard, after}
use Rattle.host_record.specs.declared.record.Host.{Host}
use Rattle.wire.specs.declared.control.Control.{Control}

-- word w with MOX off and C1 to C4 all zero
abbrev pub zero_word : ℕ → Control
zero_word w = record { c0 = 2 * w; c1 = 0; c2 = 0; c3 = 0; c4 = 0 }

-- an accepted frame of that word, whatever its samples
pub record Zero (w : ℕ) (x : Call) : Type 0 where
  pub bytes : Bytes x.frame
  pub good : Good x.frame (length x.audio)
  pub zeros : control_of x.frame ≡ zero_word w

zero_fields : (w : ℕ) (g : Host) → Seven g → Same w (heard w (zero_word w) g) fresh
unfolding heard
zero_fields w g long =
    record {
      zeroth = λ z. rw z;
      first = λ z. rw z;
      receiver = λ i small z. own_entry w (zero_word w) g i small z long ∙ sym (get_or-replicate 7 i 0 0 small);
      ninth = λ z. rw z;
      tenth = λ z. rw z;
    }

says-fresh : (w : ℕ) (x : Call) → Zero w x → Says fresh w x
says-fresh w x zero =
    let byte : 2 * w < 256 = rw (ap (λ c. c.c0) zero.zeros) at (zero.bytes 3) in
    let word : address (zero_word w) ≡ w = omega arith in
    record {
      good = zero.good;
      word = ap address zero.zeros ∙ word;
      keyed = ap (λ c. on c.c0 0) zero.zeros ∙ ne_eqb (bit (2 * w) 0) 1 (omega arith);
      fields = λ g long.
          subst⁻¹ (λ c. Same w (after c g) fresh) zero.zeros
          (subst⁻¹ (λ a. Same w (heard a (zero_word w) g) fresh) word (zero_fields w g long));
    }

pub fresh_from_zeros : (xs : List Call) (h : Host) → Seven h → Each Zero listed_words xs → reads xs h ≡ fresh
fresh_from_zeros xs h long zeros =
    wholly_told fresh listed_words xs h (λ w low. below (suc last_word) (λ v. among v listed_words) refl w (omega arith)) (each Zero (Says fresh) says-fresh listed_words xs zeros) refl long
