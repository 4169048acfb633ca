-- Any two outcomes that a call's contract admits coincide. Assumes nothing.
use mathlib.Core.Path.{◌≡◌}
use mathlib.Core.Bool.{Bool}
use mathlib.Core.List.{List}
use Prim.Native.Nat.{ℕ}
use Rattle.std.specs.Prelude.{Result}
use Rattle.wire.specs.Answers.{Answer}
use Rattle.wire.specs.declared.Refusal.{Refusal}
use Rattle.text.specs.Put.{Written}
use Rattle.hexline.specs.Printed.{row_of, row_for}
use Rattle.hexline.specs.Reader.{fresh_reader, take_of, end_of}
use Rattle.hexline.specs.Tally.{tally_of}
use Rattle.hexline.specs.declared.print.Columns.{Columns}
use Rattle.hexline.specs.declared.Reader.{Reader}
use Rattle.hexline.specs.declared.Taken.{Taken}
use Rattle.wire.proofs.Settled.{settled}

pub fresh_settled : (r s : Reader) → r ≡ fresh_reader → s ≡ fresh_reader → r ≡ s
fresh_settled r s = settled

pub take_settled : (given : Reader) (chunk : List ℕ) (r s : Taken) → r ≡ take_of given chunk → s ≡ take_of given chunk → r ≡ s
take_settled given chunk r s = settled

pub end_settled : (given : Reader) (r s : Taken) → r ≡ end_of given → s ≡ end_of given → r ≡ s
end_settled given r s = settled

-- both the number of bytes and the lent slice afterwards
pub row_settled : (number : ℕ) (answer : Answer) (address : ℕ) (dot dash ptt : Bool) (out : List ℕ) (r s : Written)
    → r ≡ row_of number answer address dot dash ptt out → s ≡ row_of number answer address dot dash ptt out → r ≡ s
row_settled number answer address dot dash ptt out r s = settled

pub row_for_settled : (number : ℕ) (read : Result Columns Refusal) (out : List ℕ) (r s : Written) → r ≡ row_for number read out → s ≡ row_for number read out → r ≡ s
row_for_settled number read out r s = settled

pub tally_settled : (frames skipped held : ℕ) (out : List ℕ) (r s : Written) → r ≡ tally_of frames skipped held out → s ≡ tally_of frames skipped held out → r ≡ s
tally_settled frames skipped held out r s = settled
