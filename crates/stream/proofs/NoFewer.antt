-- T-13 asks for no place too many, and speaks of something after a false match too: two inputs that are computed. Assumes nothing.
use mathlib.Core.Path.{◌≡◌, refl, sym, ap, ◌∙◌}
use mathlib.Core.Bool.{true, not}
use mathlib.Core.List.{List, ◌++◌}
use Prim.Native.Nat.{ℕ, ◌+◌, ◌-◌, ◌≤◌}
use native.Mathlib.Omega.{arith}
use borrow.Author.Tests.{not-true}
use lib.ListN.{get_or, take, drop, replicate}
use Rattle.wire.proofs.Everywhere.{all_below, below}
use Rattle.reading.specs.Reading.{good, leaving, frame, ◌and_then◌, reading}
use Rattle.reading.specs.UpTo.{up_to}
use Rattle.stream.proofs.FoundAgain.{found_again}
use Rattle.stream.specs.Clear.{Clear, Found}

-- one frame, by a test of it and of each of the n places before it
clear_by_test : (n : ℕ) (s : List ℕ) (p : ℕ) → n ≤ p → good s p ≡ true → all_below n (λ i. not (good s (p - n + i))) ≡ true → Clear n s p 1
clear_by_test n s p all here none =
    record {
      some = omega arith;
      in_a_row = λ j h. ap (good s) (omega arith) ∙ here;
      before =
          λ k low high.
          let is : p - n + (k - (p - n)) ≡ k = omega arith in
          ap (good s) (sym is) ∙ not-true (good s (p - n + (k - (p - n)))) (below n (λ i. not (good s (p - n + i))) none (k - (p - n)) (omega arith));
    }

-- sync at 0 and 512, and at 511 and 1023
abbrev input : List ℕ
input = replicate 3 0x7f ++ replicate 508 0 ++ replicate 4 0x7f ++ replicate 508 0 ++ replicate 3 0x7f

pub false_match : good input 0 ≡ true
false_match = refl

-- place 511 begins a good frame, and none of the 510 places before it does
pub clear_of_510 : Clear 510 input 511 1
clear_of_510 = clear_by_test 510 input 511 (omega arith) refl refl

-- of the input one frame is handed out, the false one,
pub only_the_false_one : reading input ≡ frame (take 512 input) and_then leaving (drop 512 input)
unfolding reading
only_the_false_one = refl

-- and that is not the one from 511 on
pub another : take 512 input ≡ take 512 (drop 511 input) → ⊥
another same = absurd (omega (arith, ap (λ l. get_or l 3 0) same))

-- so with 510 places in its premise T-13's theorem is false
pub no_fewer : ((s : List ℕ) (p b : ℕ) → Clear 510 s p b → Found s p b (reading s).handed) → ⊥
unfolding reading
no_fewer claimed = absurd (omega (arith, (claimed input 511 1 clear_of_510).comes.end_is))

-- the same with a good frame behind the one that is lost, by sync at 1535
abbrev longer : List ℕ
longer = input ++ replicate 509 0 ++ replicate 3 0x7f

-- of that one the theorem speaks, and it is handed out, behind the false one
pub clear_behind : Clear 511 longer 1023 1
clear_behind = clear_by_test 511 longer 1023 (omega arith) refl refl

pub found_behind : Found longer 1023 1 (reading longer).handed
found_behind = found_again longer 1023 1 clear_behind

pub one_in_front : (up_to 1023 longer).handed ≡ take 512 longer
unfolding reading
one_in_front = refl
