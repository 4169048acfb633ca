-- What is left in the cells, in its cases: too few of them, a refusal, and an accepted call. Assumes nothing.
use mathlib.Core.Path.{◌≡◌, refl, sym, ◌∙◌}
use mathlib.Core.Bool.{cond, true, false≢true}
use mathlib.Core.List.{List, ◌++◌}
use Prim.Native.Nat.{ℕ, ◌+◌, ◌<◌, ◌≤◌}
use native.Mathlib.Omega.{arith}
use borrow.Author.Tests.{ne_eqb, eq-eqb, lt-ltb, le-ltb, lt-leb, le-leb}
use lib.ListN.{length, drop}
use lib.Seq.{sets}
use Rattle.wire.proofs.Cases.{by_order}
use Rattle.std.specs.Prelude.{Err, leb}
use Rattle.wire.specs.Answers.{Answer, number_of, accepts}
use Rattle.wire.specs.declared.Refusal.{Refusal}
use Rattle.wire.proofs.First.{only_accepted}
use Rattle.cells.specs.Cells.{within, bad_state, kept, put_over, wrote, offered}
use Rattle.cells.proofs.Back.{over}
use Rattle.cells.proofs.Tested.{too_few}

-- what an answer picks
module _ {A : Type 0} (answer : Answer) (x y : A) where
  pub if_refused : (number_of answer ≡ 0 → ⊥) → cond (accepts answer) x y ≡ y
  if_refused not_accepted = rw (ne_eqb (number_of answer) 0 not_accepted)

  pub if_accepted : number_of answer ≡ 0 → cond (accepts answer) x y ≡ x
  if_accepted accepted = rw (eq-eqb (number_of answer) 0 accepted)

module _ (answer : Answer) (fields cells : List ℕ) where
  pub kept-refused : (number_of answer ≡ 0 → ⊥) → kept answer fields cells ≡ cells
  kept-refused not_accepted = if_refused answer (sets cells 0 fields) cells not_accepted

  pub kept-accepted : number_of answer ≡ 0 → kept answer fields cells ≡ sets cells 0 fields
  kept-accepted accepted = if_accepted answer (sets cells 0 fields) cells accepted

pub kept-err : (refusal : Refusal) (fields cells : List ℕ) → kept (Err refusal) fields cells ≡ cells
kept-err refusal fields cells = kept-refused (Err refusal) fields cells (λ none. cc (only_accepted (Err refusal) none))

-- cells that can be a record's are enough of them
pub enough : (most cells : List ℕ) → within most cells ≡ true → length most ≤ length cells
enough most cells fits = by_order (length cells) (length most) (λ few. absurd (false≢true (sym (too_few most cells few) ∙ fits))) (λ many. many)

module _ (cells : List ℕ) (place : ℕ) (fields : List ℕ) where
  -- what `wire::copy::put` leaves
  pub put_is : cond (leb (place + length fields) (length cells)) (sets cells place fields) cells ≡ put_over cells place fields
  unfolding put_over
  put_is = refl

  pub put_few : length cells < place + length fields → put_over cells place fields ≡ cells
  unfolding put_over
  put_few few = rw (lt-leb (place + length fields) (length cells) few)

  pub put_room : place + length fields ≤ length cells → put_over cells place fields ≡ sets cells place fields
  unfolding put_over
  put_room room = rw (le-leb (place + length fields) (length cells) room)

pub put_first : (cells fields : List ℕ) → length fields ≤ length cells → put_over cells 0 fields ≡ sets cells 0 fields
put_first cells fields room = put_room cells 0 fields (omega arith)

module _ (fields cells : List ℕ) where
  pub offered_few : length cells < length fields → wrote bad_state cells ≡ offered fields cells
  unfolding offered
  offered_few few = rw (lt-ltb (length cells) (length fields) few)

  -- the fields copied over the first cells, with what stood behind those
  pub offered_over : (copied : List ℕ) → copied ≡ fields → length fields ≤ length cells → wrote 0 (copied ++ drop (length fields) cells) ≡ offered fields cells
  unfolding offered
  offered_over copied same room =
      let first : 0 + length fields ≡ length fields = omega arith in
      rw (same, le-ltb (length cells) (length fields) room, over fields cells room, first)
