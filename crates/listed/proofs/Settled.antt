-- Any two outcomes that the contract of a call admits coincide: the place after the row, and the lent slice at exit. Assumes nothing.
use mathlib.Core.Path.{◌≡◌, sym, ap, ◌∙◌}
use mathlib.Core.List.{List}
use Prim.Native.Nat.{ℕ}
use Rattle.text.specs.Put.{gave}
use Rattle.hexline.specs.declared.Taken.{Taken}
use Rattle.listed.specs.Rows.{row_at}

pub row_settled : (taken : Taken) (at : ℕ) (out : List ℕ) (r s : ℕ) (one other : List ℕ) → gave r one ≡ row_at taken at out → gave s other ≡ row_at taken at out → (r ≡ s) × (one ≡ other)
row_settled taken at out r s one other p q = let same = p ∙ sym q in (ap (λ w. w.count) same, ap (λ w. w.out) same)
