-- Lists by index, and lists one after another: what is read into a lent slice, and what is written into a frame. Assumes nothing.
use Rattle.std.specs.Prelude.{ℕ, zero, suc, List, [], ◌∷◌, ◌++◌, take, drop}

module _ {A : Type 0} where
  -- f 0, f 1, .. f (n - 1)
  abbrev pub tab : ℕ → (ℕ → A) → List A
  tab zero f = []
  tab (suc n) f = tab n f ++ (f n ∷ [])

  -- the first n values written over the start of xs, which keeps its remainder
  abbrev pub over : ℕ → (ℕ → A) → List A → List A
  over n f xs = tab n f ++ drop n xs

  -- n values written over xs from a place on
  abbrev pub over_at : ℕ → ℕ → (ℕ → A) → List A → List A
  over_at at n f xs = take at xs ++ over n f (drop at xs)

  -- the lists f 0, f 1, .. f (n - 1), one after another
  abbrev pub tabs : ℕ → (ℕ → List A) → List A
  tabs zero f = []
  tabs (suc n) f = tabs n f ++ f n
