-- T-02, "tell me which byte": the first place at which a test fails. Assumes nothing.
use Rattle.std.specs.Prelude.{ℕ, suc, ◌<◌, ◌≤◌, Bool, true, false, cond, List, [], ◌∷◌, ◌≡◌, eqb, get_or}

-- the least place of a list at which a test fails, from 0; its length where the test fails nowhere
abbrev pub first_wrong : {A : Type 0} → (A → Bool) → List A → ℕ
first_wrong right [] = 0
first_wrong right (x ∷ xs) = cond (right x) (suc (first_wrong right xs)) 0

-- "the first of the bytes .. that isn't" the one that is due
abbrev pub first_other : ℕ → List ℕ → ℕ
first_other due bytes = first_wrong (λ b. eqb b due) bytes

-- what is promised of a byte that is named: it is one of those from a place on and before another, it is not the one that is
-- due, and each of them before it is
pub record FirstNot (due : ℕ) (frame : List ℕ) (start end : ℕ) (named : ℕ) : Type 0 where
  pub from_start : start ≤ named
  pub before_end : named < end
  pub wrong : eqb (get_or frame named 0) due ≡ false
  pub right_before : (k : ℕ) → start ≤ k → k < named → eqb (get_or frame k 0) due ≡ true
