-- A contract that is one equation settles its outcome: two that meet it coincide. Assumes nothing.
use mathlib.Core.Path.{◌≡◌, sym, ◌∙◌}

pub settled : {A : Type 0} {x y z : A} → x ≡ z → y ≡ z → x ≡ y
settled p q = p ∙ sym q
