-- Document 01, "Frame and slots": "7F 7F 7F, then C0 to C4". Assumes nothing.
use Rattle.std.specs.Prelude.{ℕ, List, get_or}
use Rattle.wire.specs.declared.control.Control.{Control}

-- `get_or` gives 0 past the end
abbrev pub control_of : List ℕ → Control
control_of f = record { c0 = get_or f 3 0; c1 = get_or f 4 0; c2 = get_or f 5 0; c3 = get_or f 6 0; c4 = get_or f 7 0 }
