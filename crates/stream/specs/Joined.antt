-- What is held and the piece behind it, as one list of bytes. Assumes nothing.
use Rattle.std.specs.Prelude.{ℕ, List, ◌++◌}
use Rattle.stream.specs.declared.parts.Joined.{Joined}

abbrev pub bytes : Joined → List ℕ
bytes j = j.held.now ++ j.piece.now
