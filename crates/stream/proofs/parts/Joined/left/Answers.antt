-- `Joined::left` meets its contract: all from the place on, over cells that are zero. Assumes nothing.
use mathlib.Core.Path.{◌∙◌}
use Prim.Native.Nat.{◌-◌}
use native.Mathlib.Omega.{arith}
use lib.ListN.{drop, length-drop}
use lib.Seq.{take_all}
use Rattle.stream.proofs.Cells.{sets-zeros}
use Rattle.stream.specs.Joined.{bytes}
use Rattle.stream.proofs.parts.Joined.left.Goals as goal

pub returns : goal.returns
returns c =
    let rest = drop c.args.place (bytes c.args.self.now) in
    let long = length-drop c.args.place (bytes c.args.self.now) in
    c.put_part.ensures ∙ rw (take_all (c.len.result - c.args.place) rest (omega arith)) (sets-zeros 514 rest (omega arith))
