-- `Writer::put` meets its contract: there is no room, or as much as there is room for is copied. Assumes nothing.
use mathlib.Core.Path.{refl}
use native.Mathlib.Omega.{arith}
use Rattle.text.proofs.Puts.{put_full, put_room}
use Rattle.text.proofs.Writer.put.Goals as goal

pub returns-then-out-at : goal.returns-then-out-at
returns-then-out-at c = record { same = refl; put = put_full _ _ _ c.if-out-at.true }

pub returns : goal.returns
returns c = record { same = refl; put = put_room _ _ _ _ (omega arith) c.min-n.ensures c.copy_from_slice.ensures.after }
