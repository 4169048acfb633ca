-- `close` is safe: the closing line is inside the text. Assumes nothing.
use Rattle.std.proofs.Common.{sym}
use Rattle.std.proofs.Math.Seq.{length-take-le}
use Rattle.hexline.proofs.Tallied.{tally_inside}
use Rattle.framing.proofs.close.Goals as goal

pub slice_bounds-line-end : goal.slice_bounds-line-end
slice_bounds-line-end g c = tally_inside _ _ _ _ _ _ c.closing-n.ensures

pub slice_bounds-line-end-2 : goal.slice_bounds-line-end-2
slice_bounds-line-end-2 g c = sym (length-take-le _ _ (tally_inside _ _ _ _ _ _ c.closing-n.ensures))
