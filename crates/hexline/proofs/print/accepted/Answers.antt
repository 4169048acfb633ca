-- `print::accepted` meets its contract: the address, and then DOT, DASH and PTT. Assumes nothing.
use mathlib.Core.List.{append_assoc}
use Rattle.text.proofs.Puts.{puts_then}
use Rattle.hexline.proofs.Columns.{bit_flag}
use Rattle.hexline.proofs.print.accepted.Goals as goal

pub returns : goal.returns
returns c =
    let keys = rw (c.from.ensures, bit_flag) at c.column-2.ensures in
    let dash = rw (c.from-2.ensures, bit_flag) at c.column-3.ensures in
    let ptt = rw (c.from-3.ensures, bit_flag) at c.column-4.ensures in
    simp append_assoc
    (simp append_assoc at (puts_then (puts_then (puts_then (puts_then c.column.ensures keys) dash) ptt) c.byte.ensures))
