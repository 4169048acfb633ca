-- `fields::field` meets its contract: the cases of `bits` that its tests tell apart. Assumes nothing.
use mathlib.Core.Path.{sym}
use Prim.Native.Nat.{◌+◌, ◌-◌}
use native.Mathlib.Nat.{zero-mod}
use lib.Pow.{pow_pos}
use Rattle.wire.proofs.Pack.{past_byte, all-bits, modulus}
use Rattle.wire.proofs.fields.field.Goals as goal

pub returns-then-lo-gt7 : goal.returns-then-lo-gt7
returns-then-lo-gt7 c = rw (past_byte _ 0 c.args.lo c.ranges.c.fits c.if-lo-gt7.true) (sym (zero-mod _))

pub returns-then-width-ge7 : goal.returns-then-width-ge7
returns-then-width-ge7 c =
    sym (all-bits _ c.args.hi c.args.lo c.ranges.c.fits c.if-hi-lo.false c.if-width-ge7.true)

pub nonzero_rem-result : goal.nonzero_rem-result
nonzero_rem-result c =
    rw (modulus c.args.hi c.args.lo c.if-hi-lo.false c.if-width-ge7.false) (pow_pos (c.args.hi + 1 - c.args.lo))

pub returns : goal.returns
returns c =
    rw (modulus c.args.hi c.args.lo c.if-hi-lo.false c.if-width-ge7.false)
