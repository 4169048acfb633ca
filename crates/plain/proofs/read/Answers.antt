-- `read` meets its contract: each turn of its loop is a step of the reading. Assumes nothing.
use mathlib.Core.Path.{◌≡◌, sym, ◌∙◌}
use mathlib.Core.Bool.{false, and-false}
use native.Mathlib.Omega.{arith}
use Rattle.wire.specs.Sync.{sync_at}
use Rattle.reading.specs.Reading.{good}
use Rattle.plain.proofs.Cases.{input_too_long, output_too_short, reads}
use Rattle.plain.proofs.Following.{hands_out, skips_one, ends}
use Rattle.plain.proofs.read.Goals as goal
use Rattle.plain.proofs.read.Goals.{else-sync_at-via-then-sync_at+else-sync_at-2, else-sync_at-via-else-sync_at}

pub returns-then-length-gt-MOST : goal.returns-then-length-gt-MOST
returns-then-length-gt-MOST c =
    sym (input_too_long c.args.input.now c.args.output.now (omega arith))

pub returns-then-output-length : goal.returns-then-output-length
returns-then-output-length c =
    sym (output_too_short c.args.input.now c.args.output.now (omega arith) (omega arith))

pub loop-place-preserved-then-sync_at-2 : goal.loop-place-preserved-then-sync_at-2
loop-place-preserved-then-sync_at-2 c =
    hands_out c.loop-place.invariant c.put.new.to (sym c.if-sync_at.ensures) (sym c.if-sync_at-2.ensures) (omega arith) c.put.ensures

pub loop-place-preserved : goal.loop-place-preserved
loop-place-preserved c =
    let input = c.args.input.now in
    let place = c.loop-place.place in
    let none : good input place ≡ false =
    elim c.else-sync_at.branch [
      | else-sync_at-via-then-sync_at+else-sync_at-2 w ↦ rw (sym w.if-sync_at-2.ensures) (and-false (sync_at input place))
      | else-sync_at-via-else-sync_at w ↦ rw (sym w.if-sync_at.ensures)
    ] in
    skips_one c.loop-place.invariant none (omega arith)

pub returns : goal.returns
returns c =
    ends c.loop-place.invariant (omega arith)
    ∙ sym (reads c.args.input.now c.args.output.now (record { short = omega arith; room = omega arith }))
