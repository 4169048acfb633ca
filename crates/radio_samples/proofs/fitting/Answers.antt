-- `fitting` meets its contract: a count that has no row, one test a slice and one of the bytes, or the row. Assumes nothing.
use mathlib.Core.Path.{◌≡◌, sym, ap, ◌∙◌}
use Rattle.std.specs.Prelude.{Some}
use Rattle.std.specs.Result.{result_ok}
use Rattle.layout.specs.Slots.{slots, values}
use native.Mathlib.Omega.{arith}
use Rattle.radio_samples.proofs.Roomy.{looked_up, all_there}
use Rattle.radio_samples.proofs.fitting.Goals as goal

pub returns : goal.returns
returns c =
    let row = c.in_ok-row.row in
    let is = looked_up c.args.receivers row (ap result_ok (sym c.row_of.ensures) ∙ sym c.ok.ensures.value ∙ c.in_ok-row.was) in
    let same = ap (λ r. r.receivers) is.1 in
    let values_are : values row.receivers ≡ values c.args.receivers = ap values same in
    let slots_are : row.slots ≡ slots c.args.receivers = row.rule.slots_is ∙ ap slots same in
    ap Some is.1 ∙ sym (all_there _ _ _ _ _ is.0 (omega arith) (omega arith) (omega arith))
