-- `hpsdr_plain_read` meets its contract: the plain reader, with what it gives as one number. Assumes nothing.
use mathlib.Core.Path.{sym, ap, ◌∙◌, subst⁻¹}
use Rattle.std.specs.Prelude.{Err}
use Rattle.cells.specs.Cells.{wrote}
use Rattle.plain.specs.Plain.{Outcome, Few}
use Rattle.plain.proofs.Counts.{few}
use Rattle.hpsdr_plain.specs.Plain.{shown}
use Rattle.hpsdr_plain.proofs.Tells.{shown-is, no_counts}
use Rattle.hpsdr_plain.proofs.hpsdr_plain_read.Goals as goal

pub returned-requires : goal.returned-requires
returned-requires c =
    subst⁻¹ (λ (o : Outcome). Few o.frames o.skipped o.left) c.in-Ok.ensures (few c.args.input.now c.args.output.now)

pub returns-in-Ok : goal.returns-in-Ok
returns-in-Ok c =
    ap (λ k. wrote k c.read.new.output) c.returned.ensures
    ∙ ap shown c.in-Ok.ensures
    ∙ sym (shown-is c.args.input.now c.args.output.now)

pub returns-in-Err : goal.returns-in-Err
returns-in-Err c =
    ap (λ k. wrote k c.read.new.output) (c.tell.ensures.0 ∙ no_counts (Err c.in-Err.refusal))
    ∙ ap shown c.in-Err.ensures
    ∙ sym (shown-is c.args.input.now c.args.output.now)
