-- `host_door::build` meets its contract: cells that are no builder, or the build of the builder that they are. Assumes nothing.
use mathlib.Core.Path.{sym, ◌∙◌}
use native.Mathlib.Omega.{arith}
use Rattle.std.proofs.lemmas.Result.{err_from_is_err_and}
use Rattle.host_from_cells.specs.FromCells.{builder_most}
use Rattle.cells.proofs.Cases.{enough}
use Rattle.host_door.proofs.HostCases.{build_bad, build-refused, build-accepted}
use Rattle.host_door.proofs.build.Goals as goal

pub returns-then-not-is_builder : goal.returns-then-not-is_builder
returns-then-not-is_builder c = sym (build_bad _ _ _ (sym c.is_builder.ensures ∙ c.if-not-is_builder.true))

pub returns-in_err-next : goal.returns-in_err-next
returns-in_err-next c =
    let good = sym c.is_builder.ensures ∙ c.if-not-is_builder.false in
    let p = err_from_is_err_and c.from_residual.result c.from_residual.ensures.1 in
    rw (p.1, p.2) (build-refused _ _ _ good c.builder_in.ensures _ _ c.in_err-next.ensures)

pub bounds-builder-62 : goal.bounds-builder-62
bounds-builder-62 c =
    omega (arith, enough builder_most c.args.builder.now (sym c.is_builder.ensures ∙ c.if-not-is_builder.false))

pub returns : goal.returns
returns c =
    let good = sym c.is_builder.ensures ∙ c.if-not-is_builder.false in
    build-accepted _ _ _ good c.builder_in.ensures _ _ c.in_ok-next.ensures
