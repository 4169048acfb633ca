-- `scan::scan` meets its contract: a reading where all fits, and of nothing where it does not. Assumes nothing.
use mathlib.Core.Path.{sym, ◌∙◌}
use Rattle.stream.proofs.Scanning.{scans_nothing}
use Rattle.stream.proofs.scan.scan.Goals as goal

pub returns-then-not-fits : goal.returns-then-not-fits
returns-then-not-fits c = rw (sym c.fits.ensures ∙ c.if-not-fits.true) (scans_nothing _)
