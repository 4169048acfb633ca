-- `gather_some` meets its contract: the bytes of a read go behind those that are there, and where it fails none do. Assumes nothing.
use Rattle.std.proofs.Common.{refl}
use Rattle.explaining.proofs.Reading.{read_gathers, refused_stays, on_err}
use Rattle.explaining.proofs.recording.Recording.gather_some.Goals as goal

pub returns-in_err-append-in-Ok-clause-stays : goal.returns-in_err-append-in-Ok-clause-stays
returns-in_err-append-in-Ok-clause-stays g c = on_err _ (refused_stays _ _ _ _ _ c.in_err-append-in-Ok.ensures.appends refl)

pub returns-in_ok-append-in-Ok-clause-reads : goal.returns-in_ok-append-in-Ok-clause-reads
returns-in_ok-append-in-Ok-clause-reads g c = read_gathers _ _ _ _ _ _ _ c.in_ok-append-in-Ok.ensures.appends refl c.in-Ok.ensures.bytes.0
