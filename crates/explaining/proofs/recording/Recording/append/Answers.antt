-- `append` meets its contract: there are too many bytes, or they stand behind the others. Assumes nothing.
use Rattle.std.proofs.Common.{true, false, ◌+◌, length, ap, ◌∙◌, arith}
use Rattle.explaining.specs.Gathered.{kept}
use Rattle.explaining.proofs.Appending.{too_many, fits}
use Rattle.explaining.proofs.recording.Recording.append.Goals as goal

pub returns-then-self-bytes-clause-appends : goal.returns-then-self-bytes-clause-appends
returns-then-self-bytes-clause-appends c = too_many c.args.self.now.count c.args.bytes.now c.args.self.now.bytes (omega arith)

pub returns-clause-appends : goal.returns-clause-appends
returns-clause-appends c =
    ap (kept (record { count = c.args.self.now.count + length c.args.bytes.now; going = true; whole = false })) c.put.ensures
    ∙ fits c.args.self.now.count c.args.bytes.now c.args.self.now.bytes (omega arith)
