-- A recording's frames, printed and then listed: however its bytes are cut, a listing finds the frames of one reading of the whole of it,
-- line for line, and no other line. Assumes nothing.
use mathlib.Core.Path.{◌≡◌, ap, ◌∙◌}
use mathlib.Core.List.{List, map}
use native.Mathlib.Omega.{arith}
use Rattle.wire.specs.Lists.{tab}
use Rattle.wire.specs.Numbers.{Bytes}
use Rattle.reading.specs.Reading.{reading}
use Rattle.stream.specs.Record.{fresh_of}
use Rattle.stream.specs.Run.{Call, AllAccepted, pieces}
use Rattle.reading.proofs.Readings.{counted}
use Rattle.hexline.specs.Lines.{a_frame, content_of, lines}
use Rattle.framed.specs.Hexadecimal.{frame_at}
use Rattle.framed.specs.Texts.{printed_by}
use Rattle.framed.proofs.AllBytes.{bytes-handed}
use Rattle.framed.proofs.ReadBack.{read_back}
use Rattle.framed.proofs.WholeInput.{whole_input}

pub to_a_listing : (calls : List Call) → AllAccepted fresh_of calls → Bytes (pieces calls)
    → map content_of (lines (printed_by fresh_of calls)) ≡ tab (reading (pieces calls)).frames (λ t. a_frame (frame_at (reading (pieces calls)).handed t))
to_a_listing calls accepted small =
    let whole = reading (pieces calls) in
    ap (λ text. map content_of (lines text)) (whole_input calls accepted)
    ∙ read_back whole.frames whole.handed (bytes-handed (pieces calls) small) (omega (arith, (counted (pieces calls)).whole))
