-- `stream_door::stream_sound` meets its contract: no cells for a record, an unsound one, or a sound one. Assumes nothing.
use mathlib.Core.Path.{sym, ap, ◌∙◌}
use Rattle.stream.specs.Record.{sound_of}
use Rattle.stream_cells.proofs.Cases.{stream-held}
use Rattle.stream_door.proofs.StreamCases.{sound_bad, sound_good}
use Rattle.stream_door.proofs.stream_sound.Goals as goal

pub returns-then-is_none : goal.returns-then-is_none
returns-then-is_none c = sym (sound_bad _ _ (sym c.room.ensures.some ∙ c.if-is_none.ensures))

pub returns-then-not-sound : goal.returns-then-not-sound
returns-then-not-sound c =
    let fits = sym c.room.ensures.some ∙ c.if-is_none.ensures in
    let tested = sym (c.sound.ensures ∙ ap sound_of (c.stream_in.ensures ∙ stream-held _ _ fits)) in
    sym (sound_good _ _ fits _ (tested ∙ c.if-not-sound.true))

pub returns : goal.returns
returns c =
    let fits = sym c.room.ensures.some ∙ c.if-is_none.ensures in
    let tested = sym (c.sound.ensures ∙ ap sound_of (c.stream_in.ensures ∙ stream-held _ _ fits)) in
    sym (sound_good _ _ fits _ (tested ∙ c.if-not-sound.false))
