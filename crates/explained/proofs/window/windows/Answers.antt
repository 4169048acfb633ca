-- `window::windows` meets its contract: around the place, and then around the others. Assumes nothing.
use Rattle.std.proofs.Common.{inl, inr}
use Rattle.explained.specs.Window.{windows_of}
use Rattle.text.proofs.Puts.{puts_then, puts_nothing}
use Rattle.explained.proofs.window.windows.Goals as goal

pub returns-in-Inside : goal.returns-in-Inside
unfolding windows_of
returns-in-Inside c = rw (← c.of-looked.ensures, c.in-Inside.is) (puts_then c.window.ensures c.of_frame.ensures)

pub returns-in-Far : goal.returns-in-Far
unfolding windows_of
returns-in-Far c = rw (← c.of-looked.ensures, c.in-Far.is) (puts_then c.window.ensures c.window-in-Far.ensures)

pub returns-in-NotGiven : goal.returns-in-NotGiven
unfolding windows_of
returns-in-NotGiven c =
    let said = puts_then c.window.ensures puts_nothing in
    elim c.in-NotGiven.is [
      | inl e ↦ rw (← c.of-looked.ensures, e) said
      | inr others ↦ elim others [ inl near ↦ rw (← c.of-looked.ensures, near.1) said | inr e ↦ rw (← c.of-looked.ensures, e) said ]
    ]
