-- `Tested::of` meets its contract: by the reason. Assumes nothing.
use Rattle.std.proofs.Common.{inl, inr}
use Rattle.explained.specs.Window.{tested_of}
use Rattle.explained.proofs.window.Tested.of.Goals as goal

pub returns-in-Inside : goal.returns-in-Inside
unfolding tested_of
returns-in-Inside c = rw c.in-Inside.is

pub returns-in-Near : goal.returns-in-Near
unfolding tested_of
returns-in-Near c = rw (c.in-Near.is, c.from.ensures)

pub returns-in-Far : goal.returns-in-Far
unfolding tested_of
returns-in-Far c = rw (c.in-Far.is, c.from-in-Far.ensures)

pub returns-in-NotGiven : goal.returns-in-NotGiven
unfolding tested_of
returns-in-NotGiven c = elim c.in-NotGiven.is [ inl e ↦ rw e | inr e ↦ rw e ]
