-- `host_samples::read_slot` meets its contract: the four stores are the slot's four numbers. Assumes nothing.
use mathlib.Core.Path.{◌≡◌, sym, ◌∙◌}
use mathlib.Core.List.{List}
use borrow.Author.Rules.{rules}
use lib.IntN.{ℤ, pos}
use lib.ListN.{get_or}
use mir.Syntax.{w16}
use mir.Val.{to_z, of_z}
use Rattle.wire.specs.Lists.{tab}
use Rattle.wire.proofs.Lists.{sets-all}
use Rattle.host_samples.specs.Samples.{slot_number}
use Rattle.host_samples.proofs.read_slot.Goals as goal

pub returns : goal.returns
returns c =
    let stored : List ℤ = tab 4 (λ j. to_z w16 (of_z w16 (get_or c.swapped.result j (pos 0)))) in
    let numbers : stored ≡ tab 4 (slot_number c.args.slot.now) = search rules in
    sets-all c.args.out.now stored (sym c.requires) ∙ numbers
