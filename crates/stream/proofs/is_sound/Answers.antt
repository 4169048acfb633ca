-- `is_sound` meets its contract: each early return is a number that no sound record has. Assumes nothing.
use mathlib.Core.Path.{sym, ap, ◌∙◌}
use Prim.Native.Nat.{◌-◌}
use native.Mathlib.Omega.{arith}
use lib.ListN.{length, drop, length-drop, drop_of_length-le}
use lib.Seq.{take_all}
use Rattle.wire.specs.Every.{all_zero}
use Rattle.stream.proofs.Records.{whole, cells_decide, unsound}
use Rattle.stream.proofs.is_sound.Goals as goal

pub returns-then-count-gt514 : goal.returns-then-count-gt514
returns-then-count-gt514 c = sym (unsound _ (λ s. omega arith))

pub returns-then-counts-gt-FULL : goal.returns-then-counts-gt-FULL
returns-then-counts-gt-FULL c = sym (unsound _ (λ s. omega arith))

pub returns-then-counts : goal.returns-then-counts
returns-then-counts c = sym (unsound _ (λ s. omega arith))

pub returns-then-counts-2 : goal.returns-then-counts-2
returns-then-counts-2 c = sym (unsound _ (λ s. omega arith))

pub returns-then-counts-count : goal.returns-then-counts-count
returns-then-counts-count c = sym (unsound _ (λ s. omega arith))

pub returns-then-held-count : goal.returns-then-held-count
returns-then-held-count c =
    let past = whole c.args.counts c.args.held.now in
    let none = drop_of_length-le past.held {i = past.count} (omega arith) in
    sym (cells_decide past (omega arith) (omega arith) (omega arith) ∙ ap all_zero none)

pub returns : goal.returns
returns c =
    let past = whole c.args.counts c.args.held.now in
    let part = take_all (length past.held - past.count) (drop past.count past.held) (rw (length-drop past.count past.held) (omega arith)) in
    c.all_zero.ensures ∙ rw part (sym (cells_decide past (omega arith) (omega arith) (omega arith)))
