-- `sync::put_header` meets its contract: eight stores, or none. Assumes nothing.
use mathlib.Core.Path.{◌≡◌, sym, ◌∙◌}
use native.Mathlib.Omega.{arith}
use lib.ListN.{length}
use Rattle.wire.proofs.Header.{four_stores, with_room}
use borrow.Author.Rules.{rules}
use Rattle.wire.proofs.sync.put_header.Goals as goal

pub returns : goal.returns
returns c =
    let word = c.args.word in
    let four : length word ≡ 4 = search rules in
    four_stores _ 4 word four ∙ sym (with_room c.args.c0 word _ (omega arith))
