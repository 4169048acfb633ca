-- `host_turn::put_head` meets its contract: the head of the word that is due, or nothing. Assumes nothing.
use mathlib.Core.Path.{◌≡◌, sym, ◌∙◌}
use Prim.Native.Nat.{◌+◌, ◌*◌}
use native.Mathlib.Omega.{arith}
use Rattle.host_turn.specs.Sent.{c0_of}
use Rattle.host_turn.proofs.Sendable.{past_last, out_of_range, sent}
use Rattle.host_turn.proofs.put_head.Goals as goal

pub returns-then-turn-gt-LAST_WORD : goal.returns-then-turn-gt-LAST_WORD
returns-then-turn-gt-LAST_WORD c = sym (past_last _ _ _ (omega arith))

pub returns-in_default : goal.returns-in_default
returns-in_default c = sym (out_of_range _ _ _ c.in_default.ensures)

pub returns : goal.returns
returns c =
    let same = c.in-Ok.ensures in
    let range = rw same at c.in-Ok.fitting.in_range in
    let c0 : c.flag_of.result + c.args.turn * 2 ≡ c0_of c.args.turn c.args.host.mox = omega (arith, c.flag_of.ensures.0) in
    rw (c.word.ensures, same, c0) at c.put_header.ensures ∙ sym (sent _ _ _ (omega arith) range)
