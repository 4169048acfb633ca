-- `host_words::next` meets its contract: the arms of words 2 to 8, and of word 10. Assumes nothing.
use mathlib.Core.Path.{◌≡◌, sym, ◌∙◌}
use Prim.Native.Nat.{◌≤◌}
use native.Mathlib.Omega.{arith}
use Rattle.host_words.specs.Words.{address, heard}
use Rattle.host_words.proofs.Heard.{tests, receiver-tunes}
use Rattle.host_words.proofs.next.Goals as goal

pub returns-in-10 : goal.returns-in-10
unfolding heard
returns-in-10 c =
    let tenth : address c.args.c ≡ 10 = sym c.address-address.ensures ∙ c.in-10.is in
    rw (tenth, c.front_of-host.ensures, c.is_on.ensures)

pub returns-in-2-to-8 : goal.returns-in-2-to-8
unfolding heard
returns-in-2-to-8 c =
    let a = address c.args.c in
    let came = c.address-address.ensures in
    let above : 2 ≤ a = omega arith in
    let below : a ≤ 8 = omega arith in
    let other = tests a above (omega arith) (omega arith) in
    rw (came, c.hertz-in-2-to-8.ensures, c.is_on.ensures, other.settings, other.transmitter, other.switches, other.front, receiver-tunes a above below)
