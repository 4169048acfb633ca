-- `hpsdr_why_byte` meets its contract: the call, with what it gives as one number. Assumes nothing.
use mathlib.Core.Path.{sym, ap, ◌∙◌, subst⁻¹}
use Prim.Native.Nat.{◌<◌}
use Rattle.std.specs.Prelude.{Err}
use Rattle.why.specs.Why.{Why}
use Rattle.hpsdr_why.specs.Why.{carried_by, returned_of}
use Rattle.hpsdr_why.proofs.Tells.{no_reason, carried_few, why_byte_is}
use Rattle.hpsdr_why.proofs.hpsdr_why_byte.Goals as goal

pub returned-requires : goal.returned-requires
returned-requires c =
    subst⁻¹ (λ (w : Why). carried_by w.reason < 65536) c.in-Ok.ensures (carried_few c.args.input.now c.args.place)

pub returns-in-Ok : goal.returns-in-Ok
returns-in-Ok c =
    c.returned.ensures ∙ ap returned_of c.in-Ok.ensures ∙ sym (why_byte_is c.args.input.now c.args.place)

pub returns-in-Err : goal.returns-in-Err
returns-in-Err c =
    c.tell.ensures.0 ∙ no_reason (Err c.in-Err.refusal) ∙ ap returned_of c.in-Err.ensures ∙ sym (why_byte_is c.args.input.now c.args.place)
