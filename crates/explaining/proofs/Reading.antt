-- Reads one after another, of a source whose bytes are known. Assumes nothing.
use Rattle.std.proofs.Common.{◌≡◌, ℕ, ◌+◌, true, false, List, length, take, sym, ap, ◌∙◌}
use Rattle.std.specs.Prelude.{OnErr, Ok, Err}
use Rattle.std.specs.declared.option.Option.{Option}
use Rattle.std.specs.declared.result.Result.{Result}
use mathlib.Core.Bool.{true≢false}
use Rattle.std.specs.Io.KnownBytes.{Consumes}
use Rattle.wire.proofs.Cases.{by_order}
use Rattle.wire.proofs.Copies.{all_written, take_sets}
use Rattle.explaining.specs.Gathered.{Gathered, Kept, kept, appended, Gathers}
use Rattle.explaining.proofs.Appending.{too_many, fits}

-- the bytes of a read
pub read_gathers : (coming left : Option (List ℕ)) (count : ℕ) (bytes input : List ℕ) (next : Gathered) (after : List ℕ)
    → kept next after ≡ appended count bytes input → next.going ≡ true → Consumes coming left bytes → Gathers coming (take count input) left (take next.count after)
read_gathers coming left count bytes input next after is going consumed =
    by_order (length input) (count + length bytes)
    (λ over. absurd (true≢false (sym going ∙ ap (λ (k : Kept). k.gathered.going) (is ∙ sym (too_many count bytes input over)))))
    (λ room. (
      bytes,
      consumed,
      ap (λ (k : Kept). take k.gathered.count k.input) (is ∙ sym (fits count bytes input room))
          ∙ ap (take (count + length bytes)) (all_written input count bytes room)
          ∙ take_sets input count bytes room,
    ))

-- bytes that do not fit leave all as it was
pub refused_stays : (count : ℕ) (bytes input : List ℕ) (next : Gathered) (after : List ℕ) → kept next after ≡ appended count bytes input → next.going ≡ false
    → (next.count ≡ count) × (after ≡ input)
refused_stays count bytes input next after is stopped =
    by_order (length input) (count + length bytes)
    (λ over.
    let same = is ∙ sym (too_many count bytes input over) in
    (ap (λ (k : Kept). k.gathered.count) same, ap (λ (k : Kept). k.input) same))
    (λ room. absurd (true≢false (ap (λ (k : Kept). k.gathered.going) (fits count bytes input room ∙ sym is) ∙ stopped)))

pub on_err : {T E : Type 0} {P : Type 0} (r : Result T E) → P → OnErr r P
on_err (Ok x) holds = tt
on_err (Err e) holds = holds
