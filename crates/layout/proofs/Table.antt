-- The table of document 01 follows its rule: one equation over all eight rows, which is computed, and the row of a count. Assumes nothing.
use mathlib.Core.Path.{◌≡◌, refl, ap, ◌∙◌}
use mathlib.Core.HLevel.{is_prop→PathP}
use mathlib.Core.List.{List, [], ◌∷◌}
use Prim.Native.Nat.{ℕ, ◌+◌, ◌-◌, ◌≤◌}
use native.Mathlib.Nat.{ℕ_set}
use native.Mathlib.Omega.{arith}
use lib.ListN.{get_or}
use Rattle.wire.specs.Lists.{tab}
use Rattle.wire.proofs.Lists.{get_or-tab}
use Rattle.layout.specs.Slots.{slot, slots, padding, FollowsRule}
use Rattle.layout.specs.Table.{row_of}
use Rattle.layout.specs.declared.Entry.{Entry}
use Rattle.layout.specs.declared.row.Row.{Row}

abbrev row : ℕ → ℕ → ℕ → Entry
row slot slots padding = record { slot = slot; slots = slots; padding = padding }

-- the table as the code has it, and what the rule says of n receivers
abbrev pub rows : List Entry
rows = row 8 63 0 ∷ row 14 36 0 ∷ row 20 25 4 ∷ row 26 19 10 ∷ row 32 15 24 ∷ row 38 13 10 ∷ row 44 11 20 ∷ row 50 10 4 ∷ []

abbrev pub rule_for : ℕ → Entry
rule_for n = row (slot n) (slots n) (padding n)

pub rows_follow_rule : rows ≡ tab 8 (λ k. rule_for (k + 1))
unfolding slots padding
rows_follow_rule = refl

pub row_at : (n : ℕ) (d : Entry) → 1 ≤ n → n ≤ 8 → get_or rows (n - 1) d ≡ rule_for n
row_at n d low high =
    let back : n - 1 + 1 ≡ n = omega arith in
    ap (λ l. get_or l (n - 1) d) rows_follow_rule ∙ get_or-tab 8 (λ k. rule_for (k + 1)) (n - 1) d (omega arith) ∙ ap rule_for back

-- a row is known by its receivers
pub row_known : (r : Row) → r ≡ row_of r.receivers
row_known r =
    λ i. record {
      receivers = r.receivers;
      slot = r.rule.slot_is i;
      slots = r.rule.slots_is i;
      padding = r.rule.padding_is i;
      rule =
          is_prop→PathP (λ j. FollowsRule r.receivers (r.rule.slot_is j) (r.rule.slots_is j) (r.rule.padding_is j)) (λ j. hlevel ℕ_set) r.rule (row_of r.receivers).rule i;
    }
