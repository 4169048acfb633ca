-- T-05: the reason that a call gives is true of the place. Assumes nothing.
use mathlib.Core.Path.{◌≡◌, subst, subst⁻¹}
use mathlib.Core.Logic.{⊎_elim}
use mathlib.Core.Bool.{false}
use mathlib.Core.List.{List}
use Prim.Native.Nat.{ℕ, ◌+◌, ◌<◌}
use native.Mathlib.Omega.{arith}
use lib.ListN.{length}
use Rattle.wire.proofs.Cases.{by_test, by_order}
use Rattle.wire.proofs.Named.{named_at}
use Rattle.wire.specs.Sync.{sync_at}
use Rattle.wire.specs.Answers.{Accepted}
use Rattle.reading.specs.Reading.{good}
use Rattle.reading.specs.UpTo.{Comes}
use Rattle.reading.proofs.Readings.{counted}
use Rattle.reading.proofs.UpTo.{every_place, ends_here}
use Rattle.why.specs.Reasons.{Skips, IsTrueReason}
use Rattle.why.specs.Why.{Why, wrong_byte, reason_of, why_of}
use Rattle.why.specs.declared.Reason.{Reason}
use Rattle.why.specs.declared.Reason.TheVariants.{Inside, Near, Far, Held}
use Rattle.why.proofs.Cases.{explains, accepted_passes}
use Rattle.why.proofs.Reasons.{the_reason}

-- some reason is true of it
abbrev Some : List ℕ → ℕ → Type 0
Some s p = (reason : Reason) × IsTrueReason s p reason

-- of a place that is skipped: the near sync is wrong, or it is right and the far one is wrong
some_sync : (s : List ℕ) (p : ℕ) → Skips s p → Some s p
some_sync s p skips =
    by_test (sync_at s p)
    (λ right.
    let wrong : sync_at s (p + 512) ≡ false = rw right at skips.none in
    (Far (wrong_byte s (p + 512)), record { skips = skips; near_right = right; first_wrong = named_at s (p + 512) (omega (arith, skips.remain)) wrong }))
    (λ wrong. (Near (wrong_byte s p), record { skips = skips; first_wrong = named_at s p (omega (arith, skips.remain)) wrong }))

module _ (s : List ℕ) (p : ℕ) where
  some_coming : p < length s → Comes s p → Some s p
  some_coming inside comes =
      by_order (length s) (p + 515)
      (λ few.
      let end = ends_here comes few in
      let counts = counted s in
      (Held, record { left = omega (arith, end); inside = inside }))
      (λ remain.
      by_test (good s p) (λ begins. (Inside p, record { comes = comes; begins = begins; from_start = omega arith; before_end = omega arith }))
      (λ none. some_sync s p (record { comes = comes; remain = remain; none = none })))

  -- one always applies
  pub some_reason : p < length s → Some s p
  some_reason inside =
      ⊎_elim (some_coming inside)
      (⊎_elim
      (λ past. (Inside past.start, record { comes = past.comes; begins = past.begins; from_start = omega (arith, past.before); before_end = past.behind }))
      (λ behind. let counts = counted s in (Held, record { left = omega arith; inside = inside })))
      (every_place p s)

  pub reason_of_is_true : p < length s → IsTrueReason s p (reason_of s p)
  reason_of_is_true inside = let some = some_reason inside in subst (IsTrueReason s p) (the_reason s p some.0 some.1) some.1

-- the reason that an accepted call gives is true of its place
pub reason_is_true : (input : List ℕ) (place : ℕ) → (why_of input place).answer ≡ Accepted → IsTrueReason input place (why_of input place).reason
reason_is_true input place accepted =
    let passes = accepted_passes input place accepted in
    subst⁻¹ (λ (w : Why). IsTrueReason input place w.reason) (explains input place passes) (reason_of_is_true input place passes.inside)
