-- T-05: the runs of an input, from place 0 on, tell of each of its places what is true. Assumes nothing.
use mathlib.Core.Path.{◌≡◌, refl, subst⁻¹}
use mathlib.Core.Logic.{◌⊎◌, inl, inr, ⊎_elim}
use mathlib.Core.List.{List, [], ◌∷◌}
use Prim.Native.Nat.{ℕ, zero, suc, ◌+◌, ◌<◌, ◌≤◌}
use native.Mathlib.Omega.{arith}
use lib.ListN.{length}
use Rattle.wire.proofs.Cases.{by_order}
use Rattle.reading.specs.UpTo.{Comes}
use Rattle.reading.proofs.UpTo.{comes_first}
use Rattle.why.specs.Runs.{run_of, TrueRun, RunsFrom, ToldIn}
use Rattle.why.specs.declared.runs.Run.{Run}
use Rattle.why.proofs.TrueRun.{run_is_true}

module _ (s : List ℕ) where
  -- a run can begin there, or the input has ended
  abbrev pub Here : ℕ → Type 0
  Here start = (start ≡ length s) ⊎ Comes s start

  pub here_first : Here 0
  here_first = inr (comes_first s)

  pub true_here : (start : ℕ) → Here start → start < length s → TrueRun s start (run_of s start)
  true_here start here inside = ⊎_elim (λ end. absurd (omega arith)) (λ comes. run_is_true s start comes inside) here

  told_from : (runs : List Run) (start : ℕ) → Here start → RunsFrom s start runs → (p : ℕ) → start ≤ p → p < length s → ToldIn s p start runs
  told_from [] start here end p from to = absurd (omega (arith, end))
  told_from (run ∷ runs) start here going p from to =
      let is_true = subst⁻¹ (TrueRun s start) going.1 (true_here start here going.0) in
      by_order p run.end (λ inside. inl (from, inside, is_true.all_alike p from inside))
      (λ past. inr (told_from runs run.end is_true.next going.2 p past to))

  pub runs_tell_all : (runs : List Run) → RunsFrom s 0 runs → (p : ℕ) → p < length s → ToldIn s p 0 runs
  runs_tell_all runs going p inside = told_from runs 0 here_first going p (omega arith) inside

  -- and every input has such runs
  made_from : (n start : ℕ) → Here start → length s ≤ start + n → (runs : List Run) × RunsFrom s start runs
  made_from zero start here enough = ([], omega arith)
  made_from (suc n) start here enough =
      by_order start (length s)
      (λ inside.
      let is_true = true_here start here inside in
      let rest = made_from n (run_of s start).end is_true.next (omega (arith, is_true.some)) in
      (run_of s start ∷ rest.0, (inside, refl, rest.1)))
      (λ end. ([], end))

  pub every_input_has_runs : (runs : List Run) × RunsFrom s 0 runs
  every_input_has_runs = made_from (length s) 0 here_first (omega arith)
