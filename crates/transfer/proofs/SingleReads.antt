-- A transfer is as many single reads as it says, each on what the one before left. Assumes nothing.
use mathlib.Core.Path.{◌≡◌, refl, sym, ap, subst⁻¹, ◌∙◌}
use mathlib.Core.Bool.{true, false, cond, false≢true}
use mathlib.Core.List.{List, [], ◌∷◌}
use Prim.Native.Nat.{ℕ, zero, suc, ◌+◌, ◌*◌, ◌<◌, ◌≤◌}
use native.Mathlib.Nat.{le_trans}
use native.Mathlib.Numerals.{add-one}
use native.Mathlib.Omega.{arith}
use lib.IntN.{ℤ}
use lib.ListN.{length, drop, drop_of_length-le, take-append-drop}
use Rattle.wire.specs.Answers.{Accepted, Answer, accepts}
use Rattle.wire.proofs.Cases.{by_test, by_order}
use Rattle.wire.proofs.First.{accepts-only}
use Rattle.wire.proofs.Lists.{length-tab}
use Rattle.layout.specs.Slots.{slots, values}
use Rattle.radio_status.specs.declared.record.Status.{Status}
use Rattle.radio.specs.Read as Read
use Rattle.transfer.specs.SingleReads.{Standing, standing_in, read_at, after_read, single_reads, single_answer, AsSingleReads}
use Rattle.transfer.specs.Transfer.{Outcome, count, frame_at, frames_in, single, behind, one_more, one_by_one, none_read, answer_of, transfer_of}
use Rattle.transfer.proofs.Cases.{good, transfer_refused, transfer_begun}
use Rattle.transfer.proofs.InOrder.{none_left, stops, goes_on, from_frame}
use Rattle.transfer.proofs.Single.{refused-back}

module _ (input : List ℕ) (n : ℕ) (given : Standing) where
  abbrev total : ℕ
  total = count (length input)

  abbrev after : ℕ → Standing
  after k = single_reads input n k given

  abbrev one : ℕ → Read.Outcome
  one k = read_at input n k (after k)

  -- the first k frames are read
  abbrev reached : ℕ → Outcome
  reached k = record { answer = Accepted; frames = k; status = (after k).status; iq = (after k).iq; mic = (after k).mic }

  -- and each of them was accepted
  abbrev AllAccepted : ℕ → Type 0
  AllAccepted k = (j : ℕ) → j < k → single_answer input n j given ≡ Accepted

  next_is : (k : ℕ) → behind n (reached k) (one k) ≡ one_more n (reached k) (frame_at input k)
  unfolding one_more single
  next_is k = refl

  -- frame k is accepted: one frame more is read
  one_read : (k : ℕ) → accepts (one k).reading.answer ≡ true → behind n (reached k) (one k) ≡ reached (suc k)
  one_read k accepted =
      let counted : cond (accepts (one k).reading.answer) (k + 1) k ≡ suc k = rw accepted (add-one k) in
      (λ i. record { answer = accepts-only (one k).reading.answer accepted i; frames = counted i; status = (after (suc k)).status; iq = (after (suc k)).iq; mic = (after (suc k)).mic })

  -- frame k is refused: all is as the frames before it left it
  none_changed : (k : ℕ) → accepts (one k).reading.answer ≡ false → after_read n k (after k) (one k) ≡ after k
  none_changed k refused =
      let back = refused-back (frame_at input k) n (drop (k * values n) (after k).iq) (drop (k * slots n) (after k).mic) (after k).status refused in
      ap (after_read n k (after k)) back
      ∙ (λ i. record { status = (after k).status; iq = take-append-drop (k * values n) (after k).iq i; mic = take-append-drop (k * slots n) (after k).mic i })

  stopped_at : (k : ℕ) → k < total → AllAccepted k → accepts (one k).reading.answer ≡ false → AsSingleReads input n given (behind n (reached k) (one k))
  stopped_at k below before refused =
      let same : cond (accepts (one k).reading.answer) (k + 1) k ≡ k = rw refused in
      record {
        left = none_changed k refused ∙ ap after (sym same);
        read = λ j less. before j (omega (arith, same));
        stopped = λ _. (ap (λ j. single_answer input n j given) same, refused);
        finished = λ over. absurd (omega (arith, same));
        no_more = omega (arith, same);
      }

  finished_at : (k : ℕ) → k ≡ total → AllAccepted k → AsSingleReads input n given (reached k)
  finished_at k last before =
      record { left = refl; read = before; stopped = λ below. absurd (omega arith); finished = λ _. refl; no_more = omega arith }

  one_more_accepted : (k : ℕ) → AllAccepted k → accepts (one k).reading.answer ≡ true → AllAccepted (suc k)
  one_more_accepted k before accepted j less =
      by_order j k (before j)
      (λ above.
      let this : j ≡ k = omega arith in
      subst⁻¹ (λ (i : ℕ). single_answer input n i given ≡ Accepted) this (accepts-only (one k).reading.answer accepted))

  -- the frames from frame k on, after those before it: one of them is refused, or another is read
  abbrev from_here : ℕ → Outcome
  from_here k = one_by_one n (drop k (frames_in input)) (reached k)

  -- frame k, and the others behind it
  first_of_them : (k : ℕ) → k < total → one_by_one n (frame_at input k ∷ drop (k + 1) (frames_in input)) (reached k) ≡ from_here k
  first_of_them k below = ap (λ l. one_by_one n l (reached k)) (sym (from_frame input k below))

  stops_here : (k : ℕ) → k < total → accepts (one k).reading.answer ≡ false → behind n (reached k) (one k) ≡ from_here k
  stops_here k below refused =
      stops n (frame_at input k) (drop (k + 1) (frames_in input)) (reached k) (behind n (reached k) (one k)) (next_is k) refused ∙ first_of_them k below

  goes_on_here : (k : ℕ) → k < total → accepts (one k).reading.answer ≡ true → from_here (suc k) ≡ from_here k
  goes_on_here k below accepted =
      ap (λ i. one_by_one n (drop i (frames_in input)) (reached (suc k))) (sym (add-one k))
      ∙ goes_on n (frame_at input k) (drop (k + 1) (frames_in input)) (reached k) (reached (suc k)) (sym (one_read k accepted) ∙ next_is k) refl
      ∙ first_of_them k below

  over_here : (k : ℕ) → total ≤ k → from_here k ≡ reached k
  over_here k over =
      let nothing : drop k (frames_in input) ≡ [] = drop_of_length-le (frames_in input) {i = k} (rw (length-tab total (frame_at input)) over) in
      ap (λ l. one_by_one n l (reached k)) nothing ∙ none_left n (reached k)

  run : (m k : ℕ) → k + m ≡ total → AllAccepted k → AsSingleReads input n given (from_here k)
  run zero k last before = subst⁻¹ (AsSingleReads input n given) (over_here k (omega arith)) (finished_at k (omega arith) before)
  run (suc m) k more before =
      let below : k < total = omega arith in
      by_test (accepts (one k).reading.answer)
      (λ accepted. subst⁻¹ (AsSingleReads input n given) (sym (goes_on_here k below accepted)) (run m (suc k) (omega arith) (one_more_accepted k before accepted)))
      (λ refused. subst⁻¹ (AsSingleReads input n given) (sym (stops_here k below refused)) (stopped_at k below before refused))

-- the sentence leaves nothing open: two outcomes of which it is true coincide
module _ (input : List ℕ) (n : ℕ) (given : Standing) where
  -- none of them read fewer frames than the other
  not_fewer : (o o' : Outcome) → AsSingleReads input n given o → AsSingleReads input n given o' → o.frames < o'.frames → ⊥
  not_fewer o o' one other fewer =
      let stop = one.stopped (omega (arith, other.no_more)) in
      false≢true (sym stop.1 ∙ ap accepts (sym stop.0 ∙ other.read o.frames fewer))

  pub only_outcome : (o o' : Outcome) → AsSingleReads input n given o → AsSingleReads input n given o' → o ≡ o'
  only_outcome o o' one other =
      let below : o.frames < o'.frames → ⊥ = not_fewer o o' one other in
      let above : o'.frames < o.frames → ⊥ = not_fewer o' o other one in
      let frames : o.frames ≡ o'.frames = by_order o.frames o'.frames (λ less. absurd (below less)) (λ more. by_order o'.frames o.frames (λ less. absurd (above less)) (λ fewer. omega arith)) in
      let standing : standing_in o ≡ standing_in o' = one.left ∙ ap (λ k. single_reads input n k given) frames ∙ sym other.left in
      let answer : o.answer ≡ o'.answer =
      by_order o.frames (count (length input))
      (λ less. sym (one.stopped less).0 ∙ ap (λ k. single_answer input n k given) frames ∙ (other.stopped (omega (arith, frames))).0)
      (λ all. one.finished all ∙ sym (other.finished (omega (arith, frames)))) in
      (λ i. record { answer = answer i; frames = frames i; status = (standing i).status; iq = (standing i).iq; mic = (standing i).mic })

-- a transfer that no test of the whole input refused
pub equals_single_reads : (input : List ℕ) (n : ℕ) (iq mic : List ℤ) (s : Status) → answer_of (length input) n (length iq) (length mic) ≡ Accepted → AsSingleReads input n (record { status = s; iq = iq; mic = mic }) (transfer_of input n iq mic s)
equals_single_reads input n iq mic s begun =
    let given : Standing = record { status = s; iq = iq; mic = mic } in
    subst⁻¹ (AsSingleReads input n given) (transfer_begun input n iq mic s begun) (run input n given (count (length input)) 0 (omega arith) (λ j below. absurd (omega arith)))

module _ (input : List ℕ) (n : ℕ) (iq mic : List ℤ) (s : Status) where
  -- what holds where a test refuses the whole, and where none does, holds of every transfer
  pub by_begun : (P : Outcome → Type 0) → ((answer : Answer) → P (none_read answer iq mic s)) → (answer_of (length input) n (length iq) (length mic) ≡ Accepted → P (transfer_of input n iq mic s)) → P (transfer_of input n iq mic s)
  by_begun P none begun =
      let answer = answer_of (length input) n (length iq) (length mic) in
      by_test (accepts answer) (λ is. begun (accepts-only answer is)) (λ isn't. subst⁻¹ P (transfer_refused input n iq mic s answer refl isn't) (none answer))

  pub at_most_eight : (transfer_of input n iq mic s).frames ≤ 8
  at_most_eight =
      by_begun (λ o. o.frames ≤ 8) (λ _. omega arith)
      (λ is. le_trans (equals_single_reads input n iq mic s is).no_more (good (length input) n (length iq) (length mic) is).few)

  -- where no frame is read the record is the one given
  pub none_read_given : (transfer_of input n iq mic s).frames ≡ 0 → (transfer_of input n iq mic s).status ≡ s
  none_read_given =
      by_begun (λ o. o.frames ≡ 0 → o.status ≡ s) (λ _ _. refl)
      (λ is none. ap (λ (h : Standing). h.status) ((equals_single_reads input n iq mic s is).left ∙ ap (λ k. single_reads input n k (record { status = s; iq = iq; mic = mic })) none))
