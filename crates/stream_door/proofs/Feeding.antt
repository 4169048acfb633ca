-- A call on cells that no test refuses: what it may count on, and that a scan of them is the feed of the record that they are; and the
-- cells of a record as the first of more cells. Assumes nothing.
use mathlib.Core.Path.{◌≡◌, refl, sym, ap, ◌∙◌}
use mathlib.Core.List.{List, [], ◌∷◌, ◌++◌}
use Prim.Native.Nat.{ℕ, ◌+◌, ◌-◌, ◌*◌, ◌≤◌}
use native.Mathlib.Omega.{arith}
use lib.ListN.{length, get_or, take, drop, length-drop, take-append-drop}
use lib.Seq.{length-take-le, take_all, take-take, get_or-take}
use Rattle.wire.proofs.Cases.{by_test}
use Rattle.wire.proofs.Lists.{sets-all}
use Rattle.std.specs.Prelude.{Err}
use Rattle.wire.specs.Answers.{Answer, Accepted, number_of, accepts}
use Rattle.wire.specs.declared.Refusal.{Refusal}
use Rattle.cells.proofs.Back.{over}
use Rattle.cells.proofs.Cases.{kept-err}
use Rattle.cells.specs.Cells.{got, kept}
use Rattle.stream.proofs.Advance.{fitting, all_fits, rest_few, advances}
use Rattle.stream.proofs.Calls.{Passes, answer, passes, refused_by, fed, by_outcome}
use Rattle.stream.proofs.Cells.{length-cells}
use Rattle.stream.proofs.Joined.{joined_length}
use Rattle.stream.proofs.Records.{whole}
use Rattle.stream.specs.Feed.{feed_of}
use Rattle.stream.specs.Feed as Feed
use Rattle.reading.proofs.Readings.{counted}
use Rattle.reading.specs.Reading.{reading}
use Rattle.stream.specs.Record.{cells, held_bytes}
use Rattle.stream.specs.Steps.{Scans}
use Rattle.stream.specs.declared.Counts.{Counts}
use Rattle.stream.specs.declared.Stream.{Stream}
use Rattle.stream.specs.declared.scan.Scanned.{Scanned}
use Rattle.stream_cells.specs.Stream.{stream_of, counts_of}
use Rattle.stream_door.specs.Stream.{Outcome, gave, shown}

-- the numbers of a scan of what is held and a piece
pub record Found (count piece : ℕ) (r : Scanned) : Type 0 where
  pub inside : r.place ≤ count + piece
  pub few : count + piece ≤ r.place + 514
  pub place_is : r.place ≡ 512 * r.frames + r.skipped

module _ (n : Counts) (held piece output : List ℕ) (long : length held ≡ 514) (passed : answer (whole n held) (length piece) (length output) ≡ Accepted) where
  abbrev pub given : Stream
  given = whole n held

  pub all : Passes given (length piece) (length output)
  all = passes given (length piece) (length output) passed

  -- what is held, and the piece
  abbrev pub both : List ℕ
  both = take n.count held ++ piece

  held_fits : n.count ≤ length held
  held_fits = omega (arith, all.sound.few)

  both_long : length both ≡ n.count + length piece
  both_long = joined_length n.count held piece held_fits

  module _ {r : Scanned} {exit : List ℕ} (scanned : Scans (fitting (take n.count held) piece output) output r exit) where
    scans : Scans both output r exit
    scans = rw (all_fits (take n.count held) piece output (omega (arith, length-take-le n.count held held_fits, all.sound.few)) all.short all.room) at scanned

    pub found : Found n.count (length piece) r
    found =
        record {
          inside = omega (arith, both_long, scans.in_list);
          few = omega (arith, both_long, rest_few scans);
          place_is = scans.place_is;
        }

    pub feeds : (counts : List ℕ) → length counts ≡ 4 → gave (got 0 r.frames) ((n.count + length piece - r.place) ∷ (n.frames + r.frames) ∷ (n.skipped + r.skipped) ∷ (n.total + length piece) ∷ []) (cells 514 (drop r.place both)) exit ≡ shown counts held (feed_of given piece output)
    feeds counts four =
        let count = n.count + length piece - r.place in
        let rest = cells 514 (drop r.place both) in
        let next = count ∷ (n.frames + r.frames) ∷ (n.skipped + r.skipped) ∷ (n.total + length piece) ∷ [] in
        let read = advances scans given (length piece) count rest refl (ap (λ k. k - r.place) (sym both_long)) in
        let size : length rest ≡ length held =
        length-cells 514 (drop r.place both) (rw (length-drop r.place both) (omega (arith, both_long, found.few))) ∙ sym long in
        let laid-counts = sym (sets-all counts next (sym four)) in
        let laid-held = sym (sets-all held rest size) in
        (λ i. gave (got 0 r.frames) (laid-counts i) (laid-held i) exit)
        ∙ ap (shown counts held) (read ∙ sym (fed given piece output all))

-- the record that cells are, by its numbers
pub same_record : (counts held : List ℕ) (n : Counts) → length held ≡ 514 → n ≡ record { count = get_or counts 0 0; frames = get_or counts 1 0; skipped = get_or counts 2 0; total = get_or counts 3 0 } → whole n held ≡ stream_of counts held
same_record counts held n long is =
    ap (λ (m : Counts). whole m held) is
    ∙ ap (λ h. record { held = h; count = get_or counts 0 0; frames = get_or counts 1 0; skipped = get_or counts 2 0; total = get_or counts 3 0 }) (sym (take_all 514 held (omega arith)))

-- a refusal leaves the cells as they were
pub feed_refused : (counts held piece output : List ℕ) (given : Stream) (refusal : Refusal) → given ≡ stream_of counts held → answer given (length piece) (length output) ≡ Err refusal → gave (got (number_of (Err refusal)) 0) counts held output ≡ shown counts held (feed_of (stream_of counts held) piece output)
feed_refused counts held piece output given refusal same due =
    let kept-counts = sym (kept-err refusal (counts_of given) counts) in
    let kept-held = sym (kept-err refusal given.held held) in
    (λ i. gave (got (number_of (Err refusal)) 0) (kept-counts i) (kept-held i) output)
    ∙ ap (shown counts held) (sym (refused_by given piece output refusal due) ∙ ap (λ s. feed_of s piece output) same)

-- ---- the cells of a record as the first of more cells

kept_first : (answer : Answer) (fields cells : List ℕ) (n : ℕ) → length fields ≡ n → n ≤ length cells → kept answer fields (take n cells) ++ drop n cells ≡ kept answer fields cells
kept_first answer fields cells n size room =
    by_test (accepts answer)
    (λ yes.
    let all : length fields ≡ length (take n cells) = size ∙ sym (length-take-le n cells room) in
    let end : 0 + length fields ≡ n = omega arith in
    rw yes
    (ap (λ l. l ++ drop n cells) (sets-all (take n cells) fields all)
    ∙ sym (over fields cells (omega arith) ∙ ap (λ m. fields ++ drop m cells) end)))
    (λ no. rw no (take-append-drop n cells))

module _ (counts held piece output : List ℕ) (four : 4 ≤ length counts) (long : 514 ≤ length held) where
  abbrev record_of : Stream
  record_of = stream_of counts held

  first_record : stream_of (take 4 counts) (take 514 held) ≡ record_of
  first_record =
      rw (take-take 514 514 held (omega arith), get_or-take 4 counts 0 0 (omega arith), get_or-take 4 counts 1 0 (omega arith), get_or-take 4 counts 2 0 (omega arith), get_or-take 4 counts 3 0 (omega arith))

  next_long : length (feed_of record_of piece output).next.held ≡ 514
  next_long =
      by_outcome record_of piece output (λ (o : Feed.Outcome). length o.next.held ≡ 514) (λ refusal some. length-take-le 514 held long)
      (λ passes. length-cells 514 (reading (held_bytes record_of ++ piece)).left (counted (held_bytes record_of ++ piece)).few)

  pub feeds_first : (first-counts first-held : List ℕ) → first-counts ≡ take 4 counts → first-held ≡ take 514 held → (k : ℕ) (c h exit : List ℕ) → gave k c h exit ≡ shown first-counts first-held (feed_of (stream_of first-counts first-held) piece output) → gave k (c ++ drop 4 counts) (h ++ drop 514 held) exit ≡ shown counts held (feed_of record_of piece output)
  feeds_first first-counts first-held counts-are held-is k c h exit is =
      let o = feed_of record_of piece output in
      let parts : shown first-counts first-held (feed_of (stream_of first-counts first-held) piece output) ≡ shown (take 4 counts) (take 514 held) (feed_of (stream_of (take 4 counts) (take 514 held)) piece output) =
      (λ i. shown (counts-are i) (held-is i) (feed_of (stream_of (counts-are i) (held-is i)) piece output)) in
      let found = is ∙ parts ∙ ap (λ (s : Stream). shown (take 4 counts) (take 514 held) (feed_of s piece output)) first_record in
      let all-counts = kept_first o.answer (counts_of o.next) counts 4 refl four in
      let all-held = kept_first o.answer o.next.held held 514 next_long long in
      ap (λ (g : Outcome). gave g.number (g.counts ++ drop 4 counts) (g.held ++ drop 514 held) g.output) found
      ∙ (λ i. gave (got (number_of o.answer) o.frames) (all-counts i) (all-held i) o.output)
