-- The loop over a chunk: what is left of the chunk, listed from here, makes what the whole of it makes from the start. Assumes nothing.
use mathlib.Core.Path.{◌≡◌, refl, sym, ap, subst, ◌∙◌}
use mathlib.Core.List.{List, [], ◌++◌, append_assoc, append-nil}
use Prim.Native.Nat.{ℕ, ◌-◌, ◌<◌, ◌≤◌}
use native.Mathlib.Omega.{arith}
use lib.ListN.{length, take, drop, length-drop}
use lib.Seq.{take_all}
use Rattle.hexline.proofs.Bytewise.{used-of, chunk_turn}
use Rattle.hexline.specs.Reader.{take_of}
use Rattle.hexline.specs.Text.{Run, after, found_by, chunk_in, chunk_of}
use Rattle.hexline.specs.declared.Reader.{Reader}
use Rattle.hexline.specs.declared.Taken.{Taken}
use Rattle.std.specs.Io.KnownBytes.{Appends}
use Rattle.std.specs.declared.option.Option.{Option}
use Rattle.text.specs.Put.{Written}
use Rattle.listing.specs.Buffer.{buffer_after, written_by}
use Rattle.listing.specs.Chunk.{Lists}
use Rattle.listing.proofs.Gather.{after_both, written_both, appends_none, appends_both}

-- a call of `take` reads at least a byte, and no more than there are
module _ (t : Taken) (next : Reader) (rest : List ℕ) (took : t ≡ take_of next rest) (more : 0 < length rest) where
  pub advances : (1 ≤ t.used) × (t.used ≤ length rest)
  advances = rw took (used-of next rest more)

  -- what is left of the bytes behind it
  pub left_over : take (length rest - t.used) (drop t.used rest) ≡ drop t.used rest
  left_over = take_all (length rest - t.used) (drop t.used rest) (omega (arith, length-drop t.used rest))

-- the rest of a chunk, from a reader, makes of a buffer what the whole makes from the first reader
pub record Going (chunk : List ℕ) (given : Reader) (buffer : Written) (rest : List ℕ) (next : Reader) (now : Written) (had has : Option (List ℕ)) : Type 0 where
  pub readers : (chunk_of next rest).reader ≡ (chunk_of given chunk).reader
  pub buffers : buffer_after (chunk_of next rest).found now ≡ buffer_after (chunk_of given chunk).found buffer
  pub so_far : List ℕ
  pub appended : Appends had has so_far
  pub whole : so_far ++ written_by (chunk_of next rest).found now ≡ written_by (chunk_of given chunk).found buffer

module _ (chunk : List ℕ) (given : Reader) (buffer : Written) where
  pub starts : (had : Option (List ℕ)) → Going chunk given buffer chunk given buffer had had
  starts had = record { readers = refl; buffers = refl; so_far = []; appended = appends_none had; whole = refl }

  module _ (rest : List ℕ) (next : Reader) (now : Written) (had mid : Option (List ℕ)) (going : Going chunk given buffer rest next now had mid) where
    -- a call of `take` on the bytes that are left, and the row of what it took
    pub turn : (t : Taken) (rest' : List ℕ) (now' : Written) (has : Option (List ℕ)) → t ≡ take_of next rest → rest' ≡ drop t.used rest
        → now' ≡ buffer_after (found_by t) now → Appends mid has (written_by (found_by t) now) → Going chunk given buffer rest' t.reader now' had has
    turn t rest' now' has took over is appends =
        let left = chunk_of t.reader rest' in
        let all : chunk_of next rest ≡ after (found_by t) left =
        chunk_turn next rest
        ∙ ap (λ (u : Taken). after (found_by u) (chunk_of u.reader (drop u.used rest))) (sym took)
        ∙ ap (λ bytes. after (found_by t) (chunk_of t.reader bytes)) (sym over) in
        record {
          readers = ap (λ (run : Run). run.reader) (sym all) ∙ going.readers;
          buffers =
              ap (buffer_after left.found) is
              ∙ sym (after_both (found_by t) left.found now)
              ∙ ap (λ (run : Run). buffer_after run.found now) (sym all)
              ∙ going.buffers;
          so_far = going.so_far ++ written_by (found_by t) now;
          appended = appends_both had mid has going.so_far _ going.appended appends;
          whole =
              append_assoc going.so_far _ _
              ∙ ap (λ l. going.so_far ++ l) (
              ap (λ b. written_by (found_by t) now ++ written_by left.found b) is
              ∙ sym (written_both (found_by t) left.found now)
              ∙ ap (λ (run : Run). written_by run.found now) (sym all)
              )
              ∙ going.whole;
        }

    -- the chunk is read
    pub ends : rest ≡ [] → Lists buffer (chunk_of given chunk) next now
    unfolding chunk_in buffer_after
    ends nothing = record { reader_is = rw nothing at going.readers; buffer_is = rw nothing at going.buffers }

    pub ends_written : rest ≡ [] → Appends had mid (written_by (chunk_of given chunk).found buffer)
    unfolding chunk_in written_by
    ends_written nothing = subst (Appends had mid) (sym (append-nil going.so_far) ∙ rw nothing at going.whole) going.appended
