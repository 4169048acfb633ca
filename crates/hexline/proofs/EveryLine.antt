-- Every line of a text is found, in order, as what it is, and by its number from 1, whatever chunks the text comes in. Assumes nothing.
use mathlib.Core.Path.{◌≡◌, refl, sym, ap, ap₂, ◌∙◌}
use mathlib.Core.List.{List, [], ◌∷◌, ◌++◌, append_assoc, flatten, map}
use Prim.Native.Nat.{ℕ, ◌+◌, ◌-◌, ◌^◌, ◌<◌}
use native.Mathlib.Omega.{arith}
use borrow.Author.Tests.{eq-eqb, ne_eqb, lt-ltb}
use lib.ListN.{length}
use Rattle.hexline.proofs.Bytewise.{each, each-nothing, each-newline, each-byte, by-newline, chunk-each}
use Rattle.hexline.proofs.Cut.{any_chunks}
use Rattle.hexline.proofs.Present.{bytes_on, one_byte_more, same_number, same_length, not_empty, Ready, line-found}
use Rattle.hexline.specs.Lines.{newline, content_of, Found, lines, lines_from, numbered}
use Rattle.hexline.specs.Reader.{fresh_reader, byte_on, line_end, end_of, one_more}
use Rattle.hexline.specs.Text.{Run, found_by, found_in}
use Rattle.hexline.specs.declared.Reader.{Reader}

-- what a run found, and what the end of the text finds after it
abbrev ended : Run → List Found
ended run = run.found ++ found_by (end_of run.reader)

-- lines after the line of number n, as the reader numbers them
abbrev on_from : ℕ → List (List ℕ) → List Found
on_from n [] = []
on_from n (line ∷ rest) = record { number = one_more n; content = content_of line } ∷ on_from (one_more n) rest

contents : (n : ℕ) (ls : List (List ℕ)) → map (λ (f : Found). f.content) (on_from n ls) ≡ map content_of ls
contents n [] = refl
contents n (line ∷ rest) = ap (λ l. content_of line ∷ l) (contents (one_more n) rest)

exact : (n : ℕ) (ls : List (List ℕ)) → n + length ls < 2 ^ 64 → on_from n ls ≡ numbered (n + 1) ls
exact n [] few = refl
exact n (line ∷ rest) few =
    rw (lt-ltb n (2 ^ 64 - 1) (omega arith)) (ap (λ l. record { number = n + 1; content = content_of line } ∷ l) (exact (n + 1) rest (omega arith)))

next_ready : (r : Reader) → length r.frame ≡ 512 → Ready (line_end 0 r).reader
unfolding line_end
next_ready r whole = record { none = refl; whole = whole }

next-number : (r : Reader) → (line_end 0 r).reader.number ≡ one_more r.number
unfolding line_end
next-number r = refl

last_line_lem : (r : Reader) → Ready r → (line : List ℕ) → found_by (end_of (bytes_on r line)) ≡ on_from r.number (lines_from line [])
last_line_lem r ready [] = rw (eq-eqb r.count 0 ready.none)
last_line_lem r ready (a ∷ line) = rw (ne_eqb (bytes_on r (a ∷ line)).count 0 (not_empty r a line)) (line-found r ready (a ∷ line) 0)

text_found : (text line : List ℕ) (r : Reader) → Ready r → ended (each (bytes_on r line) text) ≡ on_from r.number (lines_from line text)
text_found [] line r ready = rw (each-nothing (bytes_on r line)) (last_line_lem r ready line)
text_found (b ∷ text) line r ready =
    by-newline b
    (λ e.
    let s = bytes_on r line in
    let next = (line_end 0 s).reader in
    let same : next.number ≡ one_more r.number = next-number s ∙ ap one_more (same_number r line) in
    let rest : ended (each next text) ≡ on_from (one_more r.number) (lines_from [] text) =
    text_found text [] next (next_ready s (same_length r line ∙ ready.whole)) ∙ ap (λ n. on_from n (lines_from [] text)) same in
    ap ended (each-newline s b text e) ∙ append_assoc (found_by (line_end 0 s)) _ _ ∙ ap₂ ◌++◌ (line-found r ready line 0) rest ∙ sym (rw (eq-eqb b newline e)))
    (λ e.
    let on : ended (each (byte_on (bytes_on r line) b) text) ≡ on_from r.number (lines_from (line ++ (b ∷ [])) text) =
    ap (λ s. ended (each s text)) (sym (one_byte_more r line b)) ∙ text_found text (line ++ (b ∷ [])) r ready in
    ap ended (each-byte (bytes_on r line) b text e) ∙ on ∙ sym (rw (ne_eqb b newline e)))

whole_text : (chunks : List (List ℕ)) → found_in chunks ≡ on_from 0 (lines (flatten chunks))
whole_text chunks =
    ap ended (any_chunks fresh_reader chunks ∙ chunk-each fresh_reader (flatten chunks))
    ∙ text_found (flatten chunks) [] fresh_reader (record { none = refl; whole = refl })

-- Every line is found as what it is ..
pub every_line : (chunks : List (List ℕ)) → map (λ (f : Found). f.content) (found_in chunks) ≡ map content_of (lines (flatten chunks))
every_line chunks = ap (map (λ (f : Found). f.content)) (whole_text chunks) ∙ contents 0 (lines (flatten chunks))

-- .. and by its number, where there are less than 2^64 of them
pub every_number : (chunks : List (List ℕ)) → length (lines (flatten chunks)) < 2 ^ 64 → found_in chunks ≡ numbered 1 (lines (flatten chunks))
every_number chunks few = whole_text chunks ∙ exact 0 (lines (flatten chunks)) (omega arith)
