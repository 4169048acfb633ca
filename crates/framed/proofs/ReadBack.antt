-- What a listing finds in the text of frames: those frames, line for line. Assumes nothing.
use mathlib.Core.Path.{◌≡◌, refl, sym, ap, ◌∙◌}
use mathlib.Core.Bool.{true}
use mathlib.Core.List.{List, [], ◌∷◌, ◌++◌, map, append_assoc, append-nil, map-append}
use Prim.Native.Nat.{ℕ, zero, suc, ◌*◌, ◌≤◌}
use native.Mathlib.Omega.{arith}
use borrow.Author.Tests.{eq-eqb}
use lib.ListN.{length, drop}
use Rattle.wire.specs.Lists.{tab, tabs}
use Rattle.wire.specs.Numbers.{Bytes}
use Rattle.wire.proofs.Lists.{tab-same}
use Rattle.wire.proofs.Bytes.{bytes_take, bytes_drop}
use Rattle.hexline.specs.Lines.{a_frame, content_of, lines, newline}
use Rattle.hexline.specs.Printed.{ended}
use Rattle.hexline.proofs.Split.{unbroken, line_first}
use Rattle.framed.specs.Hexadecimal.{digits_of, line_of, frame_at, lines_of}
use Rattle.framed.proofs.Digits.{digits-length, digits-unbroken, digits_all, digits_back}
use Rattle.framed.proofs.Laying.{frame-length}

-- lines without a newline in them, each ended by one, are found as they are
lines-found : (n : ℕ) (line : ℕ → List ℕ) (rest : List ℕ) → ((t : ℕ) → unbroken (line t) ≡ true) → lines (tabs n (λ t. ended (line t)) ++ rest) ≡ tab n line ++ lines rest
lines-found zero line rest whole = refl
lines-found (suc n) line rest whole =
    ap lines (append_assoc (tabs n (λ t. ended (line t))) (ended (line n)) rest ∙ ap (λ l. tabs n (λ t. ended (line t)) ++ l) (append_assoc (line n) (newline ∷ []) rest))
    ∙ lines-found n line (line n ++ (newline ∷ rest)) whole
    ∙ ap (λ l. tab n line ++ l) (line_first (line n) rest (whole n))
    ∙ sym (append_assoc (tab n line) (line n ∷ []) (lines rest))

map-tab : {A B : Type 0} (n : ℕ) (f : A → B) (g : ℕ → A) → map f (tab n g) ≡ tab n (λ t. f (g t))
map-tab zero f g = refl
map-tab (suc n) f g = map-append f (tab n g) (g n ∷ []) ∙ ap (λ l. l ++ (f (g n) ∷ [])) (map-tab n f g)

-- the digits of a frame's bytes are that frame
content_back : (frame : List ℕ) → length frame ≡ 512 → Bytes frame → content_of (digits_of frame) ≡ a_frame frame
content_back frame whole small =
    let long : length (digits_of frame) ≡ 1024 = omega (arith, digits-length frame) in
    rw (digits_all frame small, eq-eqb (length (digits_of frame)) 1024 long, digits_back frame small)

pub read_back : (n : ℕ) (s : List ℕ) → Bytes s → n * 512 ≤ length s → map content_of (lines (lines_of n s)) ≡ tab n (λ t. a_frame (frame_at s t))
unfolding lines_of line_of
read_back n s small there =
    ap (map content_of)
    (ap lines (sym (append-nil (lines_of n s))) ∙ lines-found n (λ t. digits_of (frame_at s t)) [] (λ t. digits-unbroken (frame_at s t)) ∙ append-nil (tab n (λ t. digits_of (frame_at s t))))
    ∙ map-tab n content_of (λ t. digits_of (frame_at s t))
    ∙ tab-same n (λ t. content_of (digits_of (frame_at s t))) (λ t. a_frame (frame_at s t))
    (λ t below. content_back (frame_at s t) (frame-length s t (omega arith)) (bytes_take 512 (drop (t * 512) s) (bytes_drop (t * 512) s small)))
