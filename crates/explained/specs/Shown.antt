-- T-05: what is shown for a place: the sentence, and the bytes around it. Assumes nothing.
use Rattle.std.specs.Prelude.{ℕ, Bool, cond, ◌||◌, List, ◌++◌, leb, ltb, length}
use Rattle.text.specs.Put.{Written, gave, written}
use Rattle.why.specs.declared.Reason.{Reason}
use Rattle.sentences.specs.Sentence.{no_reason, sentence_of}
use Rattle.explained.specs.Window.{windows_of}

-- too long an input, a place outside it, or a reason that it cannot have
abbrev pub no_place : List ℕ → ℕ → Reason → Bool
no_place input place reason = ltb 65536 (length input) || leb (length input) place || no_reason place reason

abbrev pub shown_text : List ℕ → ℕ → Reason → List ℕ
shown_text input place reason = sentence_of input place reason ++ windows_of input place reason

unfoldable pub shown_of : List ℕ → ℕ → Reason → List ℕ → Written
shown_of input place reason out = cond (ltb (length out) 512 || no_place input place reason) (gave 0 out) (written (shown_text input place reason) out)
