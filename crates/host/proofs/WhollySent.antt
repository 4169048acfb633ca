-- A record left unchanged is wholly sent within eleven accepted builds, from any turn, into whatever record the other side had. Assumes nothing.
use mathlib.Core.Path.{◌≡◌, refl, sym, ap, subst, ◌∙◌}
use mathlib.Core.Bool.{true}
use mathlib.Core.List.{List, [], ◌∷◌}
use Prim.Native.Nat.{ℕ, zero, suc, ◌≤◌}
use native.Mathlib.Omega.{arith}
use lib.ListN.{length}
use Rattle.wire.specs.Answers.{Accepted}
use Rattle.host.proofs.BuildCases.{Ready, accepted_ready, build_answer, build-accepted}
use Rattle.host.proofs.BuiltFrame.{built_says}
use Rattle.wire.proofs.Everywhere.{all_below, below}
use Rattle.host.proofs.Told.{Says, Each, among, wholly_told}
use Rattle.host_turn.proofs.WordTrip.{Held}
use Rattle.host.specs.Build.{build_of, accepted, frame_of, moved, next_turn}
use Rattle.host.specs.Exchange.{Trip, exchange, AllBuilt}
use Rattle.host.specs.Read.{Call, reads, read_of}
use Rattle.host_record.specs.Record.{Seven}
use Rattle.host_words.specs.Words.{last_word}
use Rattle.host.specs.declared.Builder.{Builder}
use Rattle.host_record.specs.declared.record.Host.{Host}

-- the turns of n builds in a row
abbrev turns : ℕ → ℕ → List ℕ
turns zero turn = []
turns (suc n) turn = turn ∷ turns n (next_turn turn)

-- as many turns as there are words come to every word
every_turn : (turn : ℕ) → turn ≤ last_word → (w : ℕ) → w ≤ last_word → among w (turns (suc last_word) turn) ≡ true
every_turn turn first w listed =
    below (suc last_word) (λ v. among v (turns (suc last_word) turn))
    (below (suc last_word) (λ t. all_below (suc last_word) (λ v. among v (turns (suc last_word) t))) refl turn (omega arith))
    w (omega arith)

-- the reads of an exchange
abbrev calls : List Trip → Builder → List Call
calls [] b = []
calls (x ∷ xs) b = record { frame = frame_of b x.audio; audio = x.out } ∷ calls xs (moved b)

module _ (x : Trip) (b : Builder) (answered : (build_of b x.audio x.frame).answer ≡ Accepted) where
  built : build_of b x.audio x.frame ≡ accepted b x.audio
  built = build-accepted b x.audio x.frame (sym (build_answer b x.audio x.frame) ∙ answered)

  ready : Ready b (length x.audio) (length x.frame)
  ready = accepted_ready b (length x.audio) (length x.frame) (sym (build_answer b x.audio x.frame) ∙ answered)

  rest : (xs : List Trip) → AllBuilt xs (build_of b x.audio x.frame).builder → AllBuilt xs (moved b)
  rest xs = subst (λ o. AllBuilt xs o.builder) built

exchange-reads : (xs : List Trip) (b : Builder) (g : Host) → AllBuilt xs b → exchange xs b g ≡ reads (calls xs b) g
exchange-reads [] b g all = refl
exchange-reads (x ∷ xs) b g all =
    ap (λ o. exchange xs o.builder (read_of o.frame x.out g).host) (built x b all.0)
    ∙ exchange-reads xs (moved b) (read_of (frame_of b x.audio) x.out g).host (rest x b all.0 xs all.2)

all_say : (xs : List Trip) (b : Builder) → AllBuilt xs b → Held b.host → Each (Says b.host) (turns (length xs) b.turn) (calls xs b)
all_say [] b all held = tt
all_say (x ∷ xs) b all held = (
  built_says b x.audio (length x.audio) (length x.frame) (ready x b all.0) x.out all.1 held,
  all_say xs (moved b) (rest x b all.0 xs all.2) held,
)

-- the first of the builds was accepted, so its turn is one of the words'
first_due : (xs : List Trip) (b : Builder) → length xs ≡ suc last_word → AllBuilt xs b → b.turn ≤ last_word
first_due [] b eleven all = absurd (omega arith)
first_due (x ∷ xs) b eleven all = (ready x b all.0).turn

pub wholly_sent : (xs : List Trip) (b : Builder) (g : Host) → length xs ≡ suc last_word → AllBuilt xs b → Held b.host → Seven g → exchange xs b g ≡ b.host
wholly_sent xs b g eleven all held seven =
    exchange-reads xs b g all
    ∙ wholly_told b.host (turns (length xs) b.turn) (calls xs b) g
    (λ w listed. rw eleven (every_turn b.turn (first_due xs b eleven all) w listed))
    (all_say xs b all held) held.seven seven
