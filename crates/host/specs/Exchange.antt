-- Builds in a row, each from the builder that the one before left, and each frame read by the other side. Assumes nothing.
use Rattle.std.specs.Prelude.{ℕ, ◌≤◌, ◌≡◌, List, [], ◌∷◌, ℤ, length}
use Rattle.wire.specs.Answers.{Accepted}
use Rattle.host.specs.Build.{build_of}
use Rattle.host.specs.Read.{read_of}
use Rattle.host.specs.declared.Builder.{Builder}
use Rattle.host_record.specs.declared.record.Host.{Host}

-- one frame's way: the numbers and the frame lent to its build, and the slice lent to its read
pub record Trip : Type 0 where
  pub audio : List ℤ
  pub frame : List ℕ
  pub out : List ℤ

-- what the reading side has at the end, from g
abbrev pub exchange : List Trip → Builder → Host → Host
exchange [] b g = g
exchange (x ∷ xs) b g =
    exchange xs (build_of b x.audio x.frame).builder (read_of (build_of b x.audio x.frame).frame x.out g).host

-- every build is accepted, and every read has room
abbrev pub AllBuilt : List Trip → Builder → Type 0
AllBuilt [] b = Unit {0}
AllBuilt (x ∷ xs) b =
    ((build_of b x.audio x.frame).answer ≡ Accepted) × (252 ≤ length x.out) × AllBuilt xs (build_of b x.audio x.frame).builder
