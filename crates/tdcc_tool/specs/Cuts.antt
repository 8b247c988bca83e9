-- What out holds of the answer where a fault, or memory that ran out, cut the call short. This project's own.
use Rattle.std.specs.Prelude.{◌≡◌, ◌≢◌, ◌⊎◌, ℕ, List, [], ◌∷◌, ◌++◌, Option, Some, None, All, String}
use Rattle.std.specs.declared.alloc.Global.{Global}
use Rattle.tdcc_base.specs.Written.{AppendsProperPrefix, AppendsPrefix}
use Rattle.tdcc_base.specs.declared.status.Status.{Status}
use Rattle.tdcc_base.specs.declared.status.Status.TheVariants as statuses
use Rattle.tdcc_tool.specs.Answers.{Answers}
use Rattle.tdcc_tool.specs.Messages.{usage_line, read_line, write_line, memory_line}

-- no bytes, or bytes that end with a line feed
abbrev pub EndsLine : List ℕ → Type 0
EndsLine bytes = (bytes ≡ []) ⊎ ((front : List ℕ) × (bytes ≡ front ++ 10 ∷ []))

-- these are the whole lines of the bytes that were given
pub record WholeLines (given lines : List ℕ) : Type 0 where
  pub part : List ℕ
  pub parted : given ≡ lines ++ part
  pub no_end : All (λ b. b ≢ 10) part
  pub whole : EndsLine lines

-- After a read fault out holds a prefix of the answer to the whole lines that the source gave.
abbrev pub HoldsPrefixOfAnswer : List (String Global) → List ℕ → Option (List ℕ) → Option (List ℕ) → Type 0
HoldsPrefixOfAnswer words given before now =
    (lines : List ℕ) (s : Status) (o e : List ℕ) → WholeLines given lines → Answers words lines s o e → AppendsPrefix before now o

-- What out holds of the answer to all bytes, of which the source gave these: after a write fault a proper prefix, if memory ran out a prefix.
abbrev pub LeavesAfterFault : Status → List (String Global) → List ℕ → List ℕ → Option (List ℕ) → Option (List ℕ) → Type 0
LeavesAfterFault statuses.Read words bytes given before now = HoldsPrefixOfAnswer words given before now
LeavesAfterFault statuses.Write words bytes given before now = (s : Status) (o e : List ℕ) → Answers words bytes s o e → AppendsProperPrefix before now o
LeavesAfterFault statuses.Memory words bytes given before now = (s : Status) (o e : List ℕ) → Answers words bytes s o e → AppendsPrefix before now o
LeavesAfterFault _ words bytes given before now = Unit {0}

-- the line that a status has by itself, whatever the bytes
abbrev pub fixed_line : Status → Option (List ℕ)
fixed_line statuses.Usage = Some usage_line
fixed_line statuses.Read = Some read_line
fixed_line statuses.Write = Some write_line
fixed_line statuses.Memory = Some memory_line
fixed_line _ = None
