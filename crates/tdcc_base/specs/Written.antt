-- How the known bytes of a sink grow by bytes that are written to it. This project's own.
use Rattle.std.specs.Prelude.{◌⊎◌, ℕ, ◌<◌, ◌≤◌, List, length, take, Option}
use Rattle.std.specs.Io.KnownBytes.{Appends}
use Rattle.tdcc_base.specs.Causes.{Rose}

-- by a prefix of the bytes that is not all of them
abbrev pub AppendsProperPrefix : Option (List ℕ) → Option (List ℕ) → List ℕ → Type 0
AppendsProperPrefix before now bytes = (n : ℕ) × (n < length bytes) × Appends before now (take n bytes)

-- by a prefix of the bytes, which may be all of them
abbrev pub AppendsPrefix : Option (List ℕ) → Option (List ℕ) → List ℕ → Type 0
AppendsPrefix before now bytes = (n : ℕ) × (n ≤ length bytes) × Appends before now (take n bytes)

-- by all bytes, or by a part of them where the sink failed
abbrev pub WritesUntilFault : Option (List ℕ) → Option (List ℕ) → ℕ → ℕ → List ℕ → Type 0
WritesUntilFault before now faults_before faults_now bytes =
    Appends before now bytes ⊎ (Rose faults_before faults_now × AppendsProperPrefix before now bytes)
