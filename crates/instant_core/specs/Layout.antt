-- Where the words of an instant stand: first the store words, then the counter and the phase, and last the claims, 64 leaves to a word. This project's own.
use Rattle.std.specs.Prelude.{ℕ, ◌+◌, ◌/◌, ◌%◌, List, slice_index}
use Rattle.std.specs.Int.{bit_at}
use Rattle.instant_net.specs.Nets.{Flat}
use Rattle.instant_core.specs.Net.{width}

abbrev pub counter_at : Flat → ℕ
counter_at net = width net

abbrev pub phase_at : Flat → ℕ
phase_at net = width net + 1

abbrev pub claim_word : Flat → ℕ → ℕ
claim_word net leaf = width net + 2 + leaf / 64

-- 1 where the leaf is claimed; a number that is no leaf's has no bit
abbrev pub claim_bit : Flat → List ℕ → ℕ → ℕ
claim_bit net words leaf = bit_at (slice_index words (claim_word net leaf)) (leaf % 64)

-- how many leaves are announced
abbrev pub count_of : Flat → List ℕ → ℕ
count_of net words = slice_index words (counter_at net) / 4294967296

-- and how many of these are not put down again
abbrev pub flying_of : Flat → List ℕ → ℕ
flying_of net words = slice_index words (counter_at net) % 4294967296

-- how many strata are at rest
abbrev pub phase_of : Flat → List ℕ → ℕ
phase_of net words = slice_index words (phase_at net)
