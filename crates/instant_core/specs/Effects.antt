-- How each kind of step changes what a worker knows. This project's own.
use Rattle.std.specs.Prelude.{ℕ, zero, suc, ◌+◌, ◌==◌, true, false, List, [], ◌∷◌, ◌++◌, None, if◌then◌else◌}
use Rattle.instant_net.specs.Nets.{Flat}
use Rattle.instant_net.specs.Words.{lub}
use Rattle.instant_net.specs.Seen.{taken, knowing, merged}
use Rattle.instant_core.specs.declared.hand.Hand.TheVariants.{Empty, Announced, Claimed}
use Rattle.instant_core.specs.Net.{how_of, tells_count, word_and_bits}
use Rattle.instant_core.specs.Notes.{word_noted, leaf_noted, mark_counted}
use Rattle.instant_core.specs.Views.{Knows}

-- LOOKING

abbrev pub loaded : Flat → ℕ → ℕ → Knows → Knows
loaded net word found v = record v { seen = taken net word found true v.seen; mark = word_noted word found v.mark }

abbrev pub sought : ℕ → ℕ → Knows → Knows
sought leaf bit v = record v { mark = leaf_noted leaf bit v.mark }

abbrev pub counted : Flat → ℕ → ℕ → Knows → Knows
counted net count flying v = record v { mark = mark_counted net count flying v.mark }

abbrev pub phase_seen : ℕ → Knows → Knows
phase_seen found v = record v { seen = knowing found v.seen }

-- TELLING

abbrev pub announced : ℕ → Knows → Knows
announced leaf v = record v { announced = v.announced ++ (v.number, leaf) ∷ []; hand = Announced leaf }

-- by the bit that was found: after 1 nothing is left to post
abbrev pub claimed : Flat → ℕ → ℕ → Knows → Knows
claimed net leaf zero v = record v { won = v.won ++ (v.number, leaf) ∷ []; hand = Claimed leaf 0 }
claimed net leaf (suc _) v = record v { hand = Claimed leaf (tells_count net leaf) }

abbrev pub posted : Flat → ℕ → ℕ → ℕ → Knows → Knows
posted net leaf k found v = record v {
  seen = taken net (word_and_bits net leaf k).0 (lub (how_of net (word_and_bits net leaf k).0) found (word_and_bits net leaf k).1) false v.seen;
  hand = Claimed leaf (k + 1);
}

abbrev pub finished : Knows → Knows
finished v = record v { hand = Empty }

abbrev pub raised : ℕ → Knows → Knows
raised phase v = record v { seen = knowing phase v.seen }

-- COMING AND GOING

abbrev pub without : ℕ → List ℕ → List ℕ
without n [] = []
without n (x ∷ xs) = if x == n then without n xs else (x ∷ without n xs)

-- a view that hands the number on, and the view that gets it
abbrev pub handing : ℕ → Knows → Knows
handing n v = record v { spare = without n v.spare }

abbrev pub newcomer : ℕ → Knows → Knows
newcomer n v = record { live = true; number = n; spare = []; seen = v.seen; announced = []; won = []; hand = Empty; mark = None }

-- a view that is no worker's any more
abbrev pub no_view : Knows
no_view = record { live = false; number = 0; spare = []; seen = record { words = []; settled = []; known = 0 }; announced = []; won = []; hand = Empty; mark = None }

-- a view that takes over what another one knows
abbrev pub joined : Flat → Knows → Knows → Knows
joined net v w = record v { seen = merged net v.seen w.seen; announced = v.announced ++ w.announced; won = v.won ++ w.won }
