-- The derived forms, each by the core forms that it stands for. This project's own, after the forms of timed default
-- concurrent constraint programming (Saraswat, Jagadeesan and Gupta 1994/1996).
use Rattle.std.specs.Prelude.{ℕ, [], ◌∷◌, None}
use Rattle.token_system.specs.declared.cell.Token.TheVariants as token
use Rattle.agent_core.specs.Agents.{Constraint}
use Rattle.expansion_laws.specs.SymbolicAgents.{SymbolicAgent, Skip, Tell, Then, Else, Par, New, Hence, Next}

-- the signal with this binder is on
abbrev pub signal_on : ℕ → Constraint
signal_on binder = (binder, token.On) ∷ []

-- A now, and at every later instant
abbrev pub always : SymbolicAgent → SymbolicAgent
always a = Par None a (Hence None a)

-- The hidden signal d is on from the first instant on that entails c. At this instant, where d is not on yet, A is
-- started.
abbrev pub when : ℕ → Constraint → SymbolicAgent → SymbolicAgent
when d c a =
    New None d (always (Then None c (Par None (Else None (signal_on d) a) (Hence None (Tell None (signal_on d))))))

-- each tell waits for k to be absent
abbrev pub guarded : ℕ → SymbolicAgent → SymbolicAgent
guarded k (Skip o) = Skip o
guarded k (Tell o b) = Else None (signal_on k) (Tell o b)
guarded k (Then o b a) = Then o b (guarded k a)
guarded k (Else o b a) = Else o b (guarded k a)
guarded k (Par o a b) = Par o (guarded k a) (guarded k b)
guarded k (New o binder a) = New o binder (guarded k a)
guarded k (Hence o a) = Hence o (guarded k a)
guarded k (Next o a) = Next o (guarded k a)

-- The hidden signal k is on from each instant on that entails c, and the tells of A wait for its absence.
abbrev pub watching : ℕ → Constraint → SymbolicAgent → SymbolicAgent
watching k c a =
    New None k (Par None
    (always (Then None c (Par None (Tell None (signal_on k)) (Hence None (Tell None (signal_on k))))))
    (guarded k a))

-- What A leaves for later is for the instants alone that entail c: the next one of these, or all of them.
abbrev pub clocked : ℕ → Constraint → SymbolicAgent → SymbolicAgent
clocked d c (Skip o) = Skip o
clocked d c (Tell o b) = Tell o b
clocked d c (Then o b a) = Then o b (clocked d c a)
clocked d c (Else o b a) = Else o b (clocked d c a)
clocked d c (Par o a b) = Par o (clocked d c a) (clocked d c b)
clocked d c (New o binder a) = New o binder (clocked d c a)
clocked d c (Next o a) = Next o (when d c (clocked d c a))
clocked d c (Hence o a) = Hence o (Then None c (clocked d c a))

-- A on the clock c: from the first instant on that entails c
abbrev pub timed : ℕ → Constraint → SymbolicAgent → SymbolicAgent
timed d c a = when d c (clocked d c a)
