-- A watching and a time, worked out by hand: their surfaces, their core programs, and a tell inside each.
use Rattle.std.specs.Prelude.{ℕ, pos, refl, [], ◌∷◌}
use Rattle.token_system.specs.declared.cell.Kind.TheVariants.{Signal}
use Rattle.agent_core.specs.declared.node.CellDecl.{CellDecl}
use Rattle.agent_core.specs.declared.node.Node.TheVariants as nodes
use Rattle.agent_core.specs.Agents as agent
use Rattle.agent_core.specs.Programs.{CoreProgram}
use Rattle.agent_core.specs.Leaves.{Leaf, leaf, Positive, Negative}
use Rattle.agent_core.specs.Worked.{a_decl, a_on, nothing, only_a}
use Rattle.tdcc_reader.specs.declared.surface.Form.TheVariants as forms
use Rattle.tdcc_reader.specs.Surfaces.{SurfaceProgram}
use Rattle.tdcc_reader.specs.Trees.{Tree, Tell, Next, Always, Watch, Time}
use Rattle.expansion_laws.specs.SymbolicAgents.{SymbolicAgent}
use Rattle.expansion_laws.specs.Table.{signal_on}
use Rattle.expansion_laws.specs.Expanding.{symbolic_of}
use Rattle.expansion_laws.specs.Expansions.{IsExpansion}
use Rattle.expansion_laws.specs.Paths.{IsTellInside, IsOnClock}
use Rattle.expansion_laws.specs.Stops.{WatchingForm, StartedCopy, IsWatched}

-- the signal `b`, and the hidden signal whose name is a dollar and this digit
abbrev pub b_decl : CellDecl
b_decl = record { name = 98 ∷ []; cell = record { kind = Signal; lo = pos 0; hi = pos 0; lawful = refl } }

abbrev pub dollar_decl : ℕ → CellDecl
dollar_decl digit = record {
  name = 36 ∷ digit ∷ [];
  cell = record { kind = Signal; lo = pos 0; hi = pos 0; lawful = refl };
}

-- `signal a, b; do always b watching a`
abbrev pub watching_surface : SurfaceProgram
watching_surface = record {
  cells = a_decl ∷ b_decl ∷ [];
  declared = 2;
  forms = forms.Watch 1 a_on ∷ forms.Always 2 ∷ forms.Tell (signal_on 1) ∷ [];
}

-- the same as a tree, and the body of the watching
abbrev pub always_b : Tree
always_b = Always (Tell (signal_on 1))

abbrev pub watching_symbolic : SymbolicAgent
watching_symbolic = symbolic_of 2 0 (Watch always_b a_on)

-- `new signal $2 in { { if a then { $2 || hence $2 } || hence if a then { $2 || hence $2 } } || if $2 else b || hence
-- if $2 else b }`
abbrev pub watching_core : CoreProgram
watching_core = record {
  cells = a_decl ∷ b_decl ∷ dollar_decl 50 ∷ [];
  declared = 2;
  nodes = nodes.New 2 1 ∷ nodes.Par 2 14
      ∷ nodes.Par 3 8
      ∷ nodes.Then a_on 4 ∷ nodes.Par 5 6 ∷ nodes.Tell (signal_on 2) ∷ nodes.Hence 7 ∷ nodes.Tell (signal_on 2)
      ∷ nodes.Hence 9
      ∷ nodes.Then a_on 10 ∷ nodes.Par 11 12 ∷ nodes.Tell (signal_on 2) ∷ nodes.Hence 13 ∷ nodes.Tell (signal_on 2)
      ∷ nodes.Par 15 17
      ∷ nodes.Else (signal_on 2) 16 ∷ nodes.Tell (signal_on 1)
      ∷ nodes.Hence 18
      ∷ nodes.Else (signal_on 2) 19 ∷ nodes.Tell (signal_on 1) ∷ [];
}

-- the tell of `b` at instant 0 and the one at instant 1: the watching was started at instant 0
abbrev pub first_watched : Leaf
first_watched = leaf 16 (agent.Tell (signal_on 1)) (0 ∷ []) (Negative (0 ∷ []) (signal_on 2) ∷ [])

abbrev pub later_watched : Leaf
later_watched = leaf 19 (agent.Tell (signal_on 1)) (0 ∷ []) (Negative (0 ∷ []) (signal_on 2) ∷ [])

-- the watching, and the copy of it that was started at instant 0
abbrev pub watching_form : WatchingForm
watching_form = record { number = 0; body = always_b; stop = a_on }

abbrev pub first_copy : StartedCopy
first_copy = record { hidden = 2; start = 0; births = []; stop = a_on }

-- both are tells inside the watching, and belong to that copy
pub record WorksForWatching : Type 0 where
  pub expansion : IsExpansion watching_surface watching_core
  pub first : IsTellInside watching_surface watching_symbolic watching_core [] 0 always_b first_watched
  pub later : IsTellInside watching_surface watching_symbolic watching_core (nothing ∷ []) 0 always_b later_watched
  pub first_stopped : IsWatched watching_surface watching_symbolic watching_core watching_form first_copy first_watched
  pub later_stopped : IsWatched watching_surface watching_symbolic watching_core watching_form first_copy later_watched

-- `signal a, b; time next b on a`
abbrev pub time_surface : SurfaceProgram
time_surface = record {
  cells = a_decl ∷ b_decl ∷ [];
  declared = 2;
  forms = forms.Time 1 a_on ∷ forms.Next 2 ∷ forms.Tell (signal_on 1) ∷ [];
}

-- the same as a tree, and the body of the time
abbrev pub next_b : Tree
next_b = Next (Tell (signal_on 1))

abbrev pub time_symbolic : SymbolicAgent
time_symbolic = symbolic_of 2 0 (Time next_b a_on)

-- Once `a` holds, where $2 is not on, next this: once `a` holds, where $3 is not on, `b`. It stands there twice, for
-- this instant and for the later ones, and the second time $4 is in the place of $3.
abbrev pub time_core : CoreProgram
time_core = record {
  cells = a_decl ∷ b_decl ∷ dollar_decl 50 ∷ dollar_decl 51 ∷ dollar_decl 52 ∷ [];
  declared = 2;
  nodes = nodes.New 2 1 ∷ nodes.Par 2 23
      ∷ nodes.Then a_on 3 ∷ nodes.Par 4 21 ∷ nodes.Else (signal_on 2) 5 ∷ nodes.Next 6
      ∷ nodes.New 3 7 ∷ nodes.Par 8 14
      ∷ nodes.Then a_on 9 ∷ nodes.Par 10 12 ∷ nodes.Else (signal_on 3) 11 ∷ nodes.Tell (signal_on 1)
      ∷ nodes.Hence 13 ∷ nodes.Tell (signal_on 3)
      ∷ nodes.Hence 15
      ∷ nodes.Then a_on 16 ∷ nodes.Par 17 19 ∷ nodes.Else (signal_on 3) 18 ∷ nodes.Tell (signal_on 1)
      ∷ nodes.Hence 20 ∷ nodes.Tell (signal_on 3)
      ∷ nodes.Hence 22 ∷ nodes.Tell (signal_on 2)
      ∷ nodes.Hence 24
      ∷ nodes.Then a_on 25 ∷ nodes.Par 26 43 ∷ nodes.Else (signal_on 2) 27 ∷ nodes.Next 28
      ∷ nodes.New 4 29 ∷ nodes.Par 30 36
      ∷ nodes.Then a_on 31 ∷ nodes.Par 32 34 ∷ nodes.Else (signal_on 4) 33 ∷ nodes.Tell (signal_on 1)
      ∷ nodes.Hence 35 ∷ nodes.Tell (signal_on 4)
      ∷ nodes.Hence 37
      ∷ nodes.Then a_on 38 ∷ nodes.Par 39 41 ∷ nodes.Else (signal_on 4) 40 ∷ nodes.Tell (signal_on 1)
      ∷ nodes.Hence 42 ∷ nodes.Tell (signal_on 4)
      ∷ nodes.Hence 44 ∷ nodes.Tell (signal_on 2) ∷ [];
}

-- the tell of `b` at instant 1, where `a` was on at instant 0
abbrev pub clocked_tell : Leaf
clocked_tell =
    leaf 11 (agent.Tell (signal_on 1)) (0 ∷ 1 ∷ []) (Positive (0 ∷ 1 ∷ []) a_on ∷ Negative (0 ∷ 1 ∷ []) (signal_on 3) ∷ [])

-- it is a tell inside the time, and it is on the clock
pub record WorksForTime : Type 0 where
  pub expansion : IsExpansion time_surface time_core
  pub inside : IsTellInside time_surface time_symbolic time_core (only_a ∷ []) 0 next_b clocked_tell
  pub on_clock : IsOnClock time_surface time_symbolic time_core clocked_tell a_on
