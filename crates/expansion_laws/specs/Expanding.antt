-- The symbolic agent of a tree: each core form stands for itself, and each derived form for what the table says,
-- inner forms first. The form with number m hides the signal with binder cells + m, which is the binder of no cell of
-- the surface. This project's own.
use Rattle.std.specs.Prelude.{ℕ, suc, ◌+◌, Some}
use Rattle.tdcc_reader.specs.Trees.{Tree, form_count}
use Rattle.tdcc_reader.specs.Trees as tree
use Rattle.expansion_laws.specs.SymbolicAgents.{SymbolicAgent, Skip, Tell, Then, Else, Par, New, Hence, Next}
use Rattle.expansion_laws.specs.Table.{always, when, watching, timed}

-- the symbolic agent of a tree whose root has number m, in a surface with so many cells
abbrev pub symbolic_of : ℕ → ℕ → Tree → SymbolicAgent
symbolic_of cells m tree.Skip = Skip (Some m)
symbolic_of cells m (tree.Tell c) = Tell (Some m) c
symbolic_of cells m (tree.Then c a) = Then (Some m) c (symbolic_of cells (suc m) a)
symbolic_of cells m (tree.Else c a) = Else (Some m) c (symbolic_of cells (suc m) a)
symbolic_of cells m (tree.Par l r) = Par (Some m) (symbolic_of cells (suc m) l) (symbolic_of cells (suc m + form_count l) r)
symbolic_of cells m (tree.New cell a) = New (Some m) cell (symbolic_of cells (suc m) a)
symbolic_of cells m (tree.Hence a) = Hence (Some m) (symbolic_of cells (suc m) a)
symbolic_of cells m (tree.Next a) = Next (Some m) (symbolic_of cells (suc m) a)
symbolic_of cells m (tree.Always a) = always (symbolic_of cells (suc m) a)
symbolic_of cells m (tree.When c a) = when (cells + m) c (symbolic_of cells (suc m) a)
symbolic_of cells m (tree.Watch a c) = watching (cells + m) c (symbolic_of cells (suc m) a)
symbolic_of cells m (tree.Time a c) = timed (cells + m) c (symbolic_of cells (suc m) a)
