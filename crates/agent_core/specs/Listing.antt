-- How a tree is kept as a list: its nodes numbered in preorder, a par's left part before its right one. This project's own.
use Rattle.std.specs.Prelude.{◌≡◌, ℕ, suc, ◌+◌, List, [], ◌∷◌, ◌++◌}
use Rattle.agent_core.specs.declared.node.Node.{Node}
use Rattle.agent_core.specs.declared.node.Node.TheVariants as nodes
use Rattle.agent_core.specs.Agents.{Agent, Skip, Tell, Then, Else, Par, New, Hence, Next}

-- how many nodes a tree has
abbrev pub size : Agent → ℕ
size Skip = 1
size (Tell ask) = 1
size (Then ask a) = suc (size a)
size (Else ask a) = suc (size a)
size (Par a b) = suc (size a + size b)
size (New cell a) = suc (size a)
size (Hence a) = suc (size a)
size (Next a) = suc (size a)

-- the nodes of a tree whose root has number n
abbrev pub listing : ℕ → Agent → List Node
listing n Skip = nodes.Skip ∷ []
listing n (Tell c) = nodes.Tell c ∷ []
listing n (Then c a) = nodes.Then c (suc n) ∷ listing (suc n) a
listing n (Else c a) = nodes.Else c (suc n) ∷ listing (suc n) a
listing n (Par l r) = nodes.Par (suc n) (suc n + size l) ∷ (listing (suc n) l ++ listing (suc n + size l) r)
listing n (New cell a) = nodes.New cell (suc n) ∷ listing (suc n) a
listing n (Hence a) = nodes.Hence (suc n) ∷ listing (suc n) a
listing n (Next a) = nodes.Next (suc n) ∷ listing (suc n) a

-- the nodes are those of one tree
abbrev pub IsListing : List Node → Type 0
IsListing all = (a : Agent) × (all ≡ listing 0 a)
