-- The parts of a node, and what a numbering in preorder says of them.
use Rattle.std.proofs.Common.{◌≡◌, ℕ, suc, ◌+◌, ◌<◌, List, length, Some}
use Rattle.std.specs.Prelude.{slice_get}
use Rattle.agent_core.specs.declared.node.Node.{Node}
use Rattle.agent_core.specs.declared.node.Node.TheVariants as nodes
use Rattle.agent_core.specs.Agents.{agent_at}
use Rattle.agent_core.specs.Listing.{size}
use Rattle.agent_core.specs.Names.{depth_of}

-- P holds of each part of the node
abbrev pub EachPart : (ℕ → Type 0) → Node → Type 0
EachPart P nodes.Skip = Unit {0}
EachPart P (nodes.Tell ask) = Unit {0}
EachPart P (nodes.Then ask body) = P body
EachPart P (nodes.Else ask body) = P body
EachPart P (nodes.Par left right) = P left × P right
EachPart P (nodes.New cell body) = P body
EachPart P (nodes.Hence body) = P body
EachPart P (nodes.Next body) = P body

-- the parts of node n stand where a numbering in preorder has them
abbrev pub PartsFollow : List Node → ℕ → Node → Type 0
PartsFollow all n (nodes.Par left right) = (left ≡ suc n) × (right ≡ suc n + size (agent_at all (suc n)))
PartsFollow all n node = EachPart (λ body. body ≡ suc n) node

-- the nodes are numbered in preorder from the root, each but the root the child of exactly one
pub record IsPreorder (all : List Node) : Type 0 where
  pub whole : size (agent_at all 0) ≡ length all
  pub parts : (n : ℕ) (node : Node) → slice_get all n ≡ Some node → PartsFollow all n node

-- how many new nodes enclose the parts of a node that so many enclose
abbrev pub depth_within : Node → ℕ → ℕ
depth_within (nodes.New cell body) d = suc d
depth_within _ d = d

-- m is a node behind node n, and so many new nodes enclose it
pub record IsPart (all : List Node) (n d m : ℕ) : Type 0 where
  pub above : n < m
  pub inside : m < length all
  pub deep : depth_of all m ≡ d
