-- What a program is made of: its cells, how many of them are declared, and its nodes. The others are local cells.
use Rattle.std.specs.Prelude.{ℕ, List}
use Rattle.agent_core.specs.declared.node.CellDecl.{CellDecl}
use Rattle.agent_core.specs.declared.node.Node.{Node}

pub record CoreProgram : Type 0 where
  pub cells : List CellDecl
  pub declared : ℕ
  pub nodes : List Node
