-- Values of a cell and its closed sets of tokens are the same, and so are stores and closed sets of tokens of named cells. The form is that of a constraint system, whose elements are closed sets; the values are this project's own.
use Rattle.std.specs.Prelude.{List, [], ◌∷◌, All, cond}
use Rattle.std.specs.Ordering.{eq_by_cmp}
use Rattle.token_system.specs.declared.name.CellName.{CellName}
use Rattle.token_system.specs.Names.{name_cmp}
use Rattle.token_system.specs.Stores.{StoreMap, value_at}
use Rattle.token_system.specs.StoreJoins.{AreKeptFor}
use Rattle.token_system.specs.declared.cell.Cell.{Cell}
use Rattle.token_system.specs.declared.cell.Token.{Token}
use Rattle.token_system.specs.declared.cell.Value.{Value}
use Rattle.token_system.specs.Tokens.{Fits}
use Rattle.token_system.specs.Values.{IsValueOf, StandsFor}
use Rattle.agent_laws.specs.Laws.{ExactlyOne}

-- the value is one of the cell's, and stands for what the tokens entail
pub record IsClosureOf (c : Cell) (ts : List Token) (v : Value) : Type 0 where
  pub value : IsValueOf c v
  pub stands : StandsFor c v ts

-- what tokens of a cell entail is what exactly one value of the cell stands for
abbrev pub TokensHaveOneValue : Type 0
TokensHaveOneValue = (c : Cell) (ts : List Token) → All (Fits c) ts → ExactlyOne (IsClosureOf c ts)

-- and each value of the cell stands for what some tokens entail
abbrev pub ValuesHaveTokens : Type 0
ValuesHaveTokens = (c : Cell) (v : Value) → IsValueOf c v → (ts : List Token) × All (Fits c) ts × StandsFor c v ts

-- what a list of named tokens tells of one name
abbrev pub told_on : CellName → List (CellName × Token) → List Token
told_on n [] = []
told_on n (x ∷ ts) = cond (eq_by_cmp name_cmp n x.0) (x.1 ∷ told_on n ts) (told_on n ts)

-- each token fits the cell of its name
abbrev pub FitNames : (CellName → Cell) → List (CellName × Token) → Type 0
FitNames cell_of ts = All (λ x. Fits (cell_of x.0) x.1) ts

-- the store keeps values of these cells, and has for each name what the tokens of that name entail
pub record IsClosedStore (cell_of : CellName → Cell) (ts : List (CellName × Token)) (s : StoreMap) : Type 0 where
  pub kept : AreKeptFor cell_of s
  pub stands : (n : CellName) → StandsFor (cell_of n) (value_at s n (cell_of n)) (told_on n ts)

-- what tokens of named cells entail is what exactly one store stands for
abbrev pub TokensHaveOneStore : Type 0
TokensHaveOneStore = (cell_of : CellName → Cell) (ts : List (CellName × Token)) → FitNames cell_of ts → ExactlyOne (IsClosedStore cell_of ts)

-- and each store stands for what some tokens of named cells entail
abbrev pub StoresHaveTokens : Type 0
StoresHaveTokens = (cell_of : CellName → Cell) (s : StoreMap) → AreKeptFor cell_of s → (ts : List (CellName × Token)) × FitNames cell_of ts × IsClosedStore cell_of ts s
