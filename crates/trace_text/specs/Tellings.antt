-- The store after a token, or those of a field, are told. This project's own.
use Rattle.std.specs.Prelude.{◌≡◌, ℕ, List, [], slice_get}
use Rattle.token_system.specs.declared.cell.Token.{Token}
use Rattle.token_system.specs.Stores.{StoreMap}
use Rattle.agent_core.specs.Agents.{Constraint}
use Rattle.agent_core.specs.Programs.{CoreProgram}
use Rattle.agent_core.specs.Tellings.{tell_at, tell_all}
use Rattle.trace_text.specs.Fields.{Field}
use Rattle.trace_text.specs.Inputs.{Denotes, DenoteAll}

-- the store after the token of a declared cell is told
abbrev pub told_one : CoreProgram → ℕ × Token → StoreMap → StoreMap
told_one p pair u = tell_at (slice_get p.cells pair.0) p [] u pair.0 pair.1

-- the bytes say some tokens, and these are told
pub record TellsField (p : CoreProgram) (bytes : List ℕ) (old new : StoreMap) : Type 0 where
  pub tokens : Constraint
  pub said : Denotes p bytes tokens
  pub told : new ≡ tell_all p [] tokens old

-- each of the fields says some tokens, and these are told in order
pub record TellsFields (p : CoreProgram) (all : List Field) (old new : StoreMap) : Type 0 where
  pub tokens : Constraint
  pub said : DenoteAll p all tokens
  pub told : new ≡ tell_all p [] tokens old
