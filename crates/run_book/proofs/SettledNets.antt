-- What the net of a stratified program's roots is settled to is its output.
use Rattle.std.proofs.Common.{◌≡◌, ℕ, List, sym, subst, arith}
use Rattle.token_system.specs.Stores.{StoreMap}
use Rattle.agent_core.specs.declared.node.Closure.{Closure}
use Rattle.agent_core.specs.Programs.{CoreProgram}
use Rattle.agent_core.specs.Stores.{IsInput}
use Rattle.agent_core.specs.Strata.{Stratifies}
use Rattle.agent_core.specs.RootOutputs.{IsOutputOf}
use Rattle.agent_laws.specs.Laws.{RootsHaveOneOutput}
use Rattle.instant_net.specs.Nets.{Flat}
use Rattle.instant_net.specs.Opened.{IsNetOf}
use Rattle.instant_net.specs.Outputs as net
use Rattle.instant_net.specs.Laws.{NetsAreStratified, NetsHaveRootOutputs}
use Rattle.net_laws.specs.Ways.{IsOnNetWay}

module _ (one : RootsHaveOneOutput) (stratified : NetsAreStratified) (outs : NetsHaveRootOutputs)
    (p : CoreProgram) (table : List ℕ) (strat : Stratifies p table) (rs : List Closure) (t : ℕ) (flat : Flat) (of : IsNetOf p table rs t flat)
    (i : StoreMap) (input : IsInput p i) where
  abbrev output : StoreMap
  output = (one p table of.program strat rs of.roots t i input.store).0

  is_output : IsOutputOf p rs t i output
  is_output = (one p table of.program strat rs of.roots t i input.store).1

  net_output : net.IsNetOutput flat i output
  net_output = (outs p table rs t flat of i output input).1 is_output

  pub given_net : net.IsStoreOf flat.cells i
  given_net = net_output.given

  -- from words of the input
  pub settled_net : (before after : StoreMap) → before ≡ i
      → ((input output : StoreMap) → net.IsStratified flat → net.IsNetOutput flat input output → IsOnNetWay flat input output 0 before → after ≡ output)
      → net.IsNetOutput flat i after
  settled_net before after same settled =
      let way : IsOnNetWay flat i output 0 i = record {
        store = net_output.given;
        above = λ c t within fits h. h;
        below = net_output.above;
        stands = λ c t within low fits h. absurd (omega arith);
      } in
      let ends : after ≡ output = settled i output (stratified p table rs t flat of strat) net_output (subst (IsOnNetWay flat i output 0) (sym same) way) in
      subst (net.IsNetOutput flat i) (sym ends) net_output
