-- In the core program of a generated text no new stands below a hence or a next, so its instants have few leaves.
use Rattle.std.proofs.Common.{◌≡◌, ℕ, suc, ◌+◌, ◌≤◌, false, List, [], ◌∷◌, length, refl, sym, ap, ◌∙◌, subst, arith}
use Rattle.token_system.specs.Stores.{StoreMap}
use Rattle.agent_core.specs.Agents.{Agent, agent_at}
use Rattle.agent_core.specs.Closures.{roots}
use Rattle.agent_core.specs.Leaves.{leaves, ran}
use Rattle.agent_core.specs.Programs.{CoreProgram}
use Rattle.agent_core.proofs.ListingTrees.{root_tree}
use Rattle.tdcc_reader.specs.Trees as tree
use Rattle.expansion_laws.specs.SymbolicAgents.{binders}
use Rattle.expansion_laws.specs.Numbering.{bound_agent}
use Rattle.expansion_laws.specs.Expansions.{IsExpansion}
use Rattle.generated_laws.specs.GeneratedUnits.{GeneratedUnit, Follows, Defaults, Delays, Starts, Ends, Bounds, generated_units}
use Rattle.generated_laws.specs.GeneratedSurfaces.{part_tree, surface}
use Rattle.generated_laws.proofs.PartSketches.{part_sketch, parts_sketch}
use Rattle.generated_laws.proofs.FewLeaves.{NewsFirst, leaves-few, ran-few}
use Rattle.generated_laws.proofs.Built.{one_sketch}

part_news : (u : GeneratedUnit) (m n : ℕ) → NewsFirst false (bound_agent [] n (part_sketch m u))
part_news (Follows i j) m n = (tt, tt)
part_news (Defaults i j) m n = (tt, tt)
part_news (Delays i j) m n = (tt, tt)
part_news (Starts i j) m n = (refl, (((tt, tt), tt), ((tt, tt), tt)))
part_news (Ends i j h) m n = (refl, (((tt, tt), (tt, tt)), (tt, tt)))
part_news (Bounds i x k) m n = (tt, tt)

parts_news : (us : List GeneratedUnit) (m n : ℕ) → NewsFirst false (bound_agent [] n (parts_sketch m us))
parts_news [] m n = tt
parts_news (u ∷ []) m n = part_news u m n
parts_news (u ∷ v ∷ vs) m n = (part_news u (suc m) n, parts_news (v ∷ vs) (suc m + tree.form_count (part_tree u)) (n + length (binders (part_sketch (suc m) u))))

-- An instant of the core program of the surface has at most as many leaves as the program has nodes.
pub few : (n : ℕ) (p : CoreProgram) (outs : List StoreMap) → IsExpansion (surface n) p → length (leaves p (roots p outs) (length outs)) ≤ length p.nodes
few n p outs (d, sketched, made) =
    let root : agent_at p.nodes 0 ≡ bound_agent [] 40 d = root_tree p.nodes (bound_agent [] 40 d, made.nodes) in
    let same : agent_at p.nodes 0 ≡ bound_agent [] 40 (parts_sketch 0 (generated_units n)) = root ∙ ap (bound_agent [] 40) (one_sketch n d sketched) in
    leaves-few p (bound_agent [] 40 d, made.nodes) (subst (λ (a : Agent). NewsFirst false a) (sym same) (parts_news (generated_units n) 0 40)) outs (length outs)

-- So at most that many run in it.
pub few_ran : (n : ℕ) (p : CoreProgram) (outs : List StoreMap) (v : StoreMap) → IsExpansion (surface n) p → ran p (roots p outs) (length outs) v ≤ length p.nodes
few_ran n p outs v is =
    let some = ran-few p (roots p outs) (length outs) v in
    let all = few n p outs is in
    omega arith
