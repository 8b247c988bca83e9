-- What is started at an instant are closures of the program.
use Rattle.std.proofs.Common.{◌≡◌, ℕ, suc, ◌+◌, ◌-◌, List, [], ◌∷◌, ◌++◌, length, refl, sym, ◌∙◌, arith, length-append}
use Rattle.token_system.specs.Stores.{StoreMap}
use Rattle.agent_core.specs.declared.node.Closure.{Closure}
use Rattle.agent_core.specs.Agents.{Agent, Skip, Tell, Then, Else, Par, New, Hence, Next, agent_at}
use Rattle.agent_core.specs.Programs.{CoreProgram}
use Rattle.agent_core.specs.Listing.{size}
use Rattle.agent_core.specs.WellFormed.{IsWellFormed}
use Rattle.agent_core.specs.Names.{IsClosure}
use Rattle.agent_core.specs.Rests.{entails}
use Rattle.agent_core.specs.RestsAfter.{suffixes}
use Rattle.agent_core.specs.Closures.{started, roots}
use Rattle.agent_core.specs.Strata.{Each}
use Rattle.agent_core.proofs.Places.{Place, Place-goes_down, root_place, depth_of-place, size-within}
use Rattle.agent_laws.proofs.Eachs.{Each-append, Each-flat, Each-if}
use Rattle.agent_laws.proofs.Sorting.{each_sorted}

module _ (p : CoreProgram) where
  -- it is a closure of the program
  abbrev pub IsOwn : Closure → Type 0
  IsOwn r = IsClosure p r.node r.births

  pub started-closures : (a : Agent) (z : List StoreMap) (n : ℕ) (b : List ℕ) (s : ℕ) (locals : List ℕ) → Place p.nodes n locals a → length b ≡ length locals → Each IsOwn (started p z a n b s)
  started-closures a [] n b s locals at e = (record { node = (size-within p.nodes n locals a at).0; long = e ∙ sym (depth_of-place p.nodes n locals a at) }, tt)
  started-closures Skip (w ∷ z) n b s locals at e = tt
  started-closures (Tell c) (w ∷ z) n b s locals at e = tt
  started-closures (Par l r) (w ∷ z) n b s locals at e =
      Each-append IsOwn (started p (w ∷ z) l (suc n) b s) (started p (w ∷ z) r (suc n + size l) b s)
      (started-closures l (w ∷ z) (suc n) b s locals ((Place-goes_down p.nodes).left n locals l r at) e)
      (started-closures r (w ∷ z) (suc n + size l) b s locals ((Place-goes_down p.nodes).right n locals l r at) e)
  started-closures (Then c a) (w ∷ z) n b s locals at e =
      Each-if IsOwn (entails p b w c) _ [] (started-closures a (w ∷ z) (suc n) b s locals ((Place-goes_down p.nodes).then_body n locals c a at) e) tt
  started-closures (Else c a) (w ∷ z) n b s locals at e =
      Each-if IsOwn (entails p b w c) [] _ tt (started-closures a (w ∷ z) (suc n) b s locals ((Place-goes_down p.nodes).else_body n locals c a at) e)
  started-closures (New cell a) (w ∷ z) n b s locals at e =
      started-closures a (w ∷ z) (suc n) (b ++ s ∷ []) s (cell ∷ locals) ((Place-goes_down p.nodes).new_body n locals cell a at) (omega (arith, length-append b (s ∷ [])))
  started-closures (Next a) (w ∷ z) n b s locals at e = started-closures a z (suc n) b (s + 1) locals ((Place-goes_down p.nodes).next_body n locals a at) e
  started-closures (Hence a) (w ∷ z) n b s locals at e =
      Each-flat IsOwn (λ y. started p y a (suc n) b (s + 1 + length z - length y))
      (λ y. started-closures a y (suc n) b (s + 1 + length z - length y) locals ((Place-goes_down p.nodes).hence_body n locals a at) e) (suffixes z)

  -- the roots of an instant are closures of the program
  pub roots-closures : IsWellFormed p → (z : List StoreMap) → Each IsOwn (roots p z)
  roots-closures is z = each_sorted IsOwn (started p z (agent_at p.nodes 0) 0 [] 0) (started-closures (agent_at p.nodes 0) z 0 [] 0 [] (root_place p.nodes is.tree) refl)
