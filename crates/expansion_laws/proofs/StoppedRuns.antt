-- A watching that stands in no body of a watching or of a time stops its tells for good.
use Rattle.std.proofs.Common.{◌≡◌, ◌⊎◌, inl, inr, ℕ, zero, suc, ◌+◌, ◌-◌, ◌<◌, ◌≤◌, List, [], ◌∷◌, length, length-append, take, Some, refl, sym, ap, ◌∙◌, subst, arith, append_assoc}
use Rattle.std.specs.Prelude.{slice_get, IsTrue, IsFalse}
use Rattle.std.proofs.lemmas.List.{length-take-le}
use Rattle.std.proofs.lemmas.Option.{slice_get_within}
use Rattle.token_system.specs.Stores.{StoreMap}
use Rattle.agent_core.specs.Agents.{Agent, agent_at}
use Rattle.agent_core.specs.Programs.{CoreProgram}
use Rattle.agent_core.specs.WellFormed.{IsAmong, IsWellFormed, count_up}
use Rattle.agent_core.specs.Leaves.{runs}
use Rattle.agent_core.specs.Rests.{entails}
use Rattle.agent_core.proofs.ListingTrees.{root_tree}
use Rattle.tdcc_reader.specs.Surfaces.{SurfaceProgram}
use Rattle.tdcc_reader.specs.Trees.{Tree}
use Rattle.surface_laws.specs.Surfaces.{IsScopedTree, bare, new_cells}
use Rattle.expansion_laws.specs.SymbolicAgents.{SymbolicAgent}
use Rattle.expansion_laws.specs.Numbering.{bound_agent}
use Rattle.expansion_laws.specs.Expanding.{symbolic_of}
use Rattle.expansion_laws.specs.Expansions.{IsCoreOfSymbolic}
use Rattle.expansion_laws.specs.Origins.{cell_binders}
use Rattle.expansion_laws.specs.Stops.{WatchingForm, StartedCopy, IsWatched, StopsForGood}
use Rattle.expansion_laws.proofs.Walks.{Reads}
use Rattle.expansion_laws.proofs.Numbered.{root_part}
use Rattle.expansion_laws.proofs.CopiedLeaves.{binders_stand}
use Rattle.expansion_laws.proofs.Leading.{Leads}
use Rattle.expansion_laws.proofs.Starting.{run_leads, output_since}
use Rattle.expansion_laws.proofs.Spots.{Trail, At}
use Rattle.expansion_laws.proofs.FreeForms.{AreBelow, Aim, Found, find}
use Rattle.expansion_laws.proofs.StoppedLeaves.{own_binder, ask, bound, waiting, copies, asked, leaf_named, stopped}

counted_below : (first n end : ℕ) → first + n ≤ end → AreBelow end (count_up first n)
counted_below first zero end le = tt
counted_below first (suc n) end le = (omega arith, counted_below (suc first) n end (omega arith))

-- what was found is what the law speaks of
module _ (x : Trail) (y : Aim x) (f : Found x y) (program : IsWellFormed x.program) (made : IsCoreOfSymbolic x.surface x.symbolic x.program) (within : x.surface.declared ≤ length x.surface.cells) where
  -- the watching, and the copy of it from which the leaf comes
  abbrev pub found_form : WatchingForm
  found_form = record { number = y.number; body = y.body; stop = y.stop }

  abbrev pub found_copy : StartedCopy
  found_copy = record { hidden = f.spot.cell; start = f.spot.start; births = f.spot.births; stop = ask x y f }

  found_watched : IsWatched x.surface x.symbolic x.program found_form found_copy x.leaf
  found_watched = let wait = waiting x y f in record {
    waits = record { is = bound x y f; around = wait.around; denied = wait.denied };
    comes = record {
      more = wait.more;
      first = wait.first ∙ append_assoc f.spot.births (f.spot.start ∷ []) wait.more;
      named = leaf_named x y f program made.declared within;
    };
    asks = record {
      body = suc (suc (suc (suc f.spot.node)));
      asked = asked x y f program made.declared within;
      copies = copies x y f;
    };
  }

  module _ (outs : List StoreMap) (t : ℕ) (last : slice_get outs t ≡ Some x.output) (closed : take t outs ≡ x.closed) where
    found_start : f.spot.start ≤ t
    found_start =
        let lt = slice_get_within outs t x.output last in
        let long = f.at.leads.long in
        let parts = ap length (closed ∙ f.at.leads.whole) ∙ length-append f.at.leads.front f.spot.stores in
        let all : length (take t outs) ≡ t = length-take-le t outs (omega arith) in
        omega arith

    found_stopped : (n : ℕ) (w : StoreMap) → f.spot.start ≤ n → n ≤ t → slice_get outs n ≡ Some w → IsTrue (entails x.program f.spot.births w (ask x y f)) → IsFalse (runs x.program x.output x.leaf)
    found_stopped n w from to found h =
        stopped x y f program made.declared within (n - f.spot.start) w
        (output_since outs f.at.leads.front f.spot.stores t n f.spot.start x.output w last (closed ∙ f.at.leads.whole) f.at.leads.long from to found) h

pub stops_for_good : (s : SurfaceProgram) (tree : Tree) (p : CoreProgram) → IsWellFormed p → s.declared ≤ length s.cells → new_cells tree ≡ count_up s.declared (length s.cells - s.declared) → IsScopedTree (bare s) [] tree
    → IsCoreOfSymbolic s (symbolic_of (length s.cells) 0 tree) p → StopsForGood s tree (symbolic_of (length s.cells) 0 tree) p
stops_for_good s tree p program within locals scoped made w r l free instant inside =
    let d = symbolic_of (length s.cells) 0 tree in
    let z = take r.now r.outs in
    let x : Trail = record { surface = s; symbolic = d; program = p; closed = z; output = r.output; leaf = l; told = inside.ask; tells = inside.tells } in
    let before = inside.before in
    let y : Aim x = record { number = w.number; body = w.body; stop = w.stop; form = inside.form; stems = inside.stems; inside = (inside.behind, omega arith) } in
    let root : agent_at p.nodes 0 ≡ bound_agent [] s.declared d = root_tree p.nodes (bound_agent [] s.declared d, made.nodes) in
    let here : At x (record { scope = []; node = 0; cell = s.declared; births = []; start = 0; stores = z }) d = record {
      part = root_part p (cell_binders s d) s.declared d made.nodes (binders_stand s d);
      leads = subst (λ (b : Agent). Leads p z r.output l z b 0 [] 0) root (run_leads p r.ins r.outs r.now r.output l instant.run instant.last inside.leaf);
      even = refl;
    } in
    let below : AreBelow (length s.cells) (new_cells tree) = subst (AreBelow (length s.cells)) (sym locals) (counted_below s.declared (length s.cells - s.declared) (length s.cells) (omega arith)) in
    let f = find x y tree 0 free [] (record { scope = []; node = 0; cell = s.declared; births = []; start = 0; stores = z }) here scoped (seen s d) below in (
      found_copy x y f program made within,
      found_watched x y f program made within,
      record {
        started = found_start x y f program made within r.outs r.now instant.last refl;
        stopped = found_stopped x y f program made within r.outs r.now instant.last refl;
      },
    )
  where
    seen : (s : SurfaceProgram) (d : SymbolicAgent) (binder : ℕ) → (binder < s.declared) ⊎ IsAmong [] binder → Reads (cell_binders s d) s.declared [] binder
    seen s d binder (inl lt) = record { bound = own_binder s d binder lt; known = inl lt }
    seen s d binder (inr among) = absurd among
