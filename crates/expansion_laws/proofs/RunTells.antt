-- What the guards and the clocks above tells mean for the stores that run them.
use Rattle.std.proofs.Common.{◌≡◌, ℕ, length, sym, ap, ◌∙◌, subst}
use Rattle.token_system.specs.declared.cell.Token.{Token}
use Rattle.agent_core.specs.Leaves.{Positive, allows}
use Rattle.agent_core.specs.Names.{name_of}
use Rattle.agent_core.specs.Programs.{CoreProgram}
use Rattle.agent_laws.proofs.Eachs.{all_each}
use Rattle.tdcc_reader.specs.Surfaces.{SurfaceProgram}
use Rattle.tdcc_reader.specs.Trees.{Tree, form_listing}
use Rattle.expansion_laws.specs.SymbolicAgents.{SymbolicAgent}
use Rattle.expansion_laws.specs.Table.{signal_on}
use Rattle.expansion_laws.specs.Expanding.{symbolic_of}
use Rattle.expansion_laws.specs.Expansions.{IsCoreOfSymbolic, IsExpansion}
use Rattle.expansion_laws.specs.Paths.{TellsAreGuarded, TellsAreClocked}
use Rattle.expansion_laws.specs.RunTells.{HiddenSignalStops, RunsOnItsClock}
use Rattle.expansion_laws.proofs.OneTree.{one_tree}
use Rattle.expansion_laws.proofs.Members.{all_in}
use Rattle.expansion_laws.proofs.StoppedLeaves.{entails_alike, not_run}

-- the core program of a surface is that of the symbolic agent of its tree
pub on_tree : (s : SurfaceProgram) (tree : Tree) (p : CoreProgram) → IsExpansion s p → s.forms ≡ form_listing 0 tree → IsCoreOfSymbolic s (symbolic_of (length s.cells) 0 tree) p
on_tree s tree p (d, symbolic, made) forms =
    subst (λ (d : SymbolicAgent). IsCoreOfSymbolic s d p)
    (symbolic.symbolic ∙ ap (symbolic_of (length s.cells) 0) (one_tree symbolic.tree tree (sym symbolic.written ∙ forms))) made

module _ (s : SurfaceProgram) (tree : Tree) (d : SymbolicAgent) (p : CoreProgram) where
  pub hidden_stops : TellsAreGuarded s tree d p → HiddenSignalStops s tree d p
  hidden_stops guarded m a c closed l at inside =
      let (k, is, around, denied) = guarded m a c closed l at inside in
      (k, is, around, λ output there. not_run p output l l.births (signal_on k) denied (λ r. there))

  pub clock_runs : TellsAreClocked s tree d p → RunsOnItsClock s tree d p
  clock_runs clocked m a c closed l at inside =
      let h = clocked m a c closed l at inside in (
        h.ask,
        h.copies,
        h.around,
        λ output r.
            sym (entails_alike p h.births l.births output h.ask (all_each (λ (pair : ℕ × Token). name_of p h.births pair.0 ≡ name_of p l.births pair.0) h.ask h.same))
            ∙ all_in (allows p output) (Positive h.births h.ask) l.path r h.asks,
      )
