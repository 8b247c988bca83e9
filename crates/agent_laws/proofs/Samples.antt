-- The small programs that are worked out are programs, and some are stratified: so the laws are of something.
use Rattle.std.proofs.Common.{inl, inr, zero, suc, [], ◌∷◌, refl, arith}
use Rattle.agent_core.specs.Agents.{Agent, Tell, Else, Par, New, Hence}
use Rattle.agent_core.specs.WellFormed.{IsConstraint, IsWellFormed}
use Rattle.agent_core.specs.Strata.{Stratifies, IsLeastTable, HasNoTable, IsFirstCase}
use Rattle.agent_core.specs.Worked.{a_decl, a_on, over_a, self_defeating}
use Rattle.agent_laws.specs.Worked.{signal, on, by_default, own_case, later_twice, ever_more}

a_constraint : (a : Agent) → IsConstraint (over_a a) [] a_on
a_constraint a = record { some = omega arith; few = omega arith; tokens = (record { visible = inl (omega arith); decl = a_decl; found = refl; fits = refl }, tt) }

pub self_defeating-program : IsWellFormed self_defeating
self_defeating-program = record {
  tree = (Else a_on (Tell a_on), refl);
  locals = refl;
  scoped = (a_constraint (Else a_on (Tell a_on)), a_constraint (Else a_on (Tell a_on)));
  limits = record { few_nodes = omega arith; few_cells = omega arith; few_declared = omega arith; within = omega arith };
}

pub later_twice-program : IsWellFormed later_twice
later_twice-program = record {
  tree = (Hence (Hence (Tell a_on)), refl);
  locals = refl;
  scoped = a_constraint (Hence (Hence (Tell a_on)));
  limits = record { few_nodes = omega arith; few_cells = omega arith; few_declared = omega arith; within = omega arith };
}

pub by_default-program : IsWellFormed by_default
by_default-program = record {
  tree = (Else a_on (Tell (on 1)), refl);
  locals = refl;
  scoped = (
    record { some = omega arith; few = omega arith; tokens = (record { visible = inl (omega arith); decl = a_decl; found = refl; fits = refl }, tt) },
    record { some = omega arith; few = omega arith; tokens = (record { visible = inl (omega arith); decl = signal 98; found = refl; fits = refl }, tt) },
  );
  limits = record { few_nodes = omega arith; few_cells = omega arith; few_declared = omega arith; within = omega arith };
}

pub ever_more-program : IsWellFormed ever_more
ever_more-program = record {
  tree = (Par (New 0 (Hence (Tell (on 0)))) (Hence (New 1 (Hence (Tell (on 1))))), refl);
  locals = refl;
  scoped = (
    record { some = omega arith; few = omega arith; tokens = (record { visible = inr (inl refl); decl = signal 115; found = refl; fits = refl }, tt) },
    record { some = omega arith; few = omega arith; tokens = (record { visible = inr (inl refl); decl = signal 115; found = refl; fits = refl }, tt) },
  );
  limits = record { few_nodes = omega arith; few_cells = omega arith; few_declared = omega arith; within = omega arith };
}

pub by_default-table : Stratifies by_default (0 ∷ 1 ∷ [])
by_default-table = record { long = refl; each = (omega arith, tt) }

pub ever_more-table : Stratifies ever_more (0 ∷ 0 ∷ [])
ever_more-table = record { long = refl; each = tt }

pub by_default-least : IsLeastTable by_default (0 ∷ 1 ∷ [])
by_default-least other strat zero lt = omega arith
by_default-least other strat (suc zero) lt = let h = strat.each.0 in omega arith
by_default-least other strat (suc (suc c)) lt = absurd (omega arith)

pub self_defeating-none : HasNoTable self_defeating
self_defeating-none table strat = let h = strat.each.0 in omega arith

pub self_defeating-first : IsFirstCase self_defeating own_case
self_defeating-first = record { before = []; later = []; stands = refl; bad = (0, refl); none = tt }
