-- Each witness is named, and all else computes.
use Rattle.std.proofs.Common.{◌≡◌, ◌⊎◌, ℕ, ◌<◌, List, [], ◌∷◌, refl, subst, sym, inl, arith}
use Rattle.std.specs.Prelude.{Contains}
use Rattle.token_system.specs.declared.cell.Token.{Token}
use Rattle.agent_core.specs.declared.node.Closure.{Closure}
use Rattle.agent_core.specs.Leaves.{leaves}
use Rattle.agent_core.specs.Names.{name_of}
use Rattle.agent_core.specs.Worked.{a_on}
use Rattle.agent_laws.proofs.Eachs.{each_all}
use Rattle.tdcc_reader.specs.Trees.{Watch, Time}
use Rattle.expansion_laws.specs.Table.{signal_on}
use Rattle.expansion_laws.specs.Origins.{IsAround}
use Rattle.expansion_laws.specs.WorkedForms.{watching_symbolic, watching_core, always_b, later_watched, time_symbolic, time_core, next_b, clocked_tell}
use Rattle.expansion_laws.proofs.WorkedLeaves.{watching_cells, watching_roots, time_cells, time_roots}
use Rattle.expansion_laws.proofs.laws.worked_law.Goals as goal

pub returns-clause-watching : goal.returns-clause-watching
returns-clause-watching c = record {
  expansion = (watching_symbolic, record { tree = Watch always_b a_on; written = refl; symbolic = refl }, record { nodes = refl; cells = watching_cells; declared = refl });
  first = record { leaf = (3, omega arith, refl); ask = signal_on 1; tells = refl; form = 2; stems = inl refl; behind = omega arith; before = omega arith };
  later = record {
    leaf = subst (λ (rs : List Closure). Contains (leaves watching_core rs 1) later_watched) (sym watching_roots) (2, omega arith, refl);
    ask = signal_on 1;
    tells = refl;
    form = 2;
    stems = inl refl;
    behind = omega arith;
    before = omega arith;
  };
  first_stopped = record {
    waits = record { is = refl; around = record { new = 0; body = 1; found = refl; behind = omega arith; inside = omega arith }; denied = (0, omega arith, refl) };
    comes = record { more = []; first = refl; named = refl };
    asks = record { body = 4; asked = refl; copies = refl };
  };
  later_stopped = record {
    waits = record { is = refl; around = record { new = 0; body = 1; found = refl; behind = omega arith; inside = omega arith }; denied = (0, omega arith, refl) };
    comes = record { more = []; first = refl; named = refl };
    asks = record { body = 4; asked = refl; copies = refl };
  };
}

pub returns-clause-time : goal.returns-clause-time
returns-clause-time c = record {
  expansion = (time_symbolic, record { tree = Time next_b a_on; written = refl; symbolic = refl }, record { nodes = refl; cells = time_cells; declared = refl });
  inside = record {
    leaf = subst (λ (rs : List Closure). Contains (leaves time_core rs 1) clocked_tell) (sym time_roots) (0, omega arith, refl);
    ask = signal_on 1;
    tells = refl;
    form = 2;
    stems = inl refl;
    behind = omega arith;
    before = omega arith;
  };
  on_clock = record {
    ask = a_on;
    copies = refl;
    around = each_all (λ (pair : ℕ × Token). (pair.0 < 2) ⊎ IsAround time_core pair.0 11) a_on (inl (omega arith), tt);
    births = 0 ∷ 1 ∷ [];
    asks = (0, omega arith, refl);
    same = each_all (λ (pair : ℕ × Token). name_of time_core (0 ∷ 1 ∷ []) pair.0 ≡ name_of time_core (0 ∷ 1 ∷ []) pair.0) a_on (refl, tt);
  };
}
