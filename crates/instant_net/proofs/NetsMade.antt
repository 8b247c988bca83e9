-- The net of the cells, guards and leaves that were made.
use Rattle.std.proofs.Common.{◌≡◌, ℕ, ◌<◌, ◌≤◌, List, [], length, None, refl, sym, ap, subst, arith, ◌⊎◌}
use Rattle.std.specs.Prelude.{All, Contains, flat_map}
use Rattle.std.proofs.lemmas.List.Elements.{All-weaker}
use Rattle.token_system.specs.declared.name.CellName.TheVariants.{Declared}
use Rattle.agent_core.specs.declared.node.Closure.{Closure}
use Rattle.agent_core.specs.Programs.{CoreProgram}
use Rattle.agent_core.specs.WellFormed.{IsWellFormed}
use Rattle.agent_core.specs.StrataCounts.{strata_of}
use Rattle.agent_laws.specs.Laws.{AreClosures}
use Rattle.instant_net.specs.declared.locals.Local.{Local}
use Rattle.instant_net.specs.declared.parts.NetCell.{NetCell}
use Rattle.instant_net.specs.declared.parts.NetGuard.{NetGuard}
use Rattle.instant_net.specs.declared.parts.NetLeaf.{NetLeaf}
use Rattle.instant_net.specs.Locals.{AreLocalsOf}
use Rattle.instant_net.specs.NamedLeaves.{NamedLeaf, names_of}
use Rattle.instant_net.specs.Nets.{Flat, named_leaf, net_leaves, LeafIsWhole}
use Rattle.instant_net.specs.Opened.{IsCellOf, IsNetOf, IsNet}
use Rattle.instant_net.specs.Programs.{root_leaves, root_occurrences}
use Rattle.instant_net.specs.Walks.{AreNamed, IsCellOfName, Grown, AreListedFor}
use Rattle.instant_net.specs.Collecting.{AreCellsFor}
use Rattle.instant_net.proofs.Counts.{length-map}
use Rattle.instant_net.proofs.Grown.{grown-all, grown-guard, grown-leaf, grown-over}
use Rattle.instant_net.proofs.Lists.{All-by_get}

-- the cells are those of their names, the declared ones by number
pub cells-named : (p : CoreProgram) (table : List ℕ) (ls : List NamedLeaf) (cells : List NetCell) (locals : List Local) → AreCellsFor p table ls cells → AreLocalsOf p locals → AreNamed p locals cells
cells-named p table ls cells locals h all = record {
  each = All-weaker (IsCellOf p table) (IsCellOfName p) (λ c x. record { decl = x.decl; named = x.named; cell = x.cell }) cells h.each;
  order = h.order;
  few = h.few;
  declared = λ k lt. let at = h.declared k lt in record { found = at.0; stands = at.1; named = at.2 };
  locals_are = all;
}

module _ (p : CoreProgram) (table : List ℕ) (rs : List Closure) (t strata : ℕ) (cells : List NetCell) (guards : List NetGuard) (leaves : List NetLeaf) (is : IsWellFormed p) (own : AreClosures p rs) (long : length table ≡ length p.cells)
    (for_them : AreCellsFor p table (root_leaves p rs t) cells) (listed : AreListedFor p cells t rs guards leaves) (top : strata ≡ strata_of table) where
  abbrev net : Flat
  net = record { instant = t; strata = strata; cells = cells; guards = guards; leaves = leaves }

  h : Grown cells None [] 0 0 guards leaves (root_occurrences p rs t) (root_leaves p rs t)
  h = listed.grown

  same : net_leaves net ≡ root_leaves p rs t
  same = (grown-all cells h).leaves

  pub net-is : IsNetOf p table rs t net
  net-is = record {
    program = is;
    roots = own;
    long = long;
    whole = record {
      guards = λ k g at. let x = grown-guard cells h tt k k (length leaves) g (omega arith) (omega arith) at in (x.fit, x.before);
      leaves = All-by_get (LeafIsWhole net) leaves (λ i x at. let y = grown-leaf cells h tt i (length guards) x (omega arith) at in (y.fit, y.before));
    };
    instant = refl;
    strata = top;
    cells = record {
      cells = for_them.each;
      order = for_them.order;
      laid_out = for_them.laid_out;
      declared = for_them.declared;
      spoken = subst (λ ls. All (λ c. ((k : ℕ) × (c.name ≡ Declared k)) ⊎ Contains (flat_map names_of ls) c.name) cells) (sym same) for_them.spoken;
    };
    leaves = same;
    guards = (grown-all cells h).guards;
    links = listed.linked;
    over = λ k g at i x s. grown-over cells guards h k g at i x s;
  }

  pub net-fits : length (root_leaves p rs t) ≤ 65536 → length guards < 4294967296 → IsNet net
  net-fits few few_guards = record {
    program = p;
    table = table;
    roots = rs;
    of = net-is;
    small = record {
      leaves = let e = ap length same in let f = length-map (named_leaf net) leaves in omega arith;
      guards = few_guards;
      cells = for_them.few;
      words = for_them.few_words;
    };
  }
