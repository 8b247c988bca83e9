-- The leaves of a run come of the root, which observes the outputs; and what a run has since an instant.
use Rattle.std.proofs.Common.{◌≡◌, ℕ, zero, suc, ◌-◌, ◌≤◌, List, [], ◌∷◌, ◌++◌, length, take, get_or, Some, refl, sym, ap, ◌∙◌, arith, append_assoc}
use Rattle.std.specs.Prelude.{Contains, slice_get}
use Rattle.std.specs.FinMap.{empty}
use Rattle.std.proofs.lemmas.Option.{slice_get-get_or, slice_get_within}
use Rattle.std.proofs.lemmas.List.Elements.{All-contains, All-contains_itself}
use Rattle.token_system.specs.Stores.{StoreMap}
use Rattle.agent_core.specs.declared.node.Closure.{Closure}
use Rattle.agent_core.specs.Agents.{agent_at}
use Rattle.agent_core.specs.Programs.{CoreProgram}
use Rattle.agent_core.specs.Closures.{sorted, started, roots}
use Rattle.agent_core.specs.Leaves.{Leaf, leaves_of, leaves}
use Rattle.agent_core.specs.Outputs.{IsRun}
use Rattle.agent_laws.proofs.Eachs.{all_each, each_all}
use Rattle.agent_laws.proofs.Sorting.{each_sorted}
use Rattle.expansion_laws.proofs.Members.{flat_in}
use Rattle.expansion_laws.proofs.Leading.{Leads, comes_started}

-- a sorted list has closures of the list alone
sorted_in : (cs : List Closure) (r : Closure) → Contains (sorted cs) r → Contains cs r
sorted_in cs r k = All-contains (Contains cs) (sorted cs) r (each_all (Contains cs) (sorted cs) (each_sorted (Contains cs) cs (all_each (Contains cs) cs (All-contains_itself cs)))) k

pub run_leads : (p : CoreProgram) (ins outs : List StoreMap) (t : ℕ) (v : StoreMap) (l : Leaf) → IsRun p ins outs → slice_get outs t ≡ Some v
    → Contains (leaves p (roots p (take t outs)) (length (take t outs))) l → Leads p (take t outs) v l (take t outs) (agent_at p.nodes 0) 0 [] 0
run_leads p ins outs t v l run e k =
    let z : List StoreMap = take t outs in
    let from = flat_in (λ (r : Closure). leaves_of (length z) (agent_at p.nodes r.node) r.node r.births []) l (roots p z) k in
    let own = sorted_in (started p z (agent_at p.nodes 0) 0 [] 0) from.0 from.1 in
    let inside = slice_get_within outs t v e in
    let whole = run.whole in
    let input = slice_get-get_or ins t empty (omega arith) in
    record {
      front = [];
      whole = refl;
      long = refl;
      comes = comes_started p l z (agent_at p.nodes 0) 0 [] 0 (length z) from.0 refl (omega arith) own from.2;
      rests = λ r. (run.each t (get_or ins t empty) v input e).rests;
    }

-- the stores up to an output, and those behind a front
up_to : (outs : List StoreMap) (t n : ℕ) (v : StoreMap) → slice_get outs t ≡ Some v → n ≤ t → slice_get (take t outs ++ v ∷ []) n ≡ slice_get outs n
up_to [] t n v e le = absurd (cc)
up_to (u ∷ outs) zero zero v e le = sym e
up_to (u ∷ outs) zero (suc n) v e le = absurd (omega arith)
up_to (u ∷ outs) (suc t) zero v e le = refl
up_to (u ∷ outs) (suc t) (suc n) v e le = up_to outs t n v e (omega arith)

behind : (front y : List StoreMap) (n : ℕ) → length front ≤ n → slice_get (front ++ y) n ≡ slice_get y (n - length front)
behind [] y n le = ap (slice_get y) (omega arith)
behind (x ∷ front) y zero le = absurd (omega arith)
behind (x ∷ front) y (suc n) le = behind front y n (omega arith) ∙ ap (slice_get y) (omega arith)

-- the output of an instant, among the stores since an earlier one
pub output_since : (outs front y : List StoreMap) (t n s : ℕ) (v w : StoreMap) → slice_get outs t ≡ Some v → take t outs ≡ front ++ y → length front ≡ s → s ≤ n → n ≤ t
    → slice_get outs n ≡ Some w → slice_get (y ++ v ∷ []) (n - s) ≡ Some w
output_since outs front y t n s v w e whole long from to found =
    ap (λ (k : ℕ). slice_get (y ++ v ∷ []) (n - k)) (sym long)
    ∙ sym (behind front (y ++ v ∷ []) n (omega arith))
    ∙ ap (λ (xs : List StoreMap). slice_get xs n) (sym (append_assoc front y (v ∷ [])) ∙ ap (λ (xs : List StoreMap). xs ++ v ∷ []) (sym whole))
    ∙ up_to outs t n v e to
    ∙ found
