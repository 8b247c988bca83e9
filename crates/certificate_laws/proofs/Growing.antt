-- Each output has a certificate: let the leaves tell that may, one after the other, until none is left that may.
use Rattle.std.proofs.Common.{◌≡◌, ◌⊎◌, inl, inr, ℕ, zero, suc, ◌<◌, ◌≤◌, Bool, true, false, ◌&&◌, List, [], ◌∷◌, length, refl, sym, ◌∙◌, subst, arith}
use Rattle.std.specs.Prelude.{IsTrue}
use Rattle.std.specs.List.{list_all}
use Rattle.token_system.specs.Stores.{StoreMap}
use Rattle.token_system.proofs.Alike.{true_false}
use Rattle.agent_core.specs.declared.node.Closure.{Closure}
use Rattle.agent_core.specs.Programs.{CoreProgram}
use Rattle.agent_core.specs.WellFormed.{IsWellFormed}
use Rattle.agent_core.specs.Stores.{IsStore, Below}
use Rattle.agent_core.specs.Rests.{entails}
use Rattle.agent_core.specs.Leaves.{Leaf, leaves, tells, runs}
use Rattle.agent_core.specs.Strata.{Each, In}
use Rattle.agent_core.specs.RootOutputs.{IsOutputOf}
use Rattle.agent_core.proofs.Bools.{both, first_of_both, second_of_both}
use Rattle.agent_core.proofs.Tellings.{Below-refl, tell_all-least}
use Rattle.agent_laws.specs.LeafRests.{asked, free, leaf_rests}
use Rattle.agent_laws.proofs.Eachs.{Each-map, each_true, true_each, all_each}
use Rattle.agent_laws.proofs.Started.{IsOwn}
use Rattle.agent_laws.proofs.Completing.{runs-parts}
use Rattle.agent_laws.proofs.ClosureOutputs.{Named, path_facts, path_test, closures_leaves}
use Rattle.certificate_laws.specs.Justified.{is_tell, after_leaf, IsJustified}
use Rattle.certificate_laws.specs.Certificates.{Leads, Certifies}
use Rattle.certificate_laws.specs.Laws.{OutputsAreCertified}
use Rattle.certificate_laws.proofs.Certified.{named-leaves, in_each, each_in, asked-above, not_free, free_not, idle, Told, leads-told}

-- the leaf may tell where u was told so far
abbrev pub is_due : CoreProgram → StoreMap → StoreMap → Leaf → Bool
is_due p v u l = is_tell l.agent && (list_all (free p v) l.path && list_all (asked p u) l.path)

module _ (p : CoreProgram) (v : StoreMap) where
  due-justified : (u : StoreMap) (l : Leaf) → IsTrue (is_due p v u l) → IsJustified p u v l
  due-justified u l h =
      let path = second_of_both (is_tell l.agent) _ h in
      record {
        tells = first_of_both (is_tell l.agent) (list_all (free p v) l.path && list_all (asked p u) l.path) h;
        asked = second_of_both (list_all (free p v) l.path) (list_all (asked p u) l.path) path;
        free = first_of_both (list_all (free p v) l.path) (list_all (asked p u) l.path) path;
      }

  -- one of these may tell, and the others
  pub record Picked (u : StoreMap) (ls : List Leaf) : Type 0 where
    pub leaf : Leaf
    pub due : IsTrue (is_due p v u leaf)
    pub there : In leaf ls
    pub others : List Leaf
    pub fewer : length others < length ls
    pub among : (l : Leaf) → In l others → In l ls
    pub left : (l : Leaf) → In l ls → (l ≡ leaf) ⊎ In l others

  abbrev pub None_due : StoreMap → List Leaf → Type 0
  None_due u ls = (l : Leaf) → In l ls → is_due p v u l ≡ false

  behind : (u : StoreMap) (l : Leaf) (ls : List Leaf) → Picked u ls → Picked u (l ∷ ls)
  behind u l ls k = record {
    leaf = k.leaf;
    due = k.due;
    there = inr k.there;
    others = l ∷ k.others;
    fewer = let f = k.fewer in omega arith;
    among = λ m i. go m i;
    left = λ m i. sides m i;
  }
    where
      go : (m : Leaf) → In m (l ∷ k.others) → In m (l ∷ ls)
      go m (inl e) = inl e
      go m (inr i) = inr (k.among m i)

      old : (m : Leaf) → (m ≡ k.leaf) ⊎ In m k.others → (m ≡ k.leaf) ⊎ In m (l ∷ k.others)
      old m (inl e) = inl e
      old m (inr i) = inr (inr i)

      sides : (m : Leaf) → In m (l ∷ ls) → (m ≡ k.leaf) ⊎ In m (l ∷ k.others)
      sides m (inl e) = inr (inl e)
      sides m (inr i) = old m (k.left m i)

  here : (u : StoreMap) (l : Leaf) (ls : List Leaf) → IsTrue (is_due p v u l) → Picked u (l ∷ ls)
  here u l ls due = record {
    leaf = l;
    due = due;
    there = inl refl;
    others = ls;
    fewer = omega arith;
    among = λ m i. inr i;
    left = λ m i. i;
  }

  pick : (u : StoreMap) (ls : List Leaf) → None_due u ls ⊎ Picked u ls
  pick u [] = inl (λ l i. absurd i)
  pick u (l ∷ ls) = go (is_due p v u l) refl (pick u ls)
    where
      none : is_due p v u l ≡ false → None_due u ls → (m : Leaf) → In m (l ∷ ls) → is_due p v u m ≡ false
      none e h m (inl same) = subst (λ (x : Leaf). is_due p v u x ≡ false) (sym same) e
      none e h m (inr i) = h m i

      go : (b : Bool) → is_due p v u l ≡ b → None_due u ls ⊎ Picked u ls → None_due u (l ∷ ls) ⊎ Picked u (l ∷ ls)
      go true e r = inr (here u l ls e)
      go false e (inl h) = inl (none e h)
      go false e (inr k) = inr (behind u l ls k)

  -- what is told from u on until no leaf is left that may tell
  pub record Grown (ls : List Leaf) (u : StoreMap) : Type 0 where
    pub run : List Leaf
    pub end : StoreMap
    pub from : Each (λ l. In l ls) run
    pub leads : Leads p v run u end
    pub all : (l : Leaf) → In l ls → IsTrue (is_due p v end l) → In l run

  ended : (ls : List Leaf) (u : StoreMap) → None_due u ls → Grown ls u
  ended ls u none = record { run = []; end = u; from = tt; leads = refl; all = λ l i due. absurd (true_false (sym due ∙ none l i)) }

  listed : (ls : List Leaf) (u : StoreMap) (k : Picked u ls) (rest : Grown k.others (after_leaf p k.leaf u)) (l : Leaf) → IsTrue (is_due p v rest.end l) → (l ≡ k.leaf) ⊎ In l k.others → In l (k.leaf ∷ rest.run)
  listed ls u k rest l due (inl e) = inl e
  listed ls u k rest l due (inr i) = inr (rest.all l i due)

  grow-on : (ls : List Leaf) (u : StoreMap) → None_due u ls ⊎ Picked u ls → ((others : List Leaf) (w : StoreMap) → length others < length ls → Grown others w) → Grown ls u
  grow-on ls u (inl none) more = ended ls u none
  grow-on ls u (inr k) more =
      let rest = more k.others (after_leaf p k.leaf u) k.fewer in
      record {
        run = k.leaf ∷ rest.run;
        end = rest.end;
        from = (k.there, Each-map (λ l. In l k.others) (λ l. In l ls) k.among rest.run rest.from);
        leads = (due-justified u k.leaf k.due, rest.leads);
        all = λ l i due. listed ls u k rest l due (k.left l i);
      }

  pub grow : (n : ℕ) (ls : List Leaf) (u : StoreMap) → length ls ≤ n → Grown ls u
  grow zero [] u le = ended [] u (λ l i. absurd i)
  grow zero (l ∷ ls) u le = absurd (omega arith)
  grow (suc n) ls u le = grow-on ls u (pick u ls) (λ others w lt. grow n others w (omega arith))

  -- what is told stays below a store that rests
  leads-under : (run : List Leaf) (u w : StoreMap) → Each (Named p) run → IsStore p u → IsStore p v → Below p u v → Each (λ l. IsTrue (leaf_rests p v v l)) run → Leads p v run u w → Below p w v
  leads-under [] u w named iu iv below rest leads = subst (λ (y : StoreMap). Below p y v) leads below
  leads-under (l ∷ run) u w named iu iv below rest leads =
      let least = tell_all-least p l.births (tells l.agent) u iu named.0.0 in
      let on : IsTrue (list_all (asked p v) l.path) = asked-above p u v l.path named.0.1 below leads.0.asked in
      let told = (path_facts (list_all (free p v) l.path) (list_all (asked p v) l.path) (list_all (asked p v) l.path) (entails p l.births v (tells l.agent)) (entails p l.births v (tells l.agent)) rest.0 (not_free (list_all (free p v) l.path) leads.0.free)).0 on in
      leads-under run (after_leaf p l u) w named.1 least.store iv (least.least v iv below told) rest.1 leads.1

module _ (p : CoreProgram) (is : IsWellFormed p) (rs : List Closure) (own : Each (IsOwn p) rs) (t : ℕ) (i v : StoreMap) (out : IsOutputOf p rs t i v) where
  abbrev pub ls : List Leaf
  ls = leaves p rs t

  abbrev pub g : Grown p v ls i
  g = grow p v (length ls) ls i (omega arith)

  resting : Each (λ l. IsTrue (leaf_rests p v v l)) ls
  resting = each_true (leaf_rests p v v) (λ l. IsTrue (leaf_rests p v v l)) (λ l r. r) ls (sym (closures_leaves p is rs own t v v (Below-refl p v)) ∙ out.rests)

  ours : (P : Leaf → Type 0) → Each P ls → Each P g.run
  ours P h = Each-map (λ l. In l ls) P (λ l at. in_each P ls l h at) g.run g.from

  named : Each (Named p) g.run
  named = ours (Named p) (named-leaves p is t rs own)

  told : Told p v g.run i g.end
  told = leads-told p v g.run i g.end named out.given g.leads

  under : Below p g.end v
  under = leads-under p v g.run i g.end named out.given out.store out.above (ours (λ l. IsTrue (leaf_rests p v v l)) resting) g.leads

  told-leaf : (l : Leaf) → In l ls → (b : Bool) → is_tell l.agent ≡ b → IsTrue (list_all (free p v) l.path) → IsTrue (list_all (asked p g.end) l.path) → IsTrue (entails p l.births g.end (tells l.agent))
  told-leaf l at true e off on = in_each (λ l. IsTrue (entails p l.births g.end (tells l.agent))) g.run l told.told (g.all l at (both _ _ e (both _ _ off on)))
  told-leaf l at false e off on = idle p g.end l.births l.agent e

  rests-leaf : (l : Leaf) → In l ls → IsTrue (leaf_rests p g.end v l)
  rests-leaf l at =
      path_test (list_all (free p v) l.path) (list_all (asked p g.end) l.path) (list_all (asked p v) l.path) (entails p l.births g.end (tells l.agent)) (entails p l.births v (tells l.agent)) (λ off. (
        λ on. told-leaf l at (is_tell l.agent) refl (free_not (list_all (free p v) l.path) off) on,
        λ on. (path_facts (list_all (free p v) l.path) (list_all (asked p v) l.path) (list_all (asked p v) l.path) (entails p l.births v (tells l.agent)) (entails p l.births v (tells l.agent)) (in_each (λ l. IsTrue (leaf_rests p v v l)) ls l resting at) off).1 on,
      ))

  whole-end : g.end ≡ v
  whole-end =
      out.least g.end told.store told.above under
      (closures_leaves p is rs own t g.end v under ∙ true_each (leaf_rests p g.end v) (λ l. IsTrue (leaf_rests p g.end v l)) (λ l r. r) ls (each_in (λ l. IsTrue (leaf_rests p g.end v l)) ls rests-leaf))

  due-run : (l : Leaf) → IsTrue (is_tell l.agent) → IsTrue (runs p v l) → IsTrue (is_due p v g.end l)
  due-run l e r =
      let parts : IsTrue (list_all (free p v) l.path && list_all (asked p v) l.path) = sym (runs-parts p v l.path) ∙ r in
      both _ _ e (subst (λ (w : StoreMap). IsTrue (list_all (free p v) l.path && list_all (asked p w) l.path)) (sym whole-end) parts)

  pub output-certified : Certifies p ls i v g.run
  output-certified = record {
    from = g.from;
    leads = subst (λ (w : StoreMap). Leads p v g.run i w) whole-end g.leads;
    whole = each_in (λ l. IsTrue (is_tell l.agent) → IsTrue (runs p v l) → In l g.run) ls (λ l at e r. g.all l at (due-run l e r));
  }

  pub certified : (run : List Leaf) × Certifies p ls i v run
  certified = (g.run, output-certified)

pub outputs_law : OutputsAreCertified
outputs_law p is rs own t i v out = certified p is rs (all_each (IsOwn p) rs own) t i v out
