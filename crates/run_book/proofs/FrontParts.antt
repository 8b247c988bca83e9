-- What the words of a net's declared cells say is the declared part of what all its words say.
use Rattle.std.proofs.Common.{◌≡◌, ◌⊎◌, inl, inr, ◌≢◌, ℕ, zero, suc, ◌<◌, ◌≤◌, List, [], ◌∷◌, length, take, cond, Some, None, refl, sym, ap, ◌∙◌, subst, arith, add-one}
use Rattle.std.specs.Prelude.{slice_get}
use Rattle.std.specs.FinMap.{get, get-empty}
use Rattle.std.proofs.lemmas.Option.{slice_get_within, get_or_from_slice_get}
use Rattle.token_system.specs.declared.name.CellName.{CellName}
use Rattle.token_system.specs.declared.name.CellName.TheVariants.{Declared, Local}
use Rattle.token_system.specs.Names.{name_cmp}
use Rattle.token_system.specs.Values.{bottom_of, value_eq}
use Rattle.agent_core.specs.Programs.{CoreProgram}
use Rattle.agent_core.specs.Names.{Names}
use Rattle.instant_net.specs.declared.parts.NetCell.{NetCell}
use Rattle.instant_net.specs.Nets.{Flat}
use Rattle.instant_net.specs.Opened.{IsCellOf, HasCells}
use Rattle.instant_net.specs.Words.{store_in, value_in}
use Rattle.instant_net.proofs.StoreLookups.{get-none, get-stored_other, get-stored_same, names_apart, same_or_not}
use Rattle.instant_net.proofs.KeptValues.{store_in-more}
use Rattle.token_system.specs.DeclaredParts.{IsDeclaredPart}

-- a name that no cell from place k on has is kept as the cells before say
get-front : (k : ℕ) (cells : List NetCell) (words : List ℕ) (q : CellName) → ((j : ℕ) (c : NetCell) → k ≤ j → slice_get cells j ≡ Some c → q ≢ c.name) → get (store_in (take k cells) words) q ≡ get (store_in cells words) q
get-front zero cells words q none = get-empty name_cmp q ∙ sym (get-none cells words q (λ j c e. none j c (omega arith) e))
get-front (suc k) [] words q none = refl
get-front (suc k) (c ∷ cells) words q none = go (same_or_not q c.name) (get-front k cells words q (λ j d le. none (suc j) d (omega arith)))
  where
    go : (q ≡ c.name) ⊎ (q ≢ c.name) → get (store_in (take k cells) words) q ≡ get (store_in cells words) q → get (store_in (c ∷ take k cells) words) q ≡ get (store_in (c ∷ cells) words) q
    go (inl same) rest =
        subst (λ (n : CellName). get (store_in (take k cells) words) n ≡ get (store_in cells words) n → get (store_in (c ∷ take k cells) words) n ≡ get (store_in (c ∷ cells) words) n) (sym same)
        (λ before. get-stored_same (store_in (take k cells) words) c.name c.cell (value_in words c)
        ∙ ap (λ g. cond (value_eq (value_in words c) (bottom_of c.cell)) g (Some (value_in words c))) before
        ∙ sym (get-stored_same (store_in cells words) c.name c.cell (value_in words c))) rest
    go (inr other) rest =
        get-stored_other (store_in (take k cells) words) c.name c.cell (value_in words c) q other ∙ rest ∙ sym (get-stored_other (store_in cells words) c.name c.cell (value_in words c) q other)

module _ (p : CoreProgram) (table : List ℕ) (net : Flat) (has : HasCells p table net) where
  -- there is a cell for each declared one
  pub declared_within : p.declared ≤ length net.cells
  declared_within = go p.declared has.declared
    where
      go : (n : ℕ) → ((k : ℕ) → k < n → (c : NetCell) × (slice_get net.cells k ≡ Some c) × (c.name ≡ Declared k)) → n ≤ length net.cells
      go zero h = omega arith
      go (suc k) h = let last = h k (omega arith) in let within = slice_get_within net.cells k last.0 last.1 in omega arith

  -- no cell behind the declared ones has the name of a declared one
  declared_before : (k j : ℕ) (c : NetCell) → p.declared ≤ j → slice_get net.cells j ≡ Some c → Declared k ≢ c.name
  declared_before k j c le e same =
      let is = subst (IsCellOf p table) (get_or_from_slice_get net.cells j c c e) (has.cells j c (slice_get_within net.cells j c e)) in
      let named : Names p (Declared k) is.decl = subst (λ (n : CellName). Names p n is.decl) (sym same) is.named in
      let low : k < p.declared = named.0 in
      let here = has.declared k low in
      names_apart net.cells k j here.0 c has.order here.1 e (omega arith) (here.2 ∙ same)

  local-none : (words : List ℕ) (node : ℕ) (births : List ℕ) (k : ℕ) → k ≤ p.declared → get (store_in (take k net.cells) words) (Local node births) ≡ None
  local-none words node births zero le = get-empty name_cmp (Local node births)
  local-none words node births (suc k) le =
      let here = has.declared k (omega arith) in
      let apart : Local node births ≢ here.0.name = λ same. let e : Local node births ≡ Declared k = same ∙ here.2 in cc in
      ap (λ n. get (store_in (take n net.cells) words) (Local node births)) (sym (add-one k))
      ∙ ap (λ s. get s (Local node births)) (store_in-more net.cells words has.order k here.0 here.1)
      ∙ get-stored_other (store_in (take k net.cells) words) here.0.name here.0.cell (value_in words here.0) (Local node births) apart
      ∙ local-none words node births k (omega arith)

  pub front-part : (words : List ℕ) → IsDeclaredPart (store_in net.cells words) (store_in (take p.declared net.cells) words)
  front-part words = record {
    declared = λ k. get-front p.declared net.cells words (Declared k) (declared_before k);
    no_local = λ node births v e. let f : None ≡ Some v = sym (local-none words node births p.declared (omega arith)) ∙ e in cc;
  }
