-- A leaf whose least stratum is below p tells a word of such a stratum.
use Rattle.std.proofs.Common.{◌≡◌, ℕ, suc, ◌<◌, Bool, true, false, List, [], ◌∷◌, length, Some, None, refl, sym, ap, ◌∙◌, arith, nat_lt}
use Rattle.std.specs.Prelude.{Option, slice_get, IsTrue}
use Rattle.std.proofs.lemmas.Bool.Decides.{nat_tests}
use Rattle.std.proofs.lemmas.Option.{slice_get_within}
use Rattle.token_system.proofs.Alike.{true_false}
use Rattle.instant_net.specs.declared.parts.Atom.{Atom}
use Rattle.instant_net.specs.declared.parts.NetCell.{NetCell}
use Rattle.instant_net.specs.declared.parts.NetLeaf.{NetLeaf}
use Rattle.instant_net.specs.Nets.{Flat, atoms_of}
use Rattle.instant_net.specs.Opened.{IsNet}
use Rattle.instant_net.specs.Readers.{lesser, least_stratum, stratum_of}
use Rattle.instant_net.specs.Readers as readers
use Rattle.net_laws.specs.WordsBelow.{is_under}
use Rattle.instant_core.specs.Net as nets
use Rattle.instant_core.specs.Net.{tells_count, IsLow}
use Rattle.instant_core.proofs.Facts.{token-at}

found : (cells : List NetCell) (p : ℕ) (atoms : List Atom) → IsTrue (is_under p (least_stratum cells atoms)) → (k : ℕ) × (a : Atom) × (slice_get atoms k ≡ Some a) × (stratum_of (slice_get cells a.cell) < p)
found cells p [] h = absurd (true_false (sym h))
found cells p (a ∷ atoms) h = go (nat_lt (stratum_of (slice_get cells a.cell)) p) refl (least_stratum cells atoms) h (found cells p atoms)
  where
    go : (b : Bool) → nat_lt (stratum_of (slice_get cells a.cell)) p ≡ b → (o : Option ℕ) → IsTrue (nat_lt (lesser (stratum_of (slice_get cells a.cell)) o) p)
        → (IsTrue (is_under p o) → (k : ℕ) × (x : Atom) × (slice_get atoms k ≡ Some x) × (stratum_of (slice_get cells x.cell) < p))
        → (k : ℕ) × (x : Atom) × (slice_get (a ∷ atoms) k ≡ Some x) × (stratum_of (slice_get cells x.cell) < p)
    go true e o t deeper = (0, a, refl, grind (arith, nat_tests))
    go false e None t deeper = absurd (true_false (sym t ∙ e))
    go false e (Some m) t deeper = let r = deeper (grind (arith, nat_tests)) in (suc r.0, r.1, r.2, r.3)

module _ (net : Flat) (is : IsNet net) where
  pub under-low : (p leaf : ℕ) (l : NetLeaf) → slice_get net.leaves leaf ≡ Some l → IsTrue (is_under p (least_stratum net.cells (atoms_of l.kind))) → IsLow net p leaf
  under-low p leaf l at h =
      let f = found net.cells p (atoms_of l.kind) h in
      let lt : f.0 < tells_count net leaf = let inside = slice_get_within (atoms_of l.kind) f.0 f.1 f.2 in let long = ap (λ (o : Option NetLeaf). length (readers.leaf_tells_of o)) at in omega arith in
      let t = token-at net is leaf f.0 lt in
      let same : t.leaf_is ≡ l = let e : Some t.leaf_is ≡ Some l = sym t.there ∙ at in cc in
      let one : t.atom ≡ f.1 = let e : Some t.atom ≡ Some f.1 = sym t.at ∙ ap (λ (x : NetLeaf). slice_get (atoms_of x.kind) f.0) same ∙ f.2 in cc in
      let w = t.stratum in
      let z = ap (λ (x : Atom). stratum_of (slice_get net.cells x.cell)) one in
      let small = f.3 in
      (f.0, lt, omega arith)
