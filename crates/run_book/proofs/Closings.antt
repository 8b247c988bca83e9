-- A book after one more instant: a run of which it keeps what it should has that instant's output behind it.
use Rattle.std.proofs.Common.{◌≡◌, ◌⊎◌, inl, inr, ℕ, zero, suc, ◌+◌, ◌<◌, List, [], ◌∷◌, ◌++◌, length, length-append, Some, refl, sym, ap, ◌∙◌, subst, arith}
use Rattle.std.specs.Prelude.{slice_get}
use Rattle.std.proofs.lemmas.List.Elements.{All-push}
use Rattle.std.proofs.lemmas.Option.{slice_get_within}
use Rattle.token_system.specs.Stores.{StoreMap}
use Rattle.agent_core.specs.declared.node.Closure.{Closure}
use Rattle.agent_core.specs.Stores.{IsInput}
use Rattle.agent_core.specs.Outputs.{IsOutput}
use Rattle.agent_core.specs.RootOutputs.{IsOutputOf}
use Rattle.agent_laws.proofs.ProgramOutputs.{output-of_roots}
use Rattle.agent_laws.proofs.Runs.{run-push}
use Rattle.instant_net.specs.Nets.{Flat}
use Rattle.instant_net.specs.Opened.{IsNetOf}
use Rattle.instant_net.specs.Outputs as net_outputs
use Rattle.instant_net.specs.Laws.{NetsHaveRootOutputs}
use Rattle.instant_net.proofs.Lists.{get-append}
use Rattle.residuals.specs.RootLists.{RootLists, listed_roots}
use Rattle.residuals.specs.NextRoots.{FollowRoots}
use Rattle.token_system.specs.DeclaredParts.{IsDeclaredPart, AreDeclaredParts}
use Rattle.run_book.specs.Books.{BookView, KeepsRun, IsBook, HasClosedInstant}

-- what holds of two lists place by place holds with one more of each
each-push : {X Y : Type 0} (R : X → Y → Type 0) (xs : List X) (ys : List Y) (x : X) (y : Y) → length ys ≡ length xs
    → ((n : ℕ) (a : X) (b : Y) → slice_get xs n ≡ Some a → slice_get ys n ≡ Some b → R a b) → R x y
    → (n : ℕ) (a : X) (b : Y) → slice_get (xs ++ x ∷ []) n ≡ Some a → slice_get (ys ++ y ∷ []) n ≡ Some b → R a b
each-push {X} {Y} R xs ys x y long each last n a b ea eb = go (get-append xs (x ∷ []) n a ea) (get-append ys (y ∷ []) n b eb)
  where
    alone : {Z : Type 0} (z : Z) (i : ℕ) (c : Z) → slice_get (z ∷ []) i ≡ Some c → z ≡ c
    alone z zero c e = cc
    alone z (suc i) c e = absurd (cc)

    go : (slice_get xs n ≡ Some a) ⊎ ((i : ℕ) × (n ≡ length xs + i) × (slice_get (x ∷ []) i ≡ Some a))
        → (slice_get ys n ≡ Some b) ⊎ ((i : ℕ) × (n ≡ length ys + i) × (slice_get (y ∷ []) i ≡ Some b)) → R a b
    go (inl e) (inl f) = each n a b e f
    go (inl e) (inr f) = absurd (let k = slice_get_within xs n a e in let m = f.1 in omega arith)
    go (inr e) (inl f) = absurd (let k = slice_get_within ys n b f in let m = e.1 in omega arith)
    go (inr e) (inr f) = subst (λ (c : X). R c b) (alone x e.0 a e.2) (subst (λ (c : Y). R x c) (alone y f.0 b f.2) last)

parts-push : (wholes parts : List StoreMap) (w part : StoreMap) → AreDeclaredParts wholes parts → IsDeclaredPart w part → AreDeclaredParts (wholes ++ w ∷ []) (parts ++ part ∷ [])
parts-push wholes parts w part are is = record {
  long = let l = are.long in omega (arith, length-append parts (part ∷ []), length-append wholes (w ∷ []));
  each = each-push IsDeclaredPart wholes parts w part are.long are.each is;
}

-- the book with one instant more
abbrev pub closed_book : BookView → StoreMap → StoreMap → RootLists → BookView
closed_book b input part next = record {
  program = b.program;
  levels = b.levels;
  ins = b.ins ++ input ∷ [];
  outs = b.outs ++ part ∷ [];
  roots = next;
}

-- where a book is seen as v, one with these parts is that book with one instant more
pub closed_book-seen : (v b : BookView) → v ≡ b → (input part : StoreMap) (next : RootLists)
    → (ins outs : List StoreMap) (roots : RootLists) → ins ≡ v.ins ++ input ∷ [] → outs ≡ v.outs ++ part ∷ [] → roots ≡ next
    → record { program = v.program; levels = v.levels; ins = ins; outs = outs; roots = roots } ≡ closed_book b input part next
closed_book-seen v b same input part next ins outs roots e f g =
    ap (λ (xs : List StoreMap). record (closed_book v input part next) { ins = xs; outs = outs; roots = roots }) e
    ∙ ap (λ (xs : List StoreMap). record (closed_book v input part next) { outs = xs; roots = roots }) f
    ∙ ap (closed_book v input part) g
    ∙ ap (λ (x : BookView). closed_book x input part next) same

-- what closing an instant on this input with this output comes to
pub record Closes (before after : BookView) (input w : StoreMap) : Type 0 where
  pub book : IsBook after
  pub closed : HasClosedInstant before after input w
  pub keeps : (full : List StoreMap) → KeepsRun before full → KeepsRun after (full ++ w ∷ [])

module _ (b : BookView) (is : IsBook b) (laws : NetsHaveRootOutputs) (net : Flat) (of : IsNetOf b.program b.levels (listed_roots b.roots) (length b.ins) net)
    (input w part : StoreMap) (given : IsInput b.program input) (out : net_outputs.IsNetOutput net input w) (declared : IsDeclaredPart w part)
    (next : RootLists) (follow : FollowRoots net w b.roots next) where
  -- what the net comes to is the program's output behind the run
  output_behind : (full : List StoreMap) → KeepsRun b full → IsOutput b.program full input w
  output_behind full keeps =
      let of_roots : IsOutputOf b.program (listed_roots b.roots) (length b.ins) input w = (laws b.program b.levels (listed_roots b.roots) (length b.ins) net of input w given).0 out in
      output-of_roots b.program is.program full input w
      (subst (λ (rs : List Closure). IsOutputOf b.program rs (length full) input w) keeps.roots.all
      (subst (λ (t : ℕ). IsOutputOf b.program (listed_roots b.roots) t input w) (sym keeps.run.whole) of_roots))

  keeps-more : (full : List StoreMap) → KeepsRun b full → KeepsRun (closed_book b input part next) (full ++ w ∷ [])
  keeps-more full keeps = record {
    run = run-push b.program b.ins full input w keeps.run (output_behind full keeps);
    declared = parts-push full b.outs w part keeps.declared declared;
    roots = follow b.program b.levels full keeps.roots (subst (λ (t : ℕ). IsNetOf b.program b.levels (listed_roots b.roots) t net) (sym keeps.run.whole) of);
  }

  pub closes : length b.ins < 65536 → Closes b (closed_book b input part next) input w
  closes room = record {
    book = record {
      program = is.program;
      stratified = is.stratified;
      inputs = All-push (IsInput b.program) b.ins input is.inputs given;
      few = omega (arith, length-append b.ins (input ∷ []));
      full = is.full ++ w ∷ [];
      keeps = keeps-more is.full is.keeps;
    };
    closed = record { program = refl; levels = refl; ins = refl; part = part; declared = declared; outs = refl };
    keeps = keeps-more;
  }
