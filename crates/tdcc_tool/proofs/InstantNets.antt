-- What the net of a book's roots is completed to is the net's output, and how many leaves the net has.
use Rattle.std.proofs.Common.{◌≡◌, ℕ, ◌<◌, ◌≤◌, List, length, sym, ap, ◌∙◌, subst, arith, inl, inr, Ok, Err}
use Rattle.std.specs.Prelude.{Result}
use Rattle.std.proofs.lemmas.List.{length-map}
use Rattle.std.proofs.lemmas.Bool.{cases_lt}
use Rattle.token_system.specs.Stores.{StoreMap}
use Rattle.agent_core.specs.declared.node.Closure.{Closure}
use Rattle.agent_core.specs.Programs.{CoreProgram}
use Rattle.agent_core.specs.Stores.{IsInput}
use Rattle.agent_core.specs.Leaves as core
use Rattle.agent_core.specs.Outputs.{IsOutput}
use Rattle.agent_core.specs.RootOutputs.{IsOutputOf}
use Rattle.agent_laws.proofs.ProgramOutputs.{output-of_roots}
use Rattle.agent_laws.specs.Laws.{AreClosures, ExactlyOne, RootsHaveOneOutput, RootsAreClosures}
use Rattle.instant_net.specs.Nets.{Flat}
use Rattle.instant_net.specs.Programs.{leaf_named, root_leaves}
use Rattle.instant_net.specs.Opened.{IsNetOf}
use Rattle.instant_net.specs.Outputs as net
use Rattle.instant_net.specs.Laws.{NetsAreStratified, NetsHaveRootOutputs}
use Rattle.residuals.specs.RootLists.{listed_roots}
use Rattle.run_book.specs.Books.{BookView, IsBook, KeepsRun}
use Rattle.net_laws.specs.Ways.{IsOnNetWay}
use Rattle.tdcc_tool.specs.Steps.{count_now}

-- the roots that a book keeps are closures of its program
pub book-closures : (b : BookView) → IsBook b → RootsAreClosures → AreClosures b.program (listed_roots b.roots)
book-closures b is closures = subst (AreClosures b.program) (sym is.keeps.roots.all) (closures b.program is.program is.full)

-- a net has as many leaves as its roots
count-leaves : (b : BookView) → length (root_leaves b.program (listed_roots b.roots) (length b.ins)) ≡ count_now b
count-leaves b = length-map (core.leaves b.program (listed_roots b.roots) (length b.ins)) (leaf_named b.program)

-- a call that refuses more leaves than the limit, and does not refuse, has no more
pub few-leaves : {T E : Type 0} (r : Result T E) (x : T) (e : E) (n limit : ℕ) → r ≡ Ok x → (limit < n → r ≡ Err e) → n ≤ limit
few-leaves {T} {E} r x e n limit is refuses = elim (cases_lt limit n) [
  | inl over ↦ absurd (let both : Ok x ≡ Err e = sym is ∙ refuses over in cc)
  | inr within ↦ within
]

-- what is counted over what the readers of a book answer is the book's count
pub count-of-book : (b : BookView) (p : CoreProgram) (rs : List Closure) (t : ℕ) → p ≡ b.program → rs ≡ listed_roots b.roots → t ≡ length b.ins → length (root_leaves p rs t) ≡ count_now b
count-of-book b p rs t ep er et =
    ap (λ (x : CoreProgram). length (root_leaves x rs t)) ep ∙ ap (λ (x : List Closure). length (root_leaves b.program x t)) er ∙ ap (λ (x : ℕ). length (root_leaves b.program (listed_roots b.roots) x)) et ∙ count-leaves b

-- the net of what the readers of a book answer is that of the book's roots
pub net-of-book : (b : BookView) (p : CoreProgram) (table : List ℕ) (rs : List Closure) (t : ℕ) (flat : Flat) → p ≡ b.program → table ≡ b.levels → rs ≡ listed_roots b.roots → t ≡ length b.ins → IsNetOf p table rs t flat
    → IsNetOf b.program b.levels (listed_roots b.roots) (length b.ins) flat
net-of-book b p table rs t flat ep el er et of =
    subst (λ (x : CoreProgram). IsNetOf x b.levels (listed_roots b.roots) (length b.ins) flat) ep
    (subst (λ (x : List ℕ). IsNetOf p x (listed_roots b.roots) (length b.ins) flat) el
    (subst (λ (x : List Closure). IsNetOf p table x (length b.ins) flat) er (subst (λ (x : ℕ). IsNetOf p table rs x flat) et of)))

module _ (b : BookView) (is : IsBook b) (i : StoreMap) (input : IsInput b.program i) (closures : RootsAreClosures) (one : RootsHaveOneOutput) (stratified : NetsAreStratified) (outs : NetsHaveRootOutputs)
    (flat : Flat) (of : IsNetOf b.program b.levels (listed_roots b.roots) (length b.ins) flat) where
  the_output : ExactlyOne (IsOutputOf b.program (listed_roots b.roots) (length b.ins) i)
  the_output = one b.program b.levels is.program is.stratified (listed_roots b.roots) (book-closures b is closures) (length b.ins) i input.store

  abbrev output : StoreMap
  output = the_output.0

  net_output : net.IsNetOutput flat i output
  net_output = (outs b.program b.levels (listed_roots b.roots) (length b.ins) flat of i output input).1 the_output.1

  pub given_net : net.IsStoreOf flat.cells i
  given_net = net_output.given

  -- from words of the input the net is completed to its output
  pub completed : (before after : StoreMap) → before ≡ i
      → ((input output : StoreMap) → net.IsStratified flat → net.IsNetOutput flat input output → IsOnNetWay flat input output 0 before → after ≡ output)
      → net.IsNetOutput flat i after
  completed before after same settled =
      let way : IsOnNetWay flat i output 0 i = record {
        store = net_output.given;
        above = λ c t within fits h. h;
        below = net_output.above;
        stands = λ c t within low fits h. absurd (omega arith);
      } in
      let ends : after ≡ output = settled i output (stratified b.program b.levels (listed_roots b.roots) (length b.ins) flat of is.stratified) net_output (subst (IsOnNetWay flat i output 0) (sym same) way) in
      subst (net.IsNetOutput flat i) (sym ends) net_output

  -- and that is the output of the instant after those of the run that the book keeps
  pub output-of-run : (v : StoreMap) → net.IsNetOutput flat i v → (full : List StoreMap) → KeepsRun b full → IsOutput b.program full i v
  output-of-run v is-output full keeps =
      let of-roots : IsOutputOf b.program (listed_roots b.roots) (length b.ins) i v = (outs b.program b.levels (listed_roots b.roots) (length b.ins) flat of i v input).0 is-output in
      output-of_roots b.program is.program full i v
      (subst (λ (rs : List Closure). IsOutputOf b.program rs (length full) i v) keeps.roots.all
      (subst (λ (t : ℕ). IsOutputOf b.program (listed_roots b.roots) t i v) (sym keeps.run.whole) of-roots))
