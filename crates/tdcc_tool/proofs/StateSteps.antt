-- What an instant does to the state of a run.
use Rattle.std.proofs.Common.{◌≡◌, ℕ, ◌+◌, ◌<◌, ◌≤◌, List, [], ◌∷◌, ◌++◌, length, take, refl, sym, ap, ◌∙◌, subst, arith, length-append, inl, inr}
use Rattle.std.proofs.lemmas.List.{take-append-le}
use Rattle.std.proofs.lemmas.List.Filters.{length-filter_both}
use Rattle.std.proofs.lemmas.Bool.{cases_order}
use Rattle.std.proofs.Math.Seq.{take-append_seam}
use Rattle.token_system.specs.Stores.{StoreMap}
use Rattle.agent_core.specs.declared.node.Closure.{Closure}
use Rattle.agent_core.specs.Programs.{CoreProgram}
use Rattle.agent_core.specs.Closures.{roots}
use Rattle.agent_core.specs.Leaves.{leaves, ran}
use Rattle.agent_core.specs.Outputs.{IsOutput}
use Rattle.instant_net.specs.Nets.{Flat}
use Rattle.instant_net.specs.Opened.{IsNetOf}
use Rattle.residuals.specs.RootLists.{listed_roots, goes}
use Rattle.agent_laws.specs.NextRoots.{stays}
use Rattle.run_book.specs.Books.{BookView, KeepsRun, HasClosedInstant}
use Rattle.command_words.specs.declared.settings.Limits.{Limits}
use Rattle.tdcc_tool.specs.Answers.{KeepsLimits}
use Rattle.trace_text.specs.Inputs.{GivesInput}
use Rattle.tdcc_tool.specs.declared.run_state.RunState.{RunState}
use Rattle.tdcc_tool.specs.declared.run_end.RunEnd.TheVariants as ends
use Rattle.tdcc_tool.specs.declared.output.OutputMode.{OutputMode}
use Rattle.tdcc_tool.specs.RunEnds.{leaf_count_after, IsDue}
use Rattle.tdcc_tool.specs.Steps.{count_now, StopsRun, IsStateOf, AdvancesRun, IsNetAfter}
use Rattle.tdcc_tool.specs.RunTexts.{ran_after, spent, line_of, instant_lines}
use Rattle.tdcc_tool.proofs.RunTexts.{spent-push, instant_lines-push}

module _ (b : BookView) (full : List StoreMap) (keeps : KeepsRun b full) where
  -- the leaves that the book counts are those of the instant after its run
  pub count-of-run : count_now b ≡ leaf_count_after b.program full
  count-of-run =
      ap (λ (rs : List Closure). length (leaves b.program rs (length b.ins))) keeps.roots.all
      ∙ ap (λ (n : ℕ). length (leaves b.program (roots b.program full) n)) (sym keeps.run.whole)

  -- and what runs of its roots runs after that run
  pub ran-of-run : (v : StoreMap) → ran b.program (listed_roots b.roots) (length b.ins) v ≡ ran_after b.program full v
  ran-of-run v =
      ap (λ (rs : List Closure). ran b.program rs (length b.ins) v) keeps.roots.all
      ∙ ap (λ (n : ℕ). ran b.program (roots b.program full) n v) (sym keeps.run.whole)

  -- a net of its roots is one of the instant after its run
  pub net-of-run : (net : Flat) → IsNetOf b.program b.levels (listed_roots b.roots) (length b.ins) net → IsNetAfter b full net
  net-of-run net of =
      subst (λ (n : ℕ). IsNetOf b.program b.levels (roots b.program full) n net) (sym keeps.run.whole)
      (subst (λ (rs : List Closure). IsNetOf b.program b.levels rs (length b.ins) net) keeps.roots.all of)

-- the book's next roots are as many as those of the program
pub roots-after : (b : BookView) (full : List StoreMap) → KeepsRun b full → length b.roots.once + length b.roots.stay ≡ length (roots b.program full)
roots-after b full kept =
    let once = ap length kept.roots.once in
    let stay = ap length kept.roots.stay in
    let both = length-filter_both (stays b.program) (goes b.program) (λ x. refl) (roots b.program full) in
    omega arith

-- the limits are kept by one output more
pub keeps-more : (p : CoreProgram) (limits : Limits) (full : List StoreMap) (v : StoreMap) → KeepsLimits p limits full → leaf_count_after p full ≤ limits.net → spent p full + ran_after p full v ≤ limits.fuel
    → KeepsLimits p limits (full ++ v ∷ [])
keeps-more p limits full v within fits cheap = record {
  net = λ n lt. elim (cases_order n (length full)) [
    | inl same ↦ subst (λ (z : List StoreMap). leaf_count_after p z ≤ limits.net) (sym (ap (λ (k : ℕ). take k (full ++ v ∷ [])) same ∙ take-append_seam full (v ∷ []))) fits
    | inr apart ↦
        let long = length-append full (v ∷ []) in
        let less : n < length full = omega arith in
        subst (λ (z : List StoreMap). leaf_count_after p z ≤ limits.net) (sym (take-append-le n full (v ∷ []) (let h : n ≤ length full = omega arith in h))) (within.net n less)
  ];
  fuel = let more = spent-push p full v in omega arith;
}

module _ (c : RunState) (input : StoreMap) (room : length c.book.ins < 65536) where
  is-due : (line : List ℕ) → GivesInput c.book.program line input → (full : List StoreMap) → KeepsRun c.book full → IsDue c.book.program (length full) line input
  is-due line given full keeps = record { given = given; few = let long = keeps.run.whole in omega arith }

  -- too many leaves end the run
  pub over-net : (leaves : ℕ) → leaves ≡ count_now c.book → c.limits.net < leaves → (line : List ℕ) → GivesInput c.book.program line input → StopsRun c c line (ends.NetFull leaves)
  over-net leaves counted over line given = record {
    at = λ short full follows. (input, is-due line given full follows.keeps, record { counted = counted ∙ count-of-run c.book full follows.keeps; over = over });
    same = refl;
    says = tt;
  }

  module _ (v : StoreMap) (fits : count_now c.book ≤ c.limits.net) (total : ℕ) (counted : total ≡ c.spent + ran c.book.program (listed_roots c.book.roots) (length c.book.ins) v) where
    total-spent : (full : List StoreMap) → IsStateOf c full → total ≡ spent c.book.program full + ran_after c.book.program full v
    total-spent full follows = let before = follows.spent in let here = ran-of-run c.book full follows.keeps v in omega arith

    -- so do too many agents
    pub over-fuel : ((full : List StoreMap) → KeepsRun c.book full → IsOutput c.book.program full input v) → c.limits.fuel < total → (line : List ℕ) → GivesInput c.book.program line input → StopsRun c c line (ends.FuelSpent total)
    over-fuel output over line given = record {
      at = λ short full follows. (
        input,
        is-due line given full follows.keeps,
        record {
          fits = subst (λ (n : ℕ). n ≤ c.limits.net) (count-of-run c.book full follows.keeps) fits;
          output = v;
          is = output full follows.keeps;
          counted = total-spent full follows ∙ sym (spent-push c.book.program full v);
          over = over;
        },
      );
      same = refl;
      says = tt;
    }

    -- and otherwise the run goes on
    pub goes-on : (after : RunState) (net : Flat) → after.mode ≡ c.mode → after.limits ≡ c.limits → after.spent ≡ total → total ≤ c.limits.fuel
        → HasClosedInstant c.book after.book input v → ((full : List StoreMap) → KeepsRun c.book full → KeepsRun after.book (full ++ v ∷ []))
        → IsNetOf c.book.program c.book.levels (listed_roots c.book.roots) (length c.book.ins) net
        → ((past : List StoreMap) → KeepsRun after.book (past ++ v ∷ []) → IsNetAfter after.book past net → after.lines.items ≡ c.lines.items ++ line_of after.mode after.book.program past v)
        → (line : List ℕ) → GivesInput c.book.program line input → AdvancesRun c after line
    goes-on after net mode limits is-total cheap closed keeps of lines line given = record {
      few = room;
      input = input;
      given = given;
      closes = record {
        output = v;
        closed = closed;
        mode = mode;
        limits = limits;
        follows = λ full follows.
            let kept = keeps full follows.keeps in
            let net-here = net-of-run c.book full follows.keeps net of in
            let net-after : IsNetAfter after.book full net =
            subst (λ (q : CoreProgram). IsNetOf q after.book.levels (roots q full) (length full) net) (sym closed.program)
            (subst (λ (table : List ℕ). IsNetOf c.book.program table (roots c.book.program full) (length full) net) (sym closed.levels) net-here) in
            let fuel = total-spent full follows in
            let count = count-of-run c.book full follows.keeps in
            record {
              keeps = kept;
              spent = is-total ∙ fuel ∙ sym (spent-push c.book.program full v) ∙ ap (λ (q : CoreProgram). spent q (full ++ v ∷ [])) (sym closed.program);
              lines = lines full kept net-after
                  ∙ ap (λ (text : List ℕ). text ++ line_of after.mode after.book.program full v) (follows.lines ∙ same-lines full)
                  ∙ sym (instant_lines-push after.mode after.book.program full v);
              within = subst (λ (q : CoreProgram). KeepsLimits q after.limits (full ++ v ∷ [])) (sym closed.program)
                  (subst (λ (l : Limits). KeepsLimits c.book.program l (full ++ v ∷ [])) (sym limits) (keeps-more c.book.program c.limits full v follows.within (omega arith) (omega arith)));
            };
      };
    }
      where
        same-lines : (full : List StoreMap) → instant_lines c.mode c.book.program full ≡ instant_lines after.mode after.book.program full
        same-lines full = ap (λ (w : OutputMode). instant_lines w c.book.program full) (sym mode) ∙ ap (λ (q : CoreProgram). instant_lines after.mode q full) (sym closed.program)
