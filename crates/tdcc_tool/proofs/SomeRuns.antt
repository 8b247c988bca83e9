-- A trace has an answer: the run goes on line by line to the first that stops it, or to the end.
use Rattle.std.proofs.Common.{◌≡◌, ◌≢◌, ◌⊎◌, inl, inr, ℕ, ◌+◌, ◌<◌, ◌≤◌, List, [], ◌∷◌, ◌++◌, length, take, Some, refl, sym, ap, ◌∙◌, subst, arith, length-append, append_assoc}
use Rattle.std.specs.Prelude.{slice_get}
use Rattle.std.proofs.lemmas.List.{append-nil}
use Rattle.std.proofs.lemmas.Option.{slice_get_within}
use Rattle.std.proofs.Math.Seq.{take-append_seam}
use Rattle.command_words.specs.declared.settings.Limits.{Limits}
use Rattle.tdcc_base.specs.declared.status.Status.{Status}
use Rattle.token_system.specs.Stores.{StoreMap}
use Rattle.agent_core.specs.Programs.{CoreProgram}
use Rattle.agent_core.specs.WellFormed.{IsWellFormed}
use Rattle.agent_core.specs.Outputs.{IsOutput, IsRun}
use Rattle.agent_core.specs.Strata.{Stratifies}
use Rattle.agent_laws.proofs.ProgramOutputs.{has_output}
use Rattle.agent_laws.proofs.Runs.{run-push}
use Rattle.trace_text.specs.declared.fault.LineFault.{LineFault}
use Rattle.trace_text.specs.declared.fault.LineFault.TheVariants as faults
use Rattle.trace_text.specs.Inputs.{GivesInput}
use Rattle.trace_text.specs.Refusals.{RefusesLine}
use Rattle.trace_text.specs.Laws.{IsRead}
use Rattle.trace_text.proofs.LineDecisions.{decide_line}
use Rattle.tdcc_tool.specs.declared.run_end.RunEnd.{RunEnd}
use Rattle.tdcc_tool.specs.declared.run_end.RunEnd.TheVariants as ends
use Rattle.tdcc_tool.specs.declared.output.OutputMode.{OutputMode}
use Rattle.tdcc_tool.specs.Answers.{GiveInputs, KeepsLimits, RunAnswer}
use Rattle.tdcc_tool.specs.RunEnds.{leaf_count_after, IsBadLine, EndsAt, EndsBy, status_of, end_line}
use Rattle.tdcc_tool.specs.RunTexts.{spent, ran_after, written}
use Rattle.tdcc_tool.proofs.StateSteps.{keeps-more}
use Rattle.tdcc_tool.proofs.RunSteps.{given_long, given_more, at_seam}
use Rattle.tdcc_tool.proofs.RunTexts.{spent-push}

pub split : (m n : ℕ) → (m ≤ n) ⊎ (n < m)
split m n = grind arith

module _ (p : CoreProgram) (is : IsWellFormed p) (table : List ℕ) (strat : Stratifies p table) (mode : OutputMode) (limits : Limits) (lines : List (List ℕ)) where
  abbrev pub HasRunAnswer : Type 0
  HasRunAnswer = (s : Status) × (o : List ℕ) × (e : List ℕ) × RunAnswer p mode limits lines s o e

  -- a run over the lines that are done, which keeps its limits
  record SoFar (rest : List (List ℕ)) : Type 0 where
    done : List (List ℕ)
    ins : List StoreMap
    outs : List StoreMap
    parted : lines ≡ done ++ rest
    few : length ins ≤ 65536
    given : GiveInputs p done ins
    run : IsRun p ins outs
    within : KeepsLimits p limits outs

  stopped : (rest : List (List ℕ)) (x : SoFar rest) (end : RunEnd) → EndsBy p limits lines x.outs end → HasRunAnswer
  stopped rest x end ends = (
    status_of end,
    written mode p x.outs,
    end_line (length x.outs) end,
    record {
      ins = x.ins;
      outs = x.outs;
      few = x.few;
      given = subst (λ (ls : List (List ℕ)). GiveInputs p ls x.ins) (sym (ap (λ (k : ℕ). take k lines) (given_long p x.done x.ins x.given) ∙ ap (take (length x.done)) x.parted ∙ take-append_seam x.done rest)) x.given;
      run = x.run;
      within = x.within;
      told_out = refl;
      end = end;
      ends = ends;
      status_is = refl;
      told_err = refl;
    },
  )

  there : (line : List ℕ) (rest : List (List ℕ)) (x : SoFar (line ∷ rest)) → slice_get lines (length x.outs) ≡ Some line
  there line rest x =
      ap (slice_get lines) (x.run.whole ∙ given_long p x.done x.ins x.given) ∙ ap (λ (ls : List (List ℕ)). slice_get ls (length x.done)) x.parted ∙ at_seam x.done line rest

  stopped_at : (line : List ℕ) (rest : List (List ℕ)) (x : SoFar (line ∷ rest)) (end : RunEnd) → EndsAt p limits x.outs line end → HasRunAnswer
  stopped_at line rest x end at = stopped (line ∷ rest) x end (inr (line, there line rest x, at))

  -- one instant more
  more : (line : List ℕ) (rest : List (List ℕ)) (x : SoFar (line ∷ rest)) (i v : StoreMap) → GivesInput p line i → IsOutput p x.outs i v → length x.outs < 65536
      → leaf_count_after p x.outs ≤ limits.net → spent p x.outs + ran_after p x.outs v ≤ limits.fuel → SoFar rest
  more line rest x i v given out few net fuel = record {
    done = x.done ++ line ∷ [];
    ins = x.ins ++ i ∷ [];
    outs = x.outs ++ v ∷ [];
    parted = x.parted ∙ sym (append_assoc x.done (line ∷ []) rest);
    few = let w = x.run.whole in omega (arith, length-append x.ins (i ∷ []));
    given = given_more p x.done x.ins line i x.given given;
    run = run-push p x.ins x.outs i v x.run out;
    within = keeps-more p limits x.outs v x.within net fuel;
  }

  -- from a line on, where each run with one instant more has an answer
  module _ (line : List ℕ) (rest : List (List ℕ)) (x : SoFar (line ∷ rest)) (later : SoFar rest → HasRunAnswer) where
    fuelled : (i : StoreMap) → GivesInput p line i → length x.outs < 65536 → leaf_count_after p x.outs ≤ limits.net → (v : StoreMap) → IsOutput p x.outs i v
        → (spent p x.outs + ran_after p x.outs v ≤ limits.fuel) ⊎ (limits.fuel < spent p x.outs + ran_after p x.outs v) → HasRunAnswer
    fuelled i given few net v out (inl fits) = later (more line rest x i v given out few net fits)
    fuelled i given few net v out (inr over) =
        stopped_at line rest x (ends.FuelSpent (spent p (x.outs ++ v ∷ []))) (i, record { given = given; few = few }, record { fits = net; output = v; is = out; counted = refl; over = let sum = spent-push p x.outs v in omega arith })

    netted : (i : StoreMap) → GivesInput p line i → length x.outs < 65536 → (leaf_count_after p x.outs ≤ limits.net) ⊎ (limits.net < leaf_count_after p x.outs) → HasRunAnswer
    netted i given few (inl fits) =
        let out = has_output p table is strat x.outs i given.input.store in
        fuelled i given few fits out.0 out.1 (split (spent p x.outs + ran_after p x.outs out.0) limits.fuel)
    netted i given few (inr over) = stopped_at line rest x (ends.NetFull (leaf_count_after p x.outs)) (i, record { given = given; few = few }, record { counted = refl; over = over })

    read : length x.outs < 65536 → IsRead p line → HasRunAnswer
    read few (inl (i, given)) = netted i given few (split (leaf_count_after p x.outs) limits.net)
    read few (inr (f, says, refused)) = stopped_at line rest x (ends.BadLine f) (record { refused = refused; says = says; due = inl few })

    last : length line ≤ 32768 → (65536 ≤ length x.outs) ⊎ (length x.outs < 65536) → HasRunAnswer
    last short (inl full) = stopped_at line rest x ends.TooManyLines (short, let few = x.few in let w = x.run.whole in let all : length x.outs ≡ 65536 = omega arith in all)
    last short (inr few) = read few (decide_line p line)

    from_line : (length line ≤ 32768) ⊎ (32768 < length line) → HasRunAnswer
    from_line (inl short) = last short (split 65536 (length x.outs))
    from_line (inr over) = stopped_at line rest x (ends.BadLine faults.LineTooLong) (record { refused = over; says = λ same. cc; due = inr refl })

  go : (rest : List (List ℕ)) → SoFar rest → HasRunAnswer
  go [] x = stopped [] x ends.Completed (inl (refl, x.run.whole ∙ given_long p x.done x.ins x.given ∙ ap length (sym (append-nil x.done) ∙ sym x.parted)))
  go (line ∷ rest) x = from_line line rest x (go rest) (split (length line) 32768)

  -- a trace has an answer
  pub some_run : HasRunAnswer
  some_run = go lines (record {
    done = [];
    ins = [];
    outs = [];
    parted = refl;
    few = omega arith;
    given = tt;
    run = record { whole = refl; each = λ n i v ei ev. absurd (let h = slice_get_within [] n i ei in omega arith) };
    within = record { net = λ n lt. absurd (omega arith); fuel = omega arith };
  })
