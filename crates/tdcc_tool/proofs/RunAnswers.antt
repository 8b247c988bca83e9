-- Two answers of a program to the same trace are one: the run of the shorter is a prefix of the longer's, and ends where that goes on.
use Rattle.std.proofs.Common.{◌≡◌, ℕ, zero, suc, ◌<◌, ◌≤◌, List, [], ◌∷◌, ◌++◌, length, take, drop, get_or, Some, refl, sym, ap, ◌∙◌, subst, arith, ◌⊎◌, inl, inr}
use Rattle.std.specs.Prelude.{slice_get}
use Rattle.std.specs.FinMap.{empty}
use Rattle.std.proofs.lemmas.List.{length-take-le, take_all, take-append-drop}
use Rattle.std.proofs.lemmas.Option.{slice_get-get_or}
use Rattle.std.proofs.Math.Seq.{take-suc}
use Rattle.tdcc_base.specs.declared.status.Status.{Status}
use Rattle.token_system.specs.Stores.{StoreMap}
use Rattle.agent_core.specs.Programs.{CoreProgram}
use Rattle.agent_core.specs.WellFormed.{IsWellFormed}
use Rattle.agent_core.specs.Outputs.{IsOutput, IsRun}
use Rattle.agent_core.specs.Strata.{Stratifies}
use Rattle.agent_laws.proofs.ProgramOutputs.{one_output}
use Rattle.agent_laws.proofs.Runs.{one_run}
use Rattle.tdcc_tool.specs.declared.run_end.RunEnd.{RunEnd}
use Rattle.tdcc_tool.specs.declared.run_end.RunEnd.TheVariants as ends
use Rattle.trace_text.specs.declared.fault.LineFault.{LineFault}
use Rattle.trace_text.specs.declared.fault.LineFault.TheVariants as faults
use Rattle.trace_text.specs.Inputs.{GivesInput}
use Rattle.trace_text.specs.Refusals.{RefusesLine}
use Rattle.trace_text.proofs.GivenInputs.{one_input}
use Rattle.trace_text.proofs.Refused.{one_line_fault, given_not_refused}
use Rattle.command_words.specs.declared.settings.Limits.{Limits}
use Rattle.tdcc_tool.specs.declared.output.OutputMode.{OutputMode}
use Rattle.tdcc_tool.specs.RunEnds.{IsBadLine, IsDue, EndsAt, EndsBy, status_of, end_line}
use Rattle.tdcc_tool.specs.Answers.{GiveInputs, KeepsLimits, RunAnswer}
use Rattle.tdcc_tool.specs.RunTexts.{spent, written}
use Rattle.tdcc_tool.proofs.RunTexts.{spent-front}

-- FRONTS OF LISTS

module _ {X : Type 0} where
  pub front-get : (xs : List X) (n m : ℕ) (x : X) → slice_get (take n xs) m ≡ Some x → (m < n) × (slice_get xs m ≡ Some x)
  front-get [] zero m x e = absurd (cc)
  front-get [] (suc n) m x e = absurd (cc)
  front-get (y ∷ xs) zero m x e = absurd (cc)
  front-get (y ∷ xs) (suc n) zero x e = (omega arith, e)
  front-get (y ∷ xs) (suc n) (suc m) x e = let h = front-get xs n m x e in let lt = h.0 in (omega arith, h.1)

  pub front-front : (xs : List X) (m n : ℕ) → m ≤ n → take m (take n xs) ≡ take m xs
  front-front xs zero n le = refl
  front-front [] (suc m) zero le = absurd (omega arith)
  front-front [] (suc m) (suc n) le = refl
  front-front (y ∷ xs) (suc m) zero le = absurd (omega arith)
  front-front (y ∷ xs) (suc m) (suc n) le = ap (λ (ys : List X). y ∷ ys) (front-front xs m n (let h : m ≤ n = omega arith in h))

  pub past_end : (xs : List X) (x : X) → slice_get xs (length xs) ≡ Some x → ⊥
  past_end [] x e = absurd (cc)
  past_end (y ∷ xs) x e = past_end xs x e

below_or_same : (m n : ℕ) → (m < n → ⊥) → (n < m → ⊥) → m ≡ n
below_or_same zero zero f g = refl
below_or_same zero (suc n) f g = absurd (f (let h : 0 < suc n = omega arith in h))
below_or_same (suc m) zero f g = absurd (g (let h : 0 < suc m = omega arith in h))
below_or_same (suc m) (suc n) f g = ap suc (below_or_same m n (λ h. f (omega arith)) (λ h. g (omega arith)))

module _ (p : CoreProgram) where
  -- a prefix of a run is a run
  pub run-front : (ins outs : List StoreMap) (n : ℕ) → n ≤ length ins → IsRun p ins outs → IsRun p (take n ins) (take n outs)
  run-front ins outs n le run =
      let w = run.whole in
      record {
        whole = length-take-le n outs (let h : n ≤ length outs = omega arith in h) ∙ sym (length-take-le n ins le);
        each = λ m i v ei ev.
            let a = front-get ins n m i ei in
            let b = front-get outs n m v ev in
            let lt = a.0 in
            subst (λ (z : List StoreMap). IsOutput p z i v) (sym (front-front outs m n (let h : m ≤ n = omega arith in h))) (run.each m i v a.1 b.1);
      }

  -- a line at a place below the number of inputs gives the input at that place
  read_at : (lines : List (List ℕ)) (ins : List StoreMap) (n : ℕ) (line : List ℕ) → GiveInputs p (take (length ins) lines) ins → n < length ins → slice_get lines n ≡ Some line → (i : StoreMap) × (slice_get ins n ≡ Some i) × GivesInput p line i
  read_at [] [] n line all lt e = absurd (omega arith)
  read_at [] (i ∷ ins) n line all lt e = absurd all
  read_at (l ∷ lines) [] n line all lt e = absurd (omega arith)
  read_at (l ∷ lines) (i ∷ ins) zero line all lt e = let same : l ≡ line = cc in (i, refl, subst (λ (x : List ℕ). GivesInput p x i) same all.0)
  read_at (l ∷ lines) (i ∷ ins) (suc n) line all lt e = read_at lines ins n line all.1 (let h : n < length ins = omega arith in h) e

  pub within : (lines : List (List ℕ)) (ins : List StoreMap) → GiveInputs p (take (length ins) lines) ins → length ins ≤ length lines
  within [] [] all = omega arith
  within [] (i ∷ ins) all = absurd all
  within (l ∷ lines) [] all = omega arith
  within (l ∷ lines) (i ∷ ins) all = let h : length ins ≤ length lines = within lines ins all.1 in omega arith

  -- a line that gives an input has no fault
  pub not_bad : (n : ℕ) (line : List ℕ) (fault : LineFault) → (i : StoreMap) × GivesInput p line i → IsBadLine p n line fault → ⊥
  not_bad n line fault (i, given) bad = given_not_refused p line given.tokens fault bad.says given.short given.said bad.refused

  -- nor is a line of fitting length behind the last instant one with a fault
  not_many : (n : ℕ) (line : List ℕ) (fault : LineFault) → length line ≤ 32768 → n ≡ 65536 → IsBadLine p n line fault → ⊥
  not_many n line fault short many bad = go bad.due
    where
      go : (n < 65536) ⊎ (fault ≡ faults.LineTooLong) → ⊥
      go (inl few) = omega arith
      go (inr long) = let over : 32768 < length line = subst (RefusesLine p line) long bad.refused in omega arith

  same_line : (lines : List (List ℕ)) (n : ℕ) (line line' : List ℕ) → slice_get lines n ≡ Some line → slice_get lines n ≡ Some line' → line ≡ line'
  same_line lines n line line' e e' = let h : Some line ≡ Some line' = sym e ∙ e' in cc

  -- a run does not end with a fault of a line that gives an input, nor behind the last instant
  due_not_bad : (n : ℕ) (line : List ℕ) (fault : LineFault) (input : StoreMap) → IsDue p n line input → IsBadLine p n line fault → ⊥
  due_not_bad n line fault input due bad = not_bad n line fault (input, due.given) bad

  -- where all lines give inputs, and a run on these keeps the limits, no front of it ends at a line
  pub front_goes_on : (table : List ℕ) → IsWellFormed p → Stratifies p table → (limits : Limits) (ins outs : List StoreMap) (n : ℕ) (line : List ℕ) (end : RunEnd) → IsRun p ins outs → length ins ≤ 65536 → KeepsLimits p limits outs → n < length ins
      → (i : StoreMap) → slice_get ins n ≡ Some i → GivesInput p line i → EndsAt p limits (take n outs) line end → ⊥
  front_goes_on table is strat limits ins outs n line ends.Completed run few within lt i at given h = h
  front_goes_on table is strat limits ins outs n line (ends.BadLine fault) run few within lt i at given h = not_bad (length (take n outs)) line fault (i, given) h
  front_goes_on table is strat limits ins outs n line ends.TooManyLines run few within lt i at given h =
      let whole = run.whole in
      let long = length-take-le n outs (let k : n ≤ length outs = omega arith in k) in
      let many = h.1 in
      omega arith
  front_goes_on table is strat limits ins outs n line (ends.NetFull count) run few within lt i at given h =
      let whole = run.whole in
      let fits = within.net n (let k : n < length outs = omega arith in k) in
      let over = h.2.over in
      let same = h.2.counted in
      omega arith
  front_goes_on table is strat limits ins outs n line (ends.FuelSpent count) run few within lt i at given (input, due, over) =
      let whole = run.whole in
      let there : n < length outs = omega arith in
      let v : StoreMap = get_or outs n empty in
      let same_input : input ≡ i = one_input p line input i due.given given in
      let is_output : IsOutput p (take n outs) i v = run.each n i v at (slice_get-get_or outs n empty there) in
      let same : over.output ≡ v = one_output p table is strat (take n outs) i over.output v (subst (λ (j : StoreMap). IsOutput p (take n outs) j over.output) same_input over.is) is_output in
      let front : take n outs ++ over.output ∷ [] ≡ take (suc n) outs = ap (λ (w : StoreMap). take n outs ++ w ∷ []) same ∙ sym (take-suc outs n empty there) in
      let part = spent-front p (take (suc n) outs) (drop (suc n) outs) in
      let all = ap (spent p) (take-append-drop (suc n) outs) in
      let counted = over.counted ∙ ap (spent p) front in
      let more = over.over in
      let fuel = within.fuel in
      omega arith

  module _ (table : List ℕ) (is : IsWellFormed p) (strat : Stratifies p table) (limits : Limits) where
    -- a run ends in one way at a line
    same_at : (outs : List StoreMap) (line : List ℕ) (e e' : RunEnd) → EndsAt p limits outs line e → EndsAt p limits outs line e' → e ≡ e'
    same_at outs line ends.Completed e' h h' = absurd h
    same_at outs line e ends.Completed h h' = absurd h'
    same_at outs line ends.TooManyLines ends.TooManyLines h h' = refl
    same_at outs line (ends.BadLine f) (ends.BadLine g) h h' = ap ends.BadLine (one_line_fault p line f g h.says h'.says h.refused h'.refused)
    same_at outs line (ends.NetFull c) (ends.NetFull c') h h' = ap ends.NetFull (h.2.counted ∙ sym h'.2.counted)
    same_at outs line (ends.FuelSpent c) (ends.FuelSpent c') (i, due, over) (i', due', over') =
        let inputs : i' ≡ i = one_input p line i' i due'.given due.given in
        let outputs : over.output ≡ over'.output = one_output p table is strat outs i over.output over'.output over.is (subst (λ (j : StoreMap). IsOutput p outs j over'.output) inputs over'.is) in
        ap ends.FuelSpent (over.counted ∙ ap (λ (v : StoreMap). spent p (outs ++ v ∷ [])) outputs ∙ sym over'.counted)
    same_at outs line (ends.BadLine f) ends.TooManyLines h h' = absurd (not_many (length outs) line f h'.0 h'.1 h)
    same_at outs line ends.TooManyLines (ends.BadLine f) h h' = absurd (not_many (length outs) line f h.0 h.1 h')
    same_at outs line (ends.BadLine f) (ends.NetFull c) h h' = absurd (due_not_bad (length outs) line f h'.0 h'.1 h)
    same_at outs line (ends.NetFull c) (ends.BadLine f) h h' = absurd (due_not_bad (length outs) line f h.0 h.1 h')
    same_at outs line (ends.BadLine f) (ends.FuelSpent c) h h' = absurd (due_not_bad (length outs) line f h'.0 h'.1 h)
    same_at outs line (ends.FuelSpent c) (ends.BadLine f) h h' = absurd (due_not_bad (length outs) line f h.0 h.1 h')
    same_at outs line ends.TooManyLines (ends.NetFull c) h h' = absurd (let few = h'.1.few in let many = h.1 in omega arith)
    same_at outs line (ends.NetFull c) ends.TooManyLines h h' = absurd (let few = h.1.few in let many = h'.1 in omega arith)
    same_at outs line ends.TooManyLines (ends.FuelSpent c) h h' = absurd (let few = h'.1.few in let many = h.1 in omega arith)
    same_at outs line (ends.FuelSpent c) ends.TooManyLines h h' = absurd (let few = h.1.few in let many = h'.1 in omega arith)
    same_at outs line (ends.NetFull c) (ends.FuelSpent c') h h' = absurd (let over = h.2.over in let counted = h.2.counted in let fits = h'.2.fits in omega arith)
    same_at outs line (ends.FuelSpent c) (ends.NetFull c') h h' = absurd (let over = h'.2.over in let counted = h'.2.counted in let fits = h.2.fits in omega arith)

    -- and in one way at all
    pub same_end : (lines : List (List ℕ)) (outs : List StoreMap) (e e' : RunEnd) → EndsBy p limits lines outs e → EndsBy p limits lines outs e' → e ≡ e'
    same_end lines outs e e' (inl h) (inl h') = h.0 ∙ sym h'.0
    same_end lines outs e e' (inl h) (inr (line, at, ends)) = absurd (past_end lines line (subst (λ (k : ℕ). slice_get lines k ≡ Some line) h.1 at))
    same_end lines outs e e' (inr (line, at, ends)) (inl h) = absurd (past_end lines line (subst (λ (k : ℕ). slice_get lines k ≡ Some line) h.1 at))
    same_end lines outs e e' (inr (line, at, ends)) (inr (line', at', ends')) =
        same_at outs line e e' ends (subst (λ (l : List ℕ). EndsAt p limits outs l e') (same_line lines (length outs) line' line at' at) ends')

    -- a run does not end where a longer one goes on
    pub goes_past : (lines : List (List ℕ)) (ins outs : List StoreMap) (n : ℕ) (e : RunEnd) → GiveInputs p (take (length ins) lines) ins → IsRun p ins outs → length ins ≤ 65536 → KeepsLimits p limits outs → n < length ins
        → EndsBy p limits lines (take n outs) e → ⊥
    goes_past lines ins outs n e given run few within-limits lt (inl h) =
        let whole = run.whole in
        let long = length-take-le n outs (let k : n ≤ length outs = omega arith in k) in
        let w = within lines ins given in
        let all = h.1 in
        omega arith
    goes_past lines ins outs n e given run few within-limits lt (inr (line, at, ends)) =
        let whole = run.whole in
        let long = length-take-le n outs (let k : n ≤ length outs = omega arith in k) in
        let r = read_at lines ins n line given lt (subst (λ (k : ℕ). slice_get lines k ≡ Some line) long at) in
        front_goes_on table is strat limits ins outs n line e run few within-limits lt r.0 r.1 r.2 ends

  pub same_front : (lines : List (List ℕ)) (a b : List StoreMap) → GiveInputs p (take (length a) lines) a → GiveInputs p (take (length b) lines) b → length a ≤ length b → a ≡ take (length a) b
  same_front lines [] b x y le = refl
  same_front lines (i ∷ a) [] x y le = absurd (omega arith)
  same_front [] (i ∷ a) (j ∷ b) x y le = absurd x
  same_front (l ∷ lines) (i ∷ a) (j ∷ b) x y le =
      ap (λ (k : StoreMap). k ∷ a) (one_input p l i j x.0 y.0) ∙ ap (λ (ks : List StoreMap). j ∷ ks) (same_front lines a b x.1 y.1 (let h : length a ≤ length b = omega arith in h))

  module _ (is : IsWellFormed p) (table : List ℕ) (strat : Stratifies p table) (mode : OutputMode) (limits : Limits) (lines : List (List ℕ)) where
    abbrev IsAnswer : Status → List ℕ → List ℕ → Type 0
    IsAnswer s o e = RunAnswer p mode limits lines s o e

    -- the shorter of two runs is a prefix of the longer
    front_outs : (s s' : Status) (o o' e e' : List ℕ) (a : IsAnswer s o e) (b : IsAnswer s' o' e') → length a.ins ≤ length b.ins → a.outs ≡ take (length a.ins) b.outs
    front_outs s s' o o' e e' a b le =
        let ins = same_front lines a.ins b.ins a.given b.given le in
        one_run p table is strat a.ins a.outs (take (length a.ins) b.outs) a.run
        (subst (λ (xs : List StoreMap). IsRun p xs (take (length a.ins) b.outs)) (sym ins) (run-front b.ins b.outs (length a.ins) le b.run))

    not_fewer : (s s' : Status) (o o' e e' : List ℕ) (a : IsAnswer s o e) (b : IsAnswer s' o' e') → length a.ins < length b.ins → ⊥
    not_fewer s s' o o' e e' a b lt =
        let front = front_outs s s' o o' e e' a b (let h : length a.ins ≤ length b.ins = omega arith in h) in
        goes_past table is strat limits lines b.ins b.outs (length a.ins) a.end b.given b.run b.few b.within lt (subst (λ (z : List StoreMap). EndsBy p limits lines z a.end) front a.ends)

    -- a trace has one answer
    pub one_run_answer : (s s' : Status) (o o' e e' : List ℕ) → IsAnswer s o e → IsAnswer s' o' e' → (s ≡ s') × (o ≡ o') × (e ≡ e')
    one_run_answer s s' o o' e e' a b =
        let count : length a.ins ≡ length b.ins = below_or_same (length a.ins) (length b.ins) (not_fewer s s' o o' e e' a b) (not_fewer s' s o' o e' e b a) in
        let whole = b.run.whole in
        let outs : a.outs ≡ b.outs = front_outs s s' o o' e e' a b (omega (arith, count)) ∙ take_all (length a.ins) b.outs (omega (arith, count, whole)) in
        let end : a.end ≡ b.end = same_end table is strat limits lines b.outs a.end b.end (subst (λ (z : List StoreMap). EndsBy p limits lines z a.end) outs a.ends) b.ends in (
          a.status_is ∙ ap status_of end ∙ sym b.status_is,
          a.told_out ∙ ap (written mode p) outs ∙ sym b.told_out,
          a.told_err ∙ ap (λ (z : List StoreMap). end_line (length z) a.end) outs ∙ ap (end_line (length b.outs)) end ∙ sym b.told_err,
        )
