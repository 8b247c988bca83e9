-- The counts of a net's guards, guard by guard.
use Rattle.std.proofs.Common.{◌≡◌, ℕ, ◌+◌, ◌<◌, ◌≤◌, Bool, true, false, ◌&&◌, cond, List, length, Some, sym, ap, ◌∙◌, arith}
use Rattle.std.specs.Prelude.{slice_get}
use Rattle.token_system.specs.Stores.{StoreMap}
use Rattle.agent_core.specs.declared.node.Closure.{Closure}
use Rattle.agent_core.specs.Programs.{CoreProgram}
use Rattle.instant_net.specs.declared.parts.NetGuard.{NetGuard}
use Rattle.instant_net.specs.NamedLeaves.{named_entails, reaches_named}
use Rattle.instant_net.specs.Nets.{Flat, named_atoms, named_occurrence}
use Rattle.instant_net.specs.Opened.{IsNetOf}
use Rattle.instant_net.specs.Readers.{is_else_of, guard_ask_of}
use Rattle.residuals.proofs.Passing.{IsPassed, passed-more, passed-all}
use Rattle.run_report.specs.declared.counts.Report.{Report}
use Rattle.run_report.specs.Reports.{report_of}
use Rattle.run_report.proofs.Occurrences.{Way, confirmed_way, refuted_way, parked_way, counts, net-confirmed, net-refuted, net-parked}

module _ (net : Flat) (w : StoreMap) where
  -- the guard is reached and fares so
  abbrev pub is_counted : Way → NetGuard → Bool
  is_counted way g = counts way w (named_occurrence net g)

  -- of the first i guards n are reached and fare so
  abbrev pub IsCounted : Way → ℕ → ℕ → Type 0
  IsCounted way = IsPassed (is_counted way) net.guards

  -- the report counts the first i guards
  pub record AreCounts (r : Report) (i : ℕ) : Type 0 where
    pub confirmed : IsCounted confirmed_way i r.confirmed
    pub refuted : IsCounted refuted_way i r.refuted
    pub parked : IsCounted parked_way i r.parked

  module _ (i : ℕ) (lt : i < length net.guards) (reached : Bool) (by : (g : NetGuard) → slice_get net.guards i ≡ Some g → reached ≡ reaches_named w (named_occurrence net g)) where
    -- a guard that is not reached
    pub counts-unreached : reached ≡ false → (r r' : Report) → r' ≡ r → AreCounts r i → AreCounts r' (i + 1)
    counts-unreached fails r r' e h = record {
      confirmed = stays confirmed_way r.confirmed r'.confirmed (ap (λ (x : Report). x.confirmed) e) h.confirmed;
      refuted = stays refuted_way r.refuted r'.refuted (ap (λ (x : Report). x.refuted) e) h.refuted;
      parked = stays parked_way r.parked r'.parked (ap (λ (x : Report). x.parked) e) h.parked;
    }
      where
        stays : (way : Way) (n m : ℕ) → m ≡ n → IsCounted way i n → IsCounted way (i + 1) m
        stays way n m e =
            passed-more (is_counted way) net.guards i n m false lt (λ g at. ap (λ (x : Bool). x && way g.negative (named_entails w (named_atoms net.cells g.ask))) (sym fails ∙ by g at)) (omega arith)

    -- one that is reached
    module _ (passes : reached ≡ true) (is_else entailed : Bool) (else_is : is_else ≡ is_else_of (slice_get net.guards i)) (entailed_is : entailed ≡ named_entails w (named_atoms net.cells (guard_ask_of (slice_get net.guards i)))) where
      pub counts-reached : (r r' : Report) → r'.confirmed ≡ r.confirmed + cond (confirmed_way is_else entailed) 1 0 → r'.refuted ≡ r.refuted + cond (refuted_way is_else entailed) 1 0
          → r'.parked ≡ r.parked + cond (parked_way is_else entailed) 1 0 → AreCounts r i → AreCounts r' (i + 1)
      counts-reached r r' a b c h = record {
        confirmed = counted confirmed_way r.confirmed r'.confirmed a h.confirmed;
        refuted = counted refuted_way r.refuted r'.refuted b h.refuted;
        parked = counted parked_way r.parked r'.parked c h.parked;
      }
        where
          fares : (way : Way) (g : NetGuard) → slice_get net.guards i ≡ Some g → way is_else entailed ≡ is_counted way g
          fares way g at =
              ap (λ (x : Bool). way x entailed) (else_is ∙ ap is_else_of at)
              ∙ ap (way g.negative) (entailed_is ∙ ap (λ o. named_entails w (named_atoms net.cells (guard_ask_of o))) at)
              ∙ ap (λ (x : Bool). x && way g.negative (named_entails w (named_atoms net.cells g.ask))) (sym passes ∙ by g at)

          counted : (way : Way) (n m : ℕ) → m ≡ n + cond (way is_else entailed) 1 0 → IsCounted way i n → IsCounted way (i + 1) m
          counted way n m = passed-more (is_counted way) net.guards i n m (way is_else entailed) lt (fares way)

  -- past the last guard it is the report of the roots
  pub report-is : (r : Report) (i : ℕ) → length net.guards ≤ i → AreCounts r i → (p : CoreProgram) (table : List ℕ) (rs : List Closure) (t next : ℕ) → IsNetOf p table rs t net
      → r.ran ≡ (report_of p rs t w next).ran → r.next ≡ next → r ≡ report_of p rs t w next
  report-is r i le h p table rs t next of ran next_is =
      let confirmed : r.confirmed ≡ (report_of p rs t w next).confirmed = passed-all (is_counted confirmed_way) net.guards i r.confirmed le h.confirmed ∙ net-confirmed p w table rs t net of in
      let refuted : r.refuted ≡ (report_of p rs t w next).refuted = passed-all (is_counted refuted_way) net.guards i r.refuted le h.refuted ∙ net-refuted p w table rs t net of in
      let parked : r.parked ≡ (report_of p rs t w next).parked = passed-all (is_counted parked_way) net.guards i r.parked le h.parked ∙ net-parked p w table rs t net of in
      λ j. record { ran = ran j; confirmed = confirmed j; refuted = refuted j; parked = parked j; next = next_is j }
