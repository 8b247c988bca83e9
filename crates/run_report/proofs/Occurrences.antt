-- A store reaches the guards of a net, and entails them, as it does the thens and elses of the roots.
use Rattle.std.proofs.Common.{◌≡◌, ℕ, Bool, ◌&&◌, not, List, [], ◌∷◌, ◌++◌, length, refl, sym, ap, ◌∙◌}
use Rattle.std.specs.Prelude.{filter}
use Rattle.token_system.specs.Stores.{StoreMap}
use Rattle.agent_core.specs.declared.node.Closure.{Closure}
use Rattle.agent_core.specs.Agents.{Agent, Skip, Tell, Then, Else, Par, New, Hence, Next, agent_at}
use Rattle.agent_core.specs.Programs.{CoreProgram}
use Rattle.agent_core.specs.WellFormed.{IsWellFormed}
use Rattle.agent_core.specs.Names.{IsClosure}
use Rattle.agent_core.specs.Scope.{AgentFits}
use Rattle.agent_core.specs.Strata.{Each}
use Rattle.agent_core.specs.Leaves as core
use Rattle.agent_core.proofs.Scopes.{closure_fits}
use Rattle.agent_laws.specs.Laws.{AreClosures}
use Rattle.agent_laws.proofs.Eachs.{Each-append, Each-map, all_each}
use Rattle.agent_laws.proofs.Instance.{GuardFits}
use Rattle.instant_net.specs.declared.parts.NetGuard.{NetGuard}
use Rattle.agent_core.specs.Occurrences.{Occurrence, occurrences_of, occurrences}
use Rattle.instant_net.specs.NamedLeaves.{NamedGuard, named_entails, reaches_named}
use Rattle.instant_net.specs.Nets.{Flat, named_occurrence}
use Rattle.instant_net.specs.Opened.{IsNetOf}
use Rattle.instant_net.specs.Programs.{guard_named, occurrence_named}
use Rattle.instant_net.proofs.NetRests.{entails-named}
use Rattle.residuals.proofs.Passing.{passed-map, passed-agree}
use Rattle.residuals.proofs.RanLeaves.{path-named}
use Rattle.run_report.specs.Reports as reports
use Rattle.run_report.specs.Reports.{is_confirmed, is_refuted, is_parked, reached_of}

-- what the guards of an occurrence name fits
abbrev OccurrenceFits : CoreProgram → Occurrence core.Guard → Type 0
OccurrenceFits p o = GuardFits p o.guard × Each (GuardFits p) o.path

inside-fit : (p : CoreProgram) (t : ℕ) (a : Agent) (b : List ℕ) (path : List core.Guard) → AgentFits p t a b → Each (GuardFits p) path → Each (OccurrenceFits p) (occurrences_of t a b path)
inside-fit p t Skip b path f g = tt
inside-fit p t (Tell c) b path f g = tt
inside-fit p t (Hence a) b path f g = tt
inside-fit p t (Next a) b path f g = tt
inside-fit p t (Par l r) b path f g = Each-append (OccurrenceFits p) (occurrences_of t l b path) (occurrences_of t r b path) (inside-fit p t l b path f.0 g) (inside-fit p t r b path f.1 g)
inside-fit p t (Then c a) b path f g = ((f.0, g), inside-fit p t a b (path ++ core.Positive b c ∷ []) f.1 (Each-append (GuardFits p) path (core.Positive b c ∷ []) g (f.0, tt)))
inside-fit p t (Else c a) b path f g = ((f.0, g), inside-fit p t a b (path ++ core.Negative b c ∷ []) f.1 (Each-append (GuardFits p) path (core.Negative b c ∷ []) g (f.0, tt)))
inside-fit p t (New cell a) b path f g = inside-fit p t a (b ++ t ∷ []) path f g

occurrences-fit : (p : CoreProgram) → IsWellFormed p → (rs : List Closure) → AreClosures p rs → (t : ℕ) → Each (OccurrenceFits p) (occurrences p rs t)
occurrences-fit p is rs own t = go rs (all_each (λ r. IsClosure p r.node r.births) rs own)
  where
    go : (rs : List Closure) → Each (λ r. IsClosure p r.node r.births) rs → Each (OccurrenceFits p) (occurrences p rs t)
    go [] h = tt
    go (r ∷ rs) h =
        Each-append (OccurrenceFits p) (occurrences_of t (agent_at p.nodes r.node) r.births []) (occurrences p rs t)
        (inside-fit p t (agent_at p.nodes r.node) r.births [] (closure_fits p is r.node r.births h.0 t) tt) (go rs h.1)

-- how an ask fares: by whether it is an else's, and whether it is entailed
abbrev pub Way : Type 0
Way = Bool → Bool → Bool

abbrev pub confirmed_way : Way
confirmed_way is_else entailed = is_else && not entailed

abbrev pub refuted_way : Way
refuted_way is_else entailed = is_else && entailed

abbrev pub parked_way : Way
parked_way is_else entailed = not is_else && not entailed

-- the guard fares so
abbrev pub fares : Way → StoreMap → NamedGuard → Bool
fares way w g = way g.negative (named_entails w g.ask)

-- the guard is reached and fares so
abbrev pub counts : Way → StoreMap → Occurrence NamedGuard → Bool
counts way w o = reaches_named w o && fares way w o.guard

module _ (p : CoreProgram) (w : StoreMap) where
  -- the way is that of the test
  abbrev IsWayOf : Way → (CoreProgram → StoreMap → core.Guard → Bool) → Type 0
  IsWayOf way test = (g : core.Guard) → GuardFits p g → fares way w (guard_named p g) ≡ test p w g

  confirmed-is : IsWayOf confirmed_way is_confirmed
  confirmed-is (core.Positive b c) f = refl
  confirmed-is (core.Negative b c) f = ap not (entails-named p b c w f)

  refuted-is : IsWayOf refuted_way is_refuted
  refuted-is (core.Positive b c) f = refl
  refuted-is (core.Negative b c) f = entails-named p b c w f

  parked-is : IsWayOf parked_way is_parked
  parked-is (core.Positive b c) f = ap not (entails-named p b c w f)
  parked-is (core.Negative b c) f = refl

  counts-named : (way : Way) (test : CoreProgram → StoreMap → core.Guard → Bool) → IsWayOf way test → (o : Occurrence core.Guard) → OccurrenceFits p o
      → counts way w (occurrence_named p o) ≡ (reports.reaches p w o && test p w o.guard)
  counts-named way test same o f =
      ap (λ (r : Bool). r && fares way w (guard_named p o.guard)) (path-named p w o.path f.1) ∙ ap (λ (r : Bool). reports.reaches p w o && r) (same o.guard f.0)

  module _ (table : List ℕ) (rs : List Closure) (t : ℕ) (net : Flat) (is : IsNetOf p table rs t net) where
    net-counts : (way : Way) (test : CoreProgram → StoreMap → core.Guard → Bool) → IsWayOf way test
        → length (filter (λ (g : NetGuard). counts way w (named_occurrence net g)) net.guards) ≡ reached_of test p rs t w
    net-counts way test same =
        sym (passed-map (named_occurrence net) (counts way w) net.guards)
        ∙ ap (λ (os : List (Occurrence NamedGuard)). length (filter (counts way w) os)) is.guards
        ∙ passed-map (occurrence_named p) (counts way w) (occurrences p rs t)
        ∙ passed-agree (λ (o : Occurrence core.Guard). counts way w (occurrence_named p o)) (λ o. reports.reaches p w o && test p w o.guard) (occurrences p rs t)
        (Each-map (OccurrenceFits p) (λ (o : Occurrence core.Guard). counts way w (occurrence_named p o) ≡ (reports.reaches p w o && test p w o.guard)) (counts-named way test same) (occurrences p rs t)
        (occurrences-fit p is.program rs is.roots t))

    pub net-confirmed : length (filter (λ (g : NetGuard). counts confirmed_way w (named_occurrence net g)) net.guards) ≡ reached_of is_confirmed p rs t w
    net-confirmed = net-counts confirmed_way is_confirmed confirmed-is

    pub net-refuted : length (filter (λ (g : NetGuard). counts refuted_way w (named_occurrence net g)) net.guards) ≡ reached_of is_refuted p rs t w
    net-refuted = net-counts refuted_way is_refuted refuted-is

    pub net-parked : length (filter (λ (g : NetGuard). counts parked_way w (named_occurrence net g)) net.guards) ≡ reached_of is_parked p rs t w
    net-parked = net-counts parked_way is_parked parked-is
