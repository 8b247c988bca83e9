-- What the pass over a program's events finds is what goes past a limit first.
use Rattle.std.proofs.Common.{◌≡◌, ℕ, ◌+◌, ◌-◌, ℤ, List, [], ◌∷◌, Option, None, Some, Bool, true, false, refl, ap, sym, ◌∙◌, arith}
use Rattle.std.specs.Prelude.{nat_lt, if◌then◌else◌}
use Rattle.std.proofs.lemmas.Bool.{ltb-true, lt-ltb}
use Rattle.program_grammar.specs.Terms.{Number, Then, Else, Do, Watching, On, Ampersand, Bars, CloseBrace, Equal}
use Rattle.program_grammar.specs.Phrases.{TokenPhrase, AtLeast, AtMost, Exactly, ConstraintPhrase, One, Both, UnitPhrase, Tell, Braces, IfThen, IfElse, LocalSignal, LocalInt, AgentPhrase, Only, Par, NamesPhrase, LastName, MoreName, ItemsPhrase, LastItem, MoreItem, ProgramPhrase, Runs, Signals, Ints}
use Rattle.program_grammar.specs.Phrases as phrase
use Rattle.program_grammar.specs.declared.stack_symbols.StackSymbol.TheVariants.{OneUnit, MoreUnits, OneToken, MoreTokens, Bound, ExactNumber, Branch, TheClose, EndTell, EndBody, EndLocal, TheDo, TheWatching, TheOn, EndWatch, EndTimed}
use Rattle.program_grammar.specs.Events.{Event, Matches, Skips, token_events, constraint_events, unit_events, agent_events, names_events, items_events, program_events}
use Rattle.tdcc_reader.specs.Limits.{most_constraint_tokens}
use Rattle.tdcc_reader.specs.declared.dialect.Dialect.{Dialect}
use Rattle.tdcc_reader.specs.declared.dialect.Dialect.TheVariants as dialects
use Rattle.tdcc_reader.specs.declared.limits.Limit.{Limit}
use Rattle.tdcc_reader.specs.declared.limits.Limit.TheVariants.{TooManyTokens}
use Rattle.tdcc_reader.specs.declared.limits.Limits.{Limits}
use Rattle.tdcc_reader.specs.Dialects.{equation_count, token_count}
use Rattle.tdcc_reader.specs.Widths.{token_width, constraint_width, unit_width, agent_width, names_width, items_width}
use Rattle.tdcc_reader.specs.LimitFaults.{first, many_limit, constraint_limit, deep_limit, unit_limit, agent_limit, limit_from, program_limit}
use Rattle.tdcc_reader.specs.Passes.{over_events}
use Rattle.tdcc_reader.specs.LimitPass.{limits, limit_pass}
use Rattle.tdcc_reader.proofs.Firsts.{first_assoc}

abbrev over : Dialect → ℕ → List Event → ℕ → ℕ → Option Limit → Limits
over dialect at es d n f = over_events (limit_pass dialect) at es (limits d n f)

same : (dialect : Dialect) (rest : List Event) (d n : ℕ) {at at' : ℕ} {f f' : Option Limit} → at ≡ at' → f ≡ f' → over dialect at rest d n f ≡ over dialect at' rest d n f'
same dialect rest d n {at} {at'} {f} {f'} ea ef = ap (λ x. over dialect x rest d n f) ea ∙ ap (λ x. over dialect at' rest d n x) ef

-- two limits at one place, of which the first one implies the second
both_limits : (a b : Bool) (l : Limit) → (a ≡ true → b ≡ true) → first (if a then Some l else None) (if b then Some l else None) ≡ (if b then Some l else None)
both_limits true b l h = sym (ap (λ x. if x then Some l else None) (h refl))
both_limits false b l h = refl

one_more : (m n : ℕ) → nat_lt m (n + 1) ≡ true → nat_lt m (n + 2) ≡ true
one_more m n h = let l = ltb-true m (n + 1) h in lt-ltb m (n + 2) (omega arith)

-- an equation is looked at as one token, and in a core text as two
equation_limited : (dialect : Dialect) (k : ℤ) (rest : List Event) (at d n : ℕ) (f : Option Limit)
    → over dialect (at + 1) (Matches Bound Equal ∷ Matches ExactNumber (Number k) ∷ rest) d (n + 1) (first f (many_limit dialect (n + 1) at)) ≡ over dialect (at + 3) rest d (n + equation_count dialect) (first f (many_limit dialect (n + equation_count dialect) at))
equation_limited dialects.Program k rest at d n f = same dialects.Program rest d (n + 1) (omega arith) refl
equation_limited dialects.Core k rest at d n f =
    let two : n + 1 + 1 ≡ n + 2 = omega arith in
    let here : (at + 1) - 1 ≡ at = omega arith in
    ap (λ m. over dialects.Core (at + 1 + 1 + 1) rest d m (first (first f (many_limit dialects.Core (n + 1) at)) (many_limit dialects.Core m ((at + 1) - 1)))) two
    ∙ same dialects.Core rest d (n + 2) (omega arith)
    (first_assoc f (many_limit dialects.Core (n + 1) at) (many_limit dialects.Core (n + 2) ((at + 1) - 1))
    ∙ ap (λ x. first f (first (many_limit dialects.Core (n + 1) at) (many_limit dialects.Core (n + 2) x))) here
    ∙ ap (first f) (both_limits (nat_lt most_constraint_tokens (n + 1)) (nat_lt most_constraint_tokens (n + 2)) (TooManyTokens at) (one_more most_constraint_tokens n)))

token_limited : (dialect : Dialect) (t : TokenPhrase) (rest : List Event) (at d n : ℕ) (f : Option Limit)
    → over dialect at (token_events OneToken t rest) d n f ≡ over dialect (at + token_width t) rest d (n + token_count dialect t) (first f (many_limit dialect (n + token_count dialect t) at))
token_limited dialect (phrase.On x) rest at d n f = refl
token_limited dialect (phrase.Off x) rest at d n f = same dialect rest d (n + 1) (omega arith) refl
token_limited dialect (phrase.Clash x) rest at d n f = same dialect rest d (n + 1) (omega arith) refl
token_limited dialect (AtLeast x k) rest at d n f = same dialect rest d (n + 1) (omega arith) refl
token_limited dialect (AtMost x k) rest at d n f = same dialect rest d (n + 1) (omega arith) refl
token_limited dialect (Exactly x k) rest at d n f = equation_limited dialect k rest at d n f

constraint_limited : (dialect : Dialect) (c : ConstraintPhrase) (rest : List Event) (at d n : ℕ) (f : Option Limit) → over dialect at (constraint_events OneToken c rest) d n f ≡ over dialect (at + constraint_width c) rest d 0 (first f (constraint_limit dialect c n at))
constraint_limited dialect (One t) rest at d n f = token_limited dialect t (Skips MoreTokens ∷ rest) at d n f
constraint_limited dialect (Both t c) rest at d n f =
    token_limited dialect t (Matches MoreTokens Ampersand ∷ constraint_events OneToken c rest) at d n f
    ∙ constraint_limited dialect c rest (at + token_width t + 1) d (n + token_count dialect t) (first f (many_limit dialect (n + token_count dialect t) at))
    ∙ same dialect rest d 0 (omega arith) (first_assoc f (many_limit dialect (n + token_count dialect t) at) (constraint_limit dialect c (n + token_count dialect t) (at + token_width t + 1)))

-- a unit's first term is looked at for its depth, and then as a token's
token_unit : (dialect : Dialect) (t : TokenPhrase) (rest : List Event) (at d n : ℕ) (f : Option Limit) → over dialect at (token_events OneUnit t rest) d n f ≡ over dialect at (token_events OneToken t rest) d n (first f (deep_limit dialect d at))
token_unit dialect (phrase.On x) rest at d n f = refl
token_unit dialect (phrase.Off x) rest at d n f = refl
token_unit dialect (phrase.Clash x) rest at d n f = refl
token_unit dialect (AtLeast x k) rest at d n f = refl
token_unit dialect (AtMost x k) rest at d n f = refl
token_unit dialect (Exactly x k) rest at d n f = refl

constraint_unit : (dialect : Dialect) (c : ConstraintPhrase) (rest : List Event) (at d n : ℕ) (f : Option Limit) → over dialect at (constraint_events OneUnit c rest) d n f ≡ over dialect at (constraint_events OneToken c rest) d n (first f (deep_limit dialect d at))
constraint_unit dialect (One t) rest at d n f = token_unit dialect t (Skips MoreTokens ∷ rest) at d n f
constraint_unit dialect (Both t c) rest at d n f = token_unit dialect t (Matches MoreTokens Ampersand ∷ constraint_events OneToken c rest) at d n f

abbrev UnitLimited : Dialect → UnitPhrase → Type 0
UnitLimited dialect u = (rest : List Event) (at d : ℕ) (f : Option Limit) → over dialect at (unit_events u rest) d 0 f ≡ over dialect (at + unit_width u) rest d 0 (first f (unit_limit dialect u d at))

abbrev AgentLimited : Dialect → AgentPhrase → Type 0
AgentLimited dialect a = (rest : List Event) (at d : ℕ) (f : Option Limit) → over dialect at (agent_events a rest) d 0 f ≡ over dialect (at + agent_width a) rest d 0 (first f (agent_limit dialect a d at))

back_up : (dialect : Dialect) (rest : List Event) (at d : ℕ) (f : Option Limit) → over dialect at rest ((d + 1) - 1) 0 f ≡ over dialect at rest d 0 f
back_up dialect rest at d f = let e : (d + 1) - 1 ≡ d = omega arith in ap (λ x. over dialect at rest x 0 f) e

-- a body that is a unit, behind what was found before
body_limited : (dialect : Dialect) (u : UnitPhrase) → UnitLimited dialect u → (end : Event) → ((rest : List Event) (at d n : ℕ) (f : Option Limit) → over dialect at (end ∷ rest) d n f ≡ over dialect at rest (d - 1) n f)
    → (rest : List Event) (at to d : ℕ) (g f : Option Limit) → at + unit_width u ≡ to
    → over dialect at (unit_events u (end ∷ rest)) (d + 1) 0 (first f g) ≡ over dialect to rest d 0 (first f (first g (unit_limit dialect u (d + 1) at)))
body_limited dialect u ih end up rest at to d g f et =
    ih (end ∷ rest) at (d + 1) (first f g)
    ∙ up rest (at + unit_width u) (d + 1) 0 (first (first f g) (unit_limit dialect u (d + 1) at))
    ∙ back_up dialect rest (at + unit_width u) d (first (first f g) (unit_limit dialect u (d + 1) at))
    ∙ same dialect rest d 0 et (first_assoc f g (unit_limit dialect u (d + 1) at))

end_body : (dialect : Dialect) (rest : List Event) (at d n : ℕ) (f : Option Limit) → over dialect at (Skips EndBody ∷ rest) d n f ≡ over dialect at rest (d - 1) n f
end_body dialect rest at d n f = refl

end_local : (dialect : Dialect) (rest : List Event) (at d n : ℕ) (f : Option Limit) → over dialect at (Skips EndLocal ∷ rest) d n f ≡ over dialect at rest (d - 1) n f
end_local dialect rest at d n f = refl

-- an ask and a body behind one term, where the unit goes d deep
asked_limited : (dialect : Dialect) (c : ConstraintPhrase) (u : UnitPhrase) → UnitLimited dialect u → (mid : Event) → ((rest : List Event) (at d n : ℕ) (f : Option Limit) → over dialect at (mid ∷ rest) d n f ≡ over dialect (at + 1) rest d n f)
    → (rest : List Event) (at d : ℕ) (g f : Option Limit)
    → over dialect (at + 1) (constraint_events OneToken c (mid ∷ unit_events u (Skips EndBody ∷ rest))) (d + 1) 0 (first f g)
    ≡ over dialect (at + (1 + constraint_width c + 1 + unit_width u)) rest d 0 (first f (first g (first (constraint_limit dialect c 0 (at + 1)) (unit_limit dialect u (d + 1) (at + 1 + constraint_width c + 1)))))
asked_limited dialect c u ih mid on rest at d g f =
    constraint_limited dialect c (mid ∷ unit_events u (Skips EndBody ∷ rest)) (at + 1) (d + 1) 0 (first f g)
    ∙ on (unit_events u (Skips EndBody ∷ rest)) (at + 1 + constraint_width c) (d + 1) 0 (first (first f g) (constraint_limit dialect c 0 (at + 1)))
    ∙ same dialect (unit_events u (Skips EndBody ∷ rest)) (d + 1) 0 refl (first_assoc f g (constraint_limit dialect c 0 (at + 1)))
    ∙ body_limited dialect u ih (Skips EndBody) (end_body dialect) rest (at + 1 + constraint_width c + 1) (at + (1 + constraint_width c + 1 + unit_width u)) d (first g (constraint_limit dialect c 0 (at + 1))) f (omega arith)
    ∙ ap (λ x. over dialect (at + (1 + constraint_width c + 1 + unit_width u)) rest d 0 (first f x)) (first_assoc g (constraint_limit dialect c 0 (at + 1)) (unit_limit dialect u (d + 1) (at + 1 + constraint_width c + 1)))

-- an agent and a constraint behind one term
ended_limited : (dialect : Dialect) (a : AgentPhrase) (c : ConstraintPhrase) → AgentLimited dialect a → (mid end : Event)
    → ((rest : List Event) (at d n : ℕ) (f : Option Limit) → over dialect at (mid ∷ rest) d n f ≡ over dialect (at + 1) rest (d - 1) n f)
    → ((rest : List Event) (at d n : ℕ) (f : Option Limit) → over dialect at (end ∷ rest) d n f ≡ over dialect at rest d n f)
    → (rest : List Event) (at d : ℕ) (g f : Option Limit)
    → over dialect (at + 1) (agent_events a (mid ∷ constraint_events OneToken c (end ∷ rest))) (d + 1) 0 (first f g)
    ≡ over dialect (at + (1 + agent_width a + 1 + constraint_width c)) rest d 0 (first f (first g (first (agent_limit dialect a (d + 1) (at + 1)) (constraint_limit dialect c 0 (at + 1 + agent_width a + 1)))))
ended_limited dialect a c ih mid end up off rest at d g f =
    ih (mid ∷ constraint_events OneToken c (end ∷ rest)) (at + 1) (d + 1) (first f g)
    ∙ up (constraint_events OneToken c (end ∷ rest)) (at + 1 + agent_width a) (d + 1) 0 (first (first f g) (agent_limit dialect a (d + 1) (at + 1)))
    ∙ back_up dialect (constraint_events OneToken c (end ∷ rest)) (at + 1 + agent_width a + 1) d (first (first f g) (agent_limit dialect a (d + 1) (at + 1)))
    ∙ constraint_limited dialect c (end ∷ rest) (at + 1 + agent_width a + 1) d 0 (first (first f g) (agent_limit dialect a (d + 1) (at + 1)))
    ∙ off rest (at + 1 + agent_width a + 1 + constraint_width c) d 0 (first (first (first f g) (agent_limit dialect a (d + 1) (at + 1))) (constraint_limit dialect c 0 (at + 1 + agent_width a + 1)))
    ∙ same dialect rest d 0 (omega arith) (first_assoc (first f g) (agent_limit dialect a (d + 1) (at + 1)) (constraint_limit dialect c 0 (at + 1 + agent_width a + 1)) ∙ first_assoc f g (first (agent_limit dialect a (d + 1) (at + 1)) (constraint_limit dialect c 0 (at + 1 + agent_width a + 1))))

mutual
  unit_limited : (dialect : Dialect) (u : UnitPhrase) → UnitLimited dialect u
  unit_limited dialect phrase.Skip rest at d f = refl
  unit_limited dialect (Tell c) rest at d f =
      constraint_unit dialect c (Skips EndTell ∷ rest) at d 0 f
      ∙ constraint_limited dialect c (Skips EndTell ∷ rest) at d 0 (first f (deep_limit dialect d at))
      ∙ same dialect rest d 0 refl (first_assoc f (deep_limit dialect d at) (constraint_limit dialect c 0 at))
  unit_limited dialect (Braces a) rest at d f =
      agent_limited dialect a (Matches TheClose CloseBrace ∷ rest) (at + 1) (d + 1) (first f (deep_limit dialect d at))
      ∙ back_up dialect rest (at + 1 + agent_width a + 1) d (first (first f (deep_limit dialect d at)) (agent_limit dialect a (d + 1) (at + 1)))
      ∙ same dialect rest d 0 (omega arith) (first_assoc f (deep_limit dialect d at) (agent_limit dialect a (d + 1) (at + 1)))
  unit_limited dialect (IfThen c u) rest at d f = asked_limited dialect c u (unit_limited dialect u) (Matches Branch Then) (λ rest at d n f. refl) rest at d (deep_limit dialect d at) f
  unit_limited dialect (IfElse c u) rest at d f = asked_limited dialect c u (unit_limited dialect u) (Matches Branch Else) (λ rest at d n f. refl) rest at d (deep_limit dialect d at) f
  unit_limited dialect (LocalSignal x u) rest at d f =
      ap (λ k. over dialect k (unit_events u (Skips EndLocal ∷ rest)) (d + 1) 0 (first f (deep_limit dialect d at))) (let e : at + 1 + 1 + 1 + 1 ≡ at + 4 = omega arith in e)
      ∙ body_limited dialect u (unit_limited dialect u) (Skips EndLocal) (end_local dialect) rest (at + 4) (at + unit_width (LocalSignal x u)) d (deep_limit dialect d at) f (omega arith)
  unit_limited dialect (LocalInt x l h u) rest at d f =
      ap (λ k. over dialect k (unit_events u (Skips EndLocal ∷ rest)) (d + 1) 0 (first f (deep_limit dialect d at))) (let e : at + 1 + 1 + 1 + 1 + 1 + 1 + 1 + 1 ≡ at + 8 = omega arith in e)
      ∙ body_limited dialect u (unit_limited dialect u) (Skips EndLocal) (end_local dialect) rest (at + 8) (at + unit_width (LocalInt x l h u)) d (deep_limit dialect d at) f (omega arith)
  unit_limited dialect (phrase.Hence u) rest at d f = body_limited dialect u (unit_limited dialect u) (Skips EndBody) (end_body dialect) rest (at + 1) (at + unit_width (phrase.Hence u)) d (deep_limit dialect d at) f (omega arith)
  unit_limited dialect (phrase.Next u) rest at d f = body_limited dialect u (unit_limited dialect u) (Skips EndBody) (end_body dialect) rest (at + 1) (at + unit_width (phrase.Next u)) d (deep_limit dialect d at) f (omega arith)
  unit_limited dialect (phrase.Always u) rest at d f = body_limited dialect u (unit_limited dialect u) (Skips EndBody) (end_body dialect) rest (at + 1) (at + unit_width (phrase.Always u)) d (deep_limit dialect d at) f (omega arith)
  unit_limited dialect (phrase.When c u) rest at d f = asked_limited dialect c u (unit_limited dialect u) (Matches TheDo Do) (λ rest at d n f. refl) rest at d (deep_limit dialect d at) f
  unit_limited dialect (phrase.Watching a c) rest at d f = ended_limited dialect a c (agent_limited dialect a) (Matches TheWatching Watching) (Skips EndWatch) (λ rest at d n f. refl) (λ rest at d n f. refl) rest at d (deep_limit dialect d at) f
  unit_limited dialect (phrase.TimeOn a c) rest at d f = ended_limited dialect a c (agent_limited dialect a) (Matches TheOn On) (Skips EndTimed) (λ rest at d n f. refl) (λ rest at d n f. refl) rest at d (deep_limit dialect d at) f

  agent_limited : (dialect : Dialect) (a : AgentPhrase) → AgentLimited dialect a
  agent_limited dialect (Only u) rest at d f = unit_limited dialect u (Skips MoreUnits ∷ rest) at d f
  agent_limited dialect (Par u a) rest at d f =
      unit_limited dialect u (Matches MoreUnits Bars ∷ agent_events a rest) at d f
      ∙ agent_limited dialect a rest (at + unit_width u + 1) d (first f (unit_limit dialect u d at))
      ∙ same dialect rest d 0 (omega arith) (first_assoc f (unit_limit dialect u d at) (agent_limit dialect a d (at + unit_width u + 1)))

names_limited : (dialect : Dialect) (ns : NamesPhrase) (rest : List Event) (at d : ℕ) (f : Option Limit) → over dialect at (names_events ns rest) d 0 f ≡ over dialect (at + names_width ns) rest d 0 f
names_limited dialect (LastName x) rest at d f = same dialect rest d 0 (omega arith) refl
names_limited dialect (MoreName x ns) rest at d f = names_limited dialect ns rest (at + 1 + 1) d f ∙ same dialect rest d 0 (omega arith) refl

items_limited : (dialect : Dialect) (is : ItemsPhrase) (rest : List Event) (at d : ℕ) (f : Option Limit) → over dialect at (items_events is rest) d 0 f ≡ over dialect (at + items_width is) rest d 0 f
items_limited dialect (LastItem x l h) rest at d f = same dialect rest d 0 (omega arith) refl
items_limited dialect (MoreItem x l h is) rest at d f = items_limited dialect is rest (at + 1 + 1 + 1 + 1 + 1 + 1) d f ∙ same dialect rest d 0 (omega arith) refl

limited_from : (dialect : Dialect) (p : ProgramPhrase) (at : ℕ) → (over dialect at (program_events p) 0 0 None).found ≡ limit_from dialect p at
limited_from dialect (Runs a) at = ap (λ s. s.found) (agent_limited dialect a [] at 0 None)
limited_from dialect (Signals ns p) at = ap (λ s. s.found) (names_limited dialect ns (program_events p) (at + 1) 0 None) ∙ limited_from dialect p (at + 1 + names_width ns)
limited_from dialect (Ints is p) at = ap (λ s. s.found) (items_limited dialect is (program_events p) (at + 1) 0 None) ∙ limited_from dialect p (at + 1 + items_width is)

-- The pass over dialect a program finds what goes past a limit first.
pub program_limited : (dialect : Dialect) (p : ProgramPhrase) → (over_events (limit_pass dialect) 0 (program_events p) (limits 0 0 None)).found ≡ program_limit dialect p
program_limited dialect p = limited_from dialect p 0
