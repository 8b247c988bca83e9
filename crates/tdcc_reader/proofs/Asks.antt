-- In a program within the limits each ask has 1 to 16 tokens.
use Rattle.std.proofs.Common.{◌≡◌, ℕ, ◌+◌, ◌*◌, ◌≤◌, List, [], ◌∷◌, ◌++◌, length, Bool, true, false, Option, None, Some, refl, arith, length-append, lit≤}
use Rattle.std.specs.Prelude.{All, nat_lt, if◌then◌else◌}
use Rattle.std.proofs.lemmas.Bool.{ltb-false}
use Rattle.std.proofs.lemmas.List.Elements.{All-cons, All-append, All-nil}
use Rattle.program_grammar.specs.Phrases.{TokenPhrase, AtLeast, AtMost, Exactly, ConstraintPhrase, One, Both, UnitPhrase, Tell, Braces, IfThen, IfElse, LocalSignal, LocalInt, AgentPhrase, Only, Par, ProgramPhrase, Runs, Signals, Ints}
use Rattle.program_grammar.specs.Phrases as phrase
use Rattle.tdcc_reader.specs.Limits.{most_constraint_tokens}
use Rattle.tdcc_reader.specs.declared.dialect.Dialect.{Dialect}
use Rattle.tdcc_reader.specs.declared.dialect.Dialect.TheVariants as dialects
use Rattle.tdcc_reader.specs.declared.limits.Limit.{Limit}
use Rattle.tdcc_reader.specs.declared.limits.Limit.TheVariants.{TooManyTokens}
use Rattle.tdcc_reader.specs.declared.flat_form.FlatFormKind.TheVariants as kind
use Rattle.tdcc_reader.specs.Dialects.{max_tokens, equation_count, token_count}
use Rattle.tdcc_reader.specs.Widths.{token_width, constraint_width, unit_width, agent_width, names_width, items_width}
use Rattle.tdcc_reader.specs.LimitFaults.{first, many_limit, constraint_limit, deep_limit, unit_limit, agent_limit, limit_from, program_limit}
use Rattle.tdcc_reader.specs.Surfaces.{Placed, placed, token_tokens, constraint_of, unit_cells, unit_tree, agent_tree, names_cells, names_scope, items_cells, items_scope, tree_from, program_tree}
use Rattle.tdcc_reader.specs.FlatForms.{entry, flat_forms, IsConstraintList, IsWholeEntry}

-- none is found only where neither is
pub none_left : {A : Type 0} (f g : Option A) → first f g ≡ None → f ≡ None
none_left None g e = refl
none_left (Some a) g e = e

pub none_right : {A : Type 0} (f g : Option A) → first f g ≡ None → g ≡ None
none_right None g e = e
none_right (Some a) g e = cc

not_found : (b : Bool) (l : Limit) → (if b then Some l else None) ≡ None → b ≡ false
not_found true l e = cc
not_found false l e = refl

-- so many tokens are no more than a constraint may have
many_kept : (dialect : Dialect) (n at : ℕ) → many_limit dialect n at ≡ None → n ≤ max_tokens dialect
many_kept dialect n at e = ltb-false (max_tokens dialect) n (not_found (nat_lt (max_tokens dialect) n) (TooManyTokens at) e)

-- how many tokens of its form a constraint has at most, where it has so many
abbrev forms_most : Dialect → ℕ → ℕ
forms_most dialects.Program n = 2 * n
forms_most dialects.Core n = n

most_forms : (dialect : Dialect) (n : ℕ) → n ≤ max_tokens dialect → forms_most dialect n ≤ most_constraint_tokens
most_forms dialects.Program n h = omega arith
most_forms dialects.Core n h = h

-- a token has one or two tokens of its form, and no more than it counts for
abbrev IsCounted : Dialect → ℕ → ℕ → Type 0
IsCounted dialect k count = (1 ≤ k) × ((n : ℕ) → k + forms_most dialect n ≤ forms_most dialect (n + count))

one_counted : (dialect : Dialect) → IsCounted dialect 1 1
one_counted dialects.Program = (lit≤ tt, λ n. omega arith)
one_counted dialects.Core = (lit≤ tt, λ n. omega arith)

two_counted : (dialect : Dialect) → IsCounted dialect 2 (equation_count dialect)
two_counted dialects.Program = (lit≤ tt, λ n. omega arith)
two_counted dialects.Core = (lit≤ tt, λ n. omega arith)

token_counted : (dialect : Dialect) (s : List Placed) (t : TokenPhrase) → IsCounted dialect (length (token_tokens s t)) (token_count dialect t)
token_counted dialect s (phrase.On x) = one_counted dialect
token_counted dialect s (phrase.Off x) = one_counted dialect
token_counted dialect s (phrase.Clash x) = one_counted dialect
token_counted dialect s (AtLeast x n) = one_counted dialect
token_counted dialect s (AtMost x n) = one_counted dialect
token_counted dialect s (Exactly x n) = two_counted dialect

constraint_some : (dialect : Dialect) (s : List Placed) (c : ConstraintPhrase) (n at : ℕ) → constraint_limit dialect c n at ≡ None → (1 ≤ length (constraint_of s c)) × (length (constraint_of s c) + forms_most dialect n ≤ most_constraint_tokens)
constraint_some dialect s (One t) n at e =
    let m = most_forms dialect (n + token_count dialect t) (many_kept dialect (n + token_count dialect t) at e) in
    let (x, y) = token_counted dialect s t in let z = y n in (x, omega arith)
constraint_some dialect s (Both t c) n at e =
    let (x, y) = token_counted dialect s t in let z = y n in
    let (v, w) = constraint_some dialect s c (n + token_count dialect t) (at + token_width t + 1) (none_right (many_limit dialect (n + token_count dialect t) at) (constraint_limit dialect c (n + token_count dialect t) (at + token_width t + 1)) e) in
    let l = length-append (token_tokens s t) (constraint_of s c) in (omega arith, omega arith)

pub ask_kept : (dialect : Dialect) (s : List Placed) (c : ConstraintPhrase) (at : ℕ) → constraint_limit dialect c 0 at ≡ None → IsConstraintList (constraint_of s c)
ask_kept dialect s c at e = let (x, y) = constraint_some dialect s c 0 at e in (x, omega arith)

abbrev UnitWhole : Dialect → UnitPhrase → Type 0
UnitWhole dialect u = (s : List Placed) (m d at : ℕ) → unit_limit dialect u d at ≡ None → All IsWholeEntry (flat_forms (unit_tree u s m))

-- behind the limit on depth
pub inner : (dialect : Dialect) (d at : ℕ) (g : Option Limit) → first (deep_limit dialect d at) g ≡ None → g ≡ None
inner dialect d at g e = none_right (deep_limit dialect d at) g e

mutual
  unit_whole : (dialect : Dialect) (u : UnitPhrase) → UnitWhole dialect u
  unit_whole dialect phrase.Skip s m d at e = All-cons IsWholeEntry (entry kind.Skip []) [] tt (All-nil IsWholeEntry)
  unit_whole dialect (Tell c) s m d at e = All-cons IsWholeEntry (entry kind.Tell (constraint_of s c)) [] (ask_kept dialect s c at (inner dialect d at (constraint_limit dialect c 0 at) e)) (All-nil IsWholeEntry)
  unit_whole dialect (Braces a) s m d at e = agent_whole dialect a s m (d + 1) (at + 1) (inner dialect d at (agent_limit dialect a (d + 1) (at + 1)) e)
  unit_whole dialect (IfThen c u) s m d at e =
      let i = inner dialect d at (first (constraint_limit dialect c 0 (at + 1)) (unit_limit dialect u (d + 1) (at + 1 + constraint_width c + 1))) e in
      All-cons IsWholeEntry (entry kind.Then (constraint_of s c)) (flat_forms (unit_tree u s m)) (ask_kept dialect s c (at + 1) (none_left (constraint_limit dialect c 0 (at + 1)) (unit_limit dialect u (d + 1) (at + 1 + constraint_width c + 1)) i))
      (unit_whole dialect u s m (d + 1) (at + 1 + constraint_width c + 1) (none_right (constraint_limit dialect c 0 (at + 1)) (unit_limit dialect u (d + 1) (at + 1 + constraint_width c + 1)) i))
  unit_whole dialect (IfElse c u) s m d at e =
      let i = inner dialect d at (first (constraint_limit dialect c 0 (at + 1)) (unit_limit dialect u (d + 1) (at + 1 + constraint_width c + 1))) e in
      All-cons IsWholeEntry (entry kind.Else (constraint_of s c)) (flat_forms (unit_tree u s m)) (ask_kept dialect s c (at + 1) (none_left (constraint_limit dialect c 0 (at + 1)) (unit_limit dialect u (d + 1) (at + 1 + constraint_width c + 1)) i))
      (unit_whole dialect u s m (d + 1) (at + 1 + constraint_width c + 1) (none_right (constraint_limit dialect c 0 (at + 1)) (unit_limit dialect u (d + 1) (at + 1 + constraint_width c + 1)) i))
  unit_whole dialect (LocalSignal x u) s m d at e = All-cons IsWholeEntry (entry (kind.New m) []) (flat_forms (unit_tree u (placed x m ∷ s) (m + 1))) tt (unit_whole dialect u (placed x m ∷ s) (m + 1) (d + 1) (at + 4) (inner dialect d at (unit_limit dialect u (d + 1) (at + 4)) e))
  unit_whole dialect (LocalInt x l h u) s m d at e = All-cons IsWholeEntry (entry (kind.New m) []) (flat_forms (unit_tree u (placed x m ∷ s) (m + 1))) tt (unit_whole dialect u (placed x m ∷ s) (m + 1) (d + 1) (at + 8) (inner dialect d at (unit_limit dialect u (d + 1) (at + 8)) e))
  unit_whole dialect (phrase.Hence u) s m d at e = All-cons IsWholeEntry (entry kind.Hence []) (flat_forms (unit_tree u s m)) tt (unit_whole dialect u s m (d + 1) (at + 1) (inner dialect d at (unit_limit dialect u (d + 1) (at + 1)) e))
  unit_whole dialect (phrase.Next u) s m d at e = All-cons IsWholeEntry (entry kind.Next []) (flat_forms (unit_tree u s m)) tt (unit_whole dialect u s m (d + 1) (at + 1) (inner dialect d at (unit_limit dialect u (d + 1) (at + 1)) e))
  unit_whole dialect (phrase.Always u) s m d at e = All-cons IsWholeEntry (entry kind.Always []) (flat_forms (unit_tree u s m)) tt (unit_whole dialect u s m (d + 1) (at + 1) (inner dialect d at (unit_limit dialect u (d + 1) (at + 1)) e))
  unit_whole dialect (phrase.When c u) s m d at e =
      let i = inner dialect d at (first (constraint_limit dialect c 0 (at + 1)) (unit_limit dialect u (d + 1) (at + 1 + constraint_width c + 1))) e in
      All-cons IsWholeEntry (entry kind.When (constraint_of s c)) (flat_forms (unit_tree u s m)) (ask_kept dialect s c (at + 1) (none_left (constraint_limit dialect c 0 (at + 1)) (unit_limit dialect u (d + 1) (at + 1 + constraint_width c + 1)) i))
      (unit_whole dialect u s m (d + 1) (at + 1 + constraint_width c + 1) (none_right (constraint_limit dialect c 0 (at + 1)) (unit_limit dialect u (d + 1) (at + 1 + constraint_width c + 1)) i))
  unit_whole dialect (phrase.Watching a c) s m d at e =
      let i = inner dialect d at (first (agent_limit dialect a (d + 1) (at + 1)) (constraint_limit dialect c 0 (at + 1 + agent_width a + 1))) e in
      All-cons IsWholeEntry (entry kind.Watch (constraint_of s c)) (flat_forms (agent_tree a s m)) (ask_kept dialect s c (at + 1 + agent_width a + 1) (none_right (agent_limit dialect a (d + 1) (at + 1)) (constraint_limit dialect c 0 (at + 1 + agent_width a + 1)) i))
      (agent_whole dialect a s m (d + 1) (at + 1) (none_left (agent_limit dialect a (d + 1) (at + 1)) (constraint_limit dialect c 0 (at + 1 + agent_width a + 1)) i))
  unit_whole dialect (phrase.TimeOn a c) s m d at e =
      let i = inner dialect d at (first (agent_limit dialect a (d + 1) (at + 1)) (constraint_limit dialect c 0 (at + 1 + agent_width a + 1))) e in
      All-cons IsWholeEntry (entry kind.Time (constraint_of s c)) (flat_forms (agent_tree a s m)) (ask_kept dialect s c (at + 1 + agent_width a + 1) (none_right (agent_limit dialect a (d + 1) (at + 1)) (constraint_limit dialect c 0 (at + 1 + agent_width a + 1)) i))
      (agent_whole dialect a s m (d + 1) (at + 1) (none_left (agent_limit dialect a (d + 1) (at + 1)) (constraint_limit dialect c 0 (at + 1 + agent_width a + 1)) i))

  agent_whole : (dialect : Dialect) (a : AgentPhrase) (s : List Placed) (m d at : ℕ) → agent_limit dialect a d at ≡ None → All IsWholeEntry (flat_forms (agent_tree a s m))
  agent_whole dialect (Only u) s m d at e = unit_whole dialect u s m d at e
  agent_whole dialect (Par u a) s m d at e =
      All-cons IsWholeEntry (entry (kind.Par (1 + length (flat_forms (unit_tree u s m)))) []) (flat_forms (unit_tree u s m) ++ flat_forms (agent_tree a s (m + length (unit_cells u)))) tt
      (All-append IsWholeEntry (flat_forms (unit_tree u s m)) (flat_forms (agent_tree a s (m + length (unit_cells u))))
      (unit_whole dialect u s m d at (none_left (unit_limit dialect u d at) (agent_limit dialect a d (at + unit_width u + 1)) e))
      (agent_whole dialect a s (m + length (unit_cells u)) d (at + unit_width u + 1) (none_right (unit_limit dialect u d at) (agent_limit dialect a d (at + unit_width u + 1)) e)))

whole_from : (dialect : Dialect) (p : ProgramPhrase) (s : List Placed) (m at : ℕ) → limit_from dialect p at ≡ None → All IsWholeEntry (flat_forms (tree_from p s m))
whole_from dialect (Runs a) s m at e = agent_whole dialect a s m 0 at e
whole_from dialect (Signals ns p) s m at e = whole_from dialect p (names_scope ns s m) (m + length (names_cells ns)) (at + 1 + names_width ns) e
whole_from dialect (Ints is p) s m at e = whole_from dialect p (items_scope is s m) (m + length (items_cells is)) (at + 1 + items_width is) e

-- The flat forms of a program within the limits have such asks.
pub program_whole : (dialect : Dialect) (p : ProgramPhrase) → program_limit dialect p ≡ None → All IsWholeEntry (flat_forms (program_tree p))
program_whole dialect p e = whole_from dialect p [] 0 0 e
