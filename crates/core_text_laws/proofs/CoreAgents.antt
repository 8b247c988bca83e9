-- The core text of a program says the terms of its phrase.
use Rattle.std.proofs.Common.{◌≡◌, ℕ, ℤ, suc, ◌+◌, ◌≤◌, true, List, [], ◌∷◌, ◌++◌, length, take, Option, Some, refl, sym, ap, ◌∙◌, subst, arith, append_assoc, codes}
use Rattle.std.specs.Prelude.{slice_get, ◌&&◌, IsTrue}
use Rattle.std.specs.List.{flat_map, list_all}
use Rattle.std.specs.Option.{option_map_or}
use Rattle.std.specs.Fmt.{signed_decimal}
use Rattle.std.proofs.lemmas.List.{append-nil}
use Rattle.program_lexemes.specs.declared.lexer.LexKind.TheVariants as kind
use Rattle.program_lexemes.specs.Forms.{is_white}
use Rattle.program_lexemes.specs.SpacedLexemes.{goes_on, stops}
use Rattle.program_grammar.specs.Terms.{Term, Number, Signal, Int, In, Skip, If, Then, Else, New, Hence, Next, Semicolon, Range, Ampersand, Bars, OpenBrace, CloseBrace}
use Rattle.program_grammar.specs.Phrases as g
use Rattle.program_grammar.specs.Spelling.{token, constraint, unit, agent, program}
use Rattle.token_system.specs.Domain.{is_bound, is_cell}
use Rattle.token_system.specs.declared.cell.Kind.{Kind}
use Rattle.token_system.specs.declared.cell.Kind.TheVariants as kinds
use Rattle.token_system.specs.declared.cell.Token.{Token}
use Rattle.token_system.specs.Texts.{text_of}
use Rattle.agent_core.specs.declared.node.CellDecl.{CellDecl}
use Rattle.agent_core.specs.Agents as core
use Rattle.agent_core.specs.Agents.{Constraint, agent_at}
use Rattle.agent_core.specs.Programs.{CoreProgram}
use Rattle.agent_core.specs.WellFormed.{IsWellFormed, IsInScope, AreInScope}
use Rattle.core_text.specs.CoreTexts.{decl_text, decl_lines, name_at, decl_at, constraint_text, as_unit, agent_text, core_text}
use Rattle.core_text.specs.GoodNames.{IsCoreName, HasGoodNames}
use Rattle.core_reader.proofs.LocalCells.{news}
use Rattle.core_text_laws.proofs.Sitting.{Sits, sits_then, sits_else, sits_hence, sits_next, sits_left, sits_right, sits_cell, sits_new, root_sits}
use Rattle.core_text_laws.proofs.CorePhrases.{token_phrase, ask_phrase, as_unit_phrase, local_phrase, local_at, agent_phrase, decl_phrase, decls_phrase, program_phrase}
use Rattle.core_text_laws.proofs.CoreCells.{found_at, both, taken}
use Rattle.core_text_laws.proofs.CoreTrees.{named}
use Rattle.core_text_laws.proofs.Written.{append_three, Written, none_written, more_written, same_written}
use Rattle.core_text_laws.proofs.CoreWords.{IsGap, blank_gap, line_gap, gap_white, name_written, number_written, token_written}

-- REGROUPING

pub four : (a b c d rest : List ℕ) → (((a ++ b) ++ c) ++ d) ++ rest ≡ a ++ (b ++ (c ++ (d ++ rest)))
four a b c d rest = append_assoc ((a ++ b) ++ c) d rest ∙ append_three a b c (d ++ rest)

joined_tokens : (a amp b more rest : List ℕ) → (a ++ ((amp ++ b) ++ more)) ++ rest ≡ a ++ (amp ++ ((b ++ more) ++ rest))
joined_tokens a amp b more rest = simp append_assoc

-- CELLS

pub range_cut : (bytes : List ℕ) → stops (goes_on kind.Symbol (46 ∷ 46 ∷ [])) bytes
range_cut [] = tt
range_cut (b ∷ bs) = refl

-- a domain, before a byte that is no digit
domain_written : (l h : ℤ) (space : List ℕ) {text : List ℕ} {terms : List Term} → IsTrue (is_cell kinds.Number l h) → list_all is_white space ≡ true → stops (goes_on kind.Number (signed_decimal h)) (space ++ text) → Written text terms
    → Written ((signed_decimal l ++ codes ".." ++ signed_decimal h) ++ (space ++ text)) (Number l ∷ Range ∷ Number h ∷ terms)
domain_written l h space {text} law white cut w =
    let (bounds, order) = both (is_bound l && is_bound h) _ law in
    let (low, high) = both (is_bound l) (is_bound h) bounds in
    same_written (append_three (signed_decimal l) (46 ∷ 46 ∷ []) (signed_decimal h) (space ++ text))
    (number_written l [] low refl refl
    (more_written (46 ∷ 46 ∷ []) kind.Symbol [] Range refl refl refl (range_cut (signed_decimal h ++ (space ++ text))) refl
    (number_written h space high white cut w)))

-- a new node's cell, and what is behind it
local_written : (x : List ℕ) (k : Kind) (l h : ℤ) (law : IsTrue (is_cell k l h)) (u : g.UnitPhrase) (rest : List ℕ) (terms : List Term) → IsCoreName x → Written rest (unit u terms)
    → let d : CellDecl = record { name = x; cell = record { kind = k; lo = l; hi = h; lawful = law } } in Written (codes "new " ++ (decl_text d ++ (codes " in " ++ rest))) (unit (local_phrase k d u) terms)
local_written x kinds.Signal l h law u rest terms name w =
    more_written (codes "new") kind.Keyword (32 ∷ []) New refl refl refl refl refl
    (same_written (append_assoc (codes "signal ") x (codes " in " ++ rest))
    (more_written (codes "signal") kind.Keyword (32 ∷ []) Signal refl refl refl refl refl
    (name_written x (32 ∷ []) name refl refl
    (more_written (codes "in") kind.Keyword (32 ∷ []) In refl refl refl refl refl w))))
local_written x kinds.Number l h law u rest terms name w =
    more_written (codes "new") kind.Keyword (32 ∷ []) New refl refl refl refl refl
    (same_written (four (codes "int ") x (codes " in ") (signed_decimal l ++ codes ".." ++ signed_decimal h) (codes " in " ++ rest))
    (more_written (codes "int") kind.Keyword (32 ∷ []) Int refl refl refl refl refl
    (name_written x (32 ∷ []) name refl refl
    (more_written (codes "in") kind.Keyword (32 ∷ []) In refl refl refl refl refl
    (domain_written l h (32 ∷ []) law refl refl
    (more_written (codes "in") kind.Keyword (32 ∷ []) In refl refl refl refl refl w))))))

-- the line of a declared cell, and what is behind it
decl_written : (x : List ℕ) (k : Kind) (l h : ℤ) (law : IsTrue (is_cell k l h)) (q : g.ProgramPhrase) (rest : List ℕ) → IsCoreName x → Written rest (program q [])
    → let d : CellDecl = record { name = x; cell = record { kind = k; lo = l; hi = h; lawful = law } } in Written (decl_text d ++ (codes ";\n" ++ rest)) (program (decl_phrase k d q) [])
decl_written x kinds.Signal l h law q rest name w =
    same_written (append_assoc (codes "signal ") x (codes ";\n" ++ rest))
    (more_written (codes "signal") kind.Keyword (32 ∷ []) Signal refl refl refl refl refl
    (name_written x [] name refl refl
    (more_written (codes ";") kind.Symbol (10 ∷ []) Semicolon refl refl refl refl refl w)))
decl_written x kinds.Number l h law q rest name w =
    same_written (four (codes "int ") x (codes " in ") (signed_decimal l ++ codes ".." ++ signed_decimal h) (codes ";\n" ++ rest))
    (more_written (codes "int") kind.Keyword (32 ∷ []) Int refl refl refl refl refl
    (name_written x (32 ∷ []) name refl refl
    (more_written (codes "in") kind.Keyword (32 ∷ []) In refl refl refl refl refl
    (domain_written l h [] law refl refl
    (more_written (codes ";") kind.Symbol (10 ∷ []) Semicolon refl refl refl refl refl w)))))

decls_written : (ds : List CellDecl) (q : g.ProgramPhrase) (rest : List ℕ) → ((i : ℕ) (d : CellDecl) → slice_get ds i ≡ Some d → IsCoreName d.name) → Written rest (program q []) → Written (decl_lines ds ++ rest) (program (decls_phrase ds q) [])
decls_written [] q rest names w = w
decls_written (d ∷ ds) q rest names w =
    same_written (append_three (decl_text d) (codes ";\n") (decl_lines ds) rest)
    (decl_written d.name d.cell.kind d.cell.lo d.cell.hi d.cell.lawful (decls_phrase ds q) (decl_lines ds ++ rest) (names 0 d refl) (decls_written ds q rest (λ i e f. names (suc i) e f) w))

module _ (p : CoreProgram) (good : HasGoodNames p) where
  -- CONSTRAINTS

  pair_written : (locals : List ℕ) (x : ℕ × Token) (sp : ℕ) {text : List ℕ} {terms : List Term} → IsInScope p locals x → IsGap sp → Written text terms
      → Written (text_of (name_at p.cells x.0) x.1 ++ (sp ∷ text)) (token (token_phrase (name_at p.cells x.0) x.1) terms)
  pair_written locals x sp is gap w = token_written (name_at p.cells x.0) is.decl.cell.kind x.1 sp (subst IsCoreName (sym (named p x.0 is.decl is.found)) (good.names x.0 is.decl is.found)) is.fits gap w

  ask_written : (locals : List ℕ) (c : Constraint) (sp : ℕ) {text : List ℕ} {terms : List Term} → 1 ≤ length c → AreInScope p locals c → IsGap sp → Written text terms → Written (constraint_text p.cells c ++ (sp ∷ text)) (constraint (ask_phrase p.cells c) terms)
  ask_written locals [] sp some are gap w = absurd (omega arith)
  ask_written locals (x ∷ []) sp {text} some are gap w =
      same_written (ap (λ (t : List ℕ). t ++ (sp ∷ text)) (append-nil (text_of (name_at p.cells x.0) x.1))) (pair_written locals x sp are.0 gap w)
  ask_written locals (x ∷ y ∷ ys) sp {text} some are gap w =
      same_written (joined_tokens (text_of (name_at p.cells x.0) x.1) (codes " & ") (text_of (name_at p.cells y.0) y.1) (flat_map (λ z. codes " & " ++ text_of (name_at p.cells z.0) z.1) ys) (sp ∷ text))
      (pair_written locals x 32 are.0 blank_gap
      (more_written (codes "&") kind.Symbol (32 ∷ []) Ampersand refl refl refl refl refl
      (ask_written locals (y ∷ ys) sp (omega arith) are.1 gap w)))

  -- AGENTS

  abbrev AgentSays : core.Agent → Type 0
  AgentSays a = (sp : ℕ) (text : List ℕ) (terms : List Term) → IsGap sp → Written text terms → Written (agent_text p.cells a ++ (sp ∷ text)) (agent (agent_phrase p.cells a) terms)

  abbrev UnitSays : core.Agent → Type 0
  UnitSays a = (sp : ℕ) (text : List ℕ) (terms : List Term) → IsGap sp → Written text terms → Written (as_unit a (agent_text p.cells a) ++ (sp ∷ text)) (unit (as_unit_phrase (agent_phrase p.cells a)) terms)

  close_cut : (sp : ℕ) (text : List ℕ) → stops (goes_on kind.Symbol (125 ∷ [])) ((sp ∷ []) ++ text)
  close_cut sp text = refl

  unit_says : (a : core.Agent) → AgentSays a → UnitSays a
  unit_says core.Skip says = says
  unit_says (core.Tell c) says = says
  unit_says (core.Then c a) says = says
  unit_says (core.Else c a) says = says
  unit_says (core.New cell a) says = says
  unit_says (core.Hence a) says = says
  unit_says (core.Next a) says = says
  unit_says (core.Par l r) says = λ sp text terms gap w.
      same_written (append_three (codes "{ ") (agent_text p.cells (core.Par l r)) (codes " }") (sp ∷ text))
      (more_written (codes "{") kind.Symbol (32 ∷ []) OpenBrace refl refl refl refl refl
      (says 32 _ _ blank_gap (more_written (codes "}") kind.Symbol (sp ∷ []) CloseBrace refl (gap_white sp gap) refl (close_cut sp text) refl w)))

  agent_says : (a : core.Agent) (locals : List ℕ) (n : ℕ) → Sits p locals n a → AgentSays a
  agent_says core.Skip locals n s = λ sp text terms gap w. more_written (codes "skip") kind.Keyword (sp ∷ []) Skip refl (gap_white sp gap) refl gap.no_word refl w
  agent_says (core.Tell c) locals n s = λ sp text terms gap w. ask_written locals c sp s.scoped.some s.scoped.tokens gap w
  agent_says (core.Then c a) locals n s = λ sp text terms gap w.
      same_written (four (codes "if ") (constraint_text p.cells c) (codes " then ") (as_unit a (agent_text p.cells a)) (sp ∷ text))
      (more_written (codes "if") kind.Keyword (32 ∷ []) If refl refl refl refl refl
      (ask_written locals c 32 s.scoped.0.some s.scoped.0.tokens blank_gap
      (more_written (codes "then") kind.Keyword (32 ∷ []) Then refl refl refl refl refl
      (unit_says a (agent_says a locals n (sits_then p locals n c a s)) sp text terms gap w))))
  agent_says (core.Else c a) locals n s = λ sp text terms gap w.
      same_written (four (codes "if ") (constraint_text p.cells c) (codes " else ") (as_unit a (agent_text p.cells a)) (sp ∷ text))
      (more_written (codes "if") kind.Keyword (32 ∷ []) If refl refl refl refl refl
      (ask_written locals c 32 s.scoped.0.some s.scoped.0.tokens blank_gap
      (more_written (codes "else") kind.Keyword (32 ∷ []) Else refl refl refl refl refl
      (unit_says a (agent_says a locals n (sits_else p locals n c a s)) sp text terms gap w))))
  agent_says (core.Hence a) locals n s = λ sp text terms gap w.
      more_written (codes "hence") kind.Keyword (32 ∷ []) Hence refl refl refl refl refl (unit_says a (agent_says a locals n (sits_hence p locals n a s)) sp text terms gap w)
  agent_says (core.Next a) locals n s = λ sp text terms gap w.
      more_written (codes "next") kind.Keyword (32 ∷ []) Next refl refl refl refl refl (unit_says a (agent_says a locals n (sits_next p locals n a s)) sp text terms gap w)
  agent_says (core.Par l r) locals n s = λ sp text terms gap w.
      same_written (append_three (as_unit l (agent_text p.cells l)) (codes " || ") (agent_text p.cells r) (sp ∷ text))
      (unit_says l (agent_says l locals n (sits_left p locals n l r s)) 32 _ _ blank_gap
      (more_written (codes "||") kind.Symbol (32 ∷ []) Bars refl refl refl refl refl
      (agent_says r locals (n + length (news l)) (sits_right p locals n l r s) sp text terms gap w)))
  agent_says (core.New cell a) locals n s = λ sp text terms gap w.
      let few = s.few in
      let same = sits_cell p locals n cell a s in
      let (d, found) = found_at p.cells cell (omega arith) in
      let rest : List ℕ = as_unit a (agent_text p.cells a) ++ (sp ∷ text) in
      same_written (four (codes "new ") (decl_at p.cells cell) (codes " in ") (as_unit a (agent_text p.cells a)) (sp ∷ text))
      (subst (λ (o : Option CellDecl). Written (codes "new " ++ (option_map_or decl_text o [] ++ (codes " in " ++ rest))) (unit (local_at o (as_unit_phrase (agent_phrase p.cells a))) terms)) (sym found)
      (local_written d.name d.cell.kind d.cell.lo d.cell.hi d.cell.lawful (as_unit_phrase (agent_phrase p.cells a)) rest terms (good.names cell d found)
      (unit_says a (agent_says a (cell ∷ locals) (n + 1) (sits_new p locals n cell a s)) sp text terms gap w)))

  -- The core text of the program says its phrase.
  pub text_says : IsWellFormed p → Written (core_text p) (program (program_phrase p) [])
  text_says is =
      same_written (append_assoc (decl_lines (take p.declared p.cells)) (agent_text p.cells (agent_at p.nodes 0)) (codes "\n"))
      (decls_written (take p.declared p.cells) (g.Runs (agent_phrase p.cells (agent_at p.nodes 0))) (agent_text p.cells (agent_at p.nodes 0) ++ codes "\n") (λ i d e. good.names i d (taken p.cells p.declared i d e))
      (agent_says (agent_at p.nodes 0) [] p.declared (root_sits p is good) 10 [] [] line_gap none_written))
