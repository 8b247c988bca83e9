-- What the machine goes through begins a program, and where it may end it is one.
use Rattle.std.proofs.Common.{◌≡◌, List, [], ◌∷◌, ◌++◌, Option, Some, None, Bool, true, false, refl, ap, sym, ◌∙◌, IfSome, subst}
use Rattle.std.specs.Prelude.{option_and_then, if◌then◌else◌, ◌&&◌, pos}
use Rattle.std.proofs.lemmas.List.{append-nil}
use Rattle.program_grammar.specs.Terms.{Term, class_of, classes, Name, Number, Signal, In, Skip, Then, Do, Watching, On, Semicolon, Range, CloseBrace}
use Rattle.program_grammar.specs.declared.stack_symbols.StackSymbol.{StackSymbol}
use Rattle.program_grammar.specs.declared.stack_symbols.StackSymbol.TheVariants.{Declarations, MoreNames, OneUnit, MoreUnits, OneToken, MoreTokens, Bound, Branch, DeclaredName, DeniedName, ClashingName, LocalName, LeastNumber, MostNumber, ExactNumber, TheIn, TheClose, EndTell, EndBody, EndLocal, DeclaredIntName, LocalIntName, DomainIn, LowNumber, TheRange, HighNumber, MoreItems, NewKind, TheDo, TheWatching, TheOn, EndWatch, EndTimed}
use Rattle.program_grammar.specs.Phrases.{One, IfThen, LocalSignal, Only, LastName, LastItem, ProgramPhrase, Runs}
use Rattle.program_grammar.specs.Phrases as phrase
use Rattle.program_grammar.specs.Spelling.{agent, program}
use Rattle.program_grammar.specs.Table.{stack_after}
use Rattle.program_grammar.specs.Machine.{may_end, replaced, feed, run, ended, start}
use Rattle.program_grammar.proofs.Rows.{Is, AreAll, back}

pub some_same : {A : Type 0} {x y : A} → Some x ≡ Some y → x ≡ y
some_same e = cc

pub none_some : {A : Type 0} {y : A} → ◌≡◌ {A = Option A} None (Some y) → ⊥
none_some e = cc

pub and_left : (a b : Bool) → (a && b) ≡ true → a ≡ true
and_left true b e = refl
and_left false b e = e

pub and_right : (a b : Bool) → (a && b) ≡ true → b ≡ true
and_right true b e = e
and_right false b e = cc

-- a part that may be absent
absent : (p : StackSymbol) (k : List Term) → may_end p ≡ true → Is p k k
absent Declarations k h = λ l p e. (p, e)
absent MoreUnits k h = λ u. (Only u, refl)
absent MoreTokens k h = λ t. (One t, refl)
absent Bound k h = λ x. (phrase.On x, refl)
absent EndTell k h = refl
absent EndBody k h = refl
absent EndLocal k h = refl
absent EndWatch k h = refl
absent EndTimed k h = refl
absent _ k h = cc

split_all : (ps qs : List StackSymbol) (u k : List Term) → AreAll (ps ++ qs) u k → (mid : List Term) × AreAll ps u mid × AreAll qs mid k
split_all [] qs u k all = (u, refl, all)
split_all (p ∷ ps) qs u k (m, i, is) = let (mid, front, last) = split_all ps qs m k is in (mid, (m, i, front), last)

feed_case : (p : StackSymbol) (ps qs : List StackSymbol) (w : Term) (u k : List Term) (o : Option (List StackSymbol)) (b : Bool)
    → IfSome o (λ rest. (mid : List Term) → AreAll rest u mid → Is p (w ∷ u) mid)
    → (b ≡ true → Is p (w ∷ u) (w ∷ u))
    → (feed ps (class_of w) ≡ Some qs → AreAll ps (w ∷ u) k)
    → replaced o ps (if b then feed ps (class_of w) else None) ≡ Some qs → AreAll qs u k → AreAll (p ∷ ps) (w ∷ u) k
feed_case p ps qs w u k (Some rest) b h a later e all =
    let all' : AreAll (rest ++ ps) u k = subst (λ (l : List StackSymbol). AreAll l u k) (sym (some_same e)) all in
    let (mid, front, last) = split_all rest ps u k all' in (mid, h mid front, last)
feed_case p ps qs w u k None true h a later e all = (w ∷ u, a refl, later e)
feed_case p ps qs w u k None false h a later e all = absurd (none_some e)

at_mids : (p : StackSymbol) (w : Term) (o : Option (List StackSymbol)) (u : List Term) → ((k : List Term) → IfSome o (λ rest. AreAll rest u k → Is p (w ∷ u) k)) → IfSome o (λ rest. (mid : List Term) → AreAll rest u mid → Is p (w ∷ u) mid)
at_mids p w None u h = tt
at_mids p w (Some rest) u h = h

-- What is read by what is to come stack_after a word is read, with the word, by what was to come before it.
pub feed_back : (ps qs : List StackSymbol) (w : Term) (u k : List Term) → feed ps (class_of w) ≡ Some qs → AreAll qs u k → AreAll ps (w ∷ u) k
feed_back [] qs w u k e all = absurd (none_some e)
feed_back (p ∷ ps) qs w u k e all = feed_case p ps qs w u k (stack_after p (class_of w)) (may_end p) (at_mids p w (stack_after p (class_of w)) u (back p w u)) (absent p (w ∷ u)) (λ e'. feed_back ps qs w u k e' all) e all

run_case : (ps qs : List StackSymbol) (w : Term) (ws u k : List Term) (o : Option (List StackSymbol)) → feed ps (class_of w) ≡ o
    → ((rs : List StackSymbol) → run rs (classes ws) ≡ Some qs → AreAll rs (ws ++ u) k)
    → option_and_then (λ rs. run rs (classes ws)) o ≡ Some qs → AreAll ps (w ∷ (ws ++ u)) k
run_case ps qs w ws u k None f ih e = absurd (none_some e)
run_case ps qs w ws u k (Some rs) f ih e = feed_back ps rs w (ws ++ u) k f (ih rs e)

pub run_back : (ws : List Term) (ps qs : List StackSymbol) (u k : List Term) → run ps (classes ws) ≡ Some qs → AreAll qs u k → AreAll ps (ws ++ u) k
run_back [] ps qs u k e all = subst (λ (l : List StackSymbol). AreAll l u k) (sym (some_same e)) all
run_back (w ∷ ws) ps qs u k e all = run_case ps qs w ws u k (feed ps (class_of w)) refl (λ rs e'. run_back ws rs qs u k e' all) e

-- words that complete a part
abbrev pub finish : StackSymbol → List Term → List Term
finish Declarations k = k
finish MoreNames k = Semicolon ∷ k
finish OneUnit k = Skip ∷ k
finish MoreUnits k = k
finish OneToken k = Name (97 ∷ []) ∷ k
finish MoreTokens k = k
finish Bound k = k
finish Branch k = Then ∷ Skip ∷ k
finish DeclaredName k = Name (97 ∷ []) ∷ k
finish DeniedName k = Name (97 ∷ []) ∷ k
finish ClashingName k = Name (97 ∷ []) ∷ k
finish LocalName k = Name (97 ∷ []) ∷ k
finish LeastNumber k = Number (pos 0) ∷ k
finish MostNumber k = Number (pos 0) ∷ k
finish ExactNumber k = Number (pos 0) ∷ k
finish DeclaredIntName k = Name (97 ∷ []) ∷ k
finish LocalIntName k = Name (97 ∷ []) ∷ k
finish DomainIn k = In ∷ k
finish LowNumber k = Number (pos 0) ∷ k
finish HighNumber k = Number (pos 0) ∷ k
finish TheRange k = Range ∷ k
finish MoreItems k = Semicolon ∷ k
finish NewKind k = Signal ∷ Name (97 ∷ []) ∷ In ∷ Skip ∷ k
finish TheDo k = Do ∷ k
finish TheWatching k = Watching ∷ k
finish TheOn k = On ∷ k
finish TheIn k = In ∷ k
finish TheClose k = CloseBrace ∷ k
finish EndTell k = k
finish EndBody k = k
finish EndLocal k = k
finish EndWatch k = k
finish EndTimed k = k

finishes : (p : StackSymbol) (k : List Term) → Is p (finish p k) k
finishes Declarations k = λ l p e. (p, e)
finishes MoreNames k = λ x. (LastName x, refl)
finishes OneUnit k = (phrase.Skip, refl)
finishes MoreUnits k = λ u. (Only u, refl)
finishes OneToken k = (phrase.On (97 ∷ []), refl)
finishes MoreTokens k = λ t. (One t, refl)
finishes Bound k = λ x. (phrase.On x, refl)
finishes Branch k = λ c. (IfThen c phrase.Skip, refl)
finishes DeclaredName k = (97 ∷ [], refl)
finishes DeniedName k = (97 ∷ [], refl)
finishes ClashingName k = (97 ∷ [], refl)
finishes LocalName k = (97 ∷ [], refl)
finishes LeastNumber k = (pos 0, refl)
finishes MostNumber k = (pos 0, refl)
finishes ExactNumber k = (pos 0, refl)
finishes DeclaredIntName k = (97 ∷ [], refl)
finishes LocalIntName k = (97 ∷ [], refl)
finishes DomainIn k = refl
finishes LowNumber k = (pos 0, refl)
finishes HighNumber k = (pos 0, refl)
finishes TheRange k = refl
finishes MoreItems k = λ x l h. (LastItem x l h, refl)
finishes NewKind k = (LocalSignal (97 ∷ []) phrase.Skip, refl)
finishes TheDo k = refl
finishes TheWatching k = refl
finishes TheOn k = refl
finishes TheIn k = refl
finishes TheClose k = refl
finishes EndTell k = refl
finishes EndBody k = refl
finishes EndLocal k = refl
finishes EndWatch k = refl
finishes EndTimed k = refl

-- words that complete all that is to come
abbrev pub completion : List StackSymbol → List Term
completion [] = []
completion (p ∷ ps) = finish p (completion ps)

completes : (ps : List StackSymbol) → AreAll ps (completion ps) []
completes [] = refl
completes (p ∷ ps) = (completion ps, finishes p (completion ps), completes ps)

all_absent : (ps : List StackSymbol) → ended ps ≡ true → AreAll ps [] []
all_absent [] e = refl
all_absent (p ∷ ps) e = ([], absent p [] (and_left (may_end p) (ended ps) e), all_absent ps (and_right (may_end p) (ended ps) e))

abbrev HasTerms : List Term → Type 0
HasTerms ws = (p : ProgramPhrase) × (ws ≡ program p [])

only_program : (ws : List Term) → AreAll start ws [] → HasTerms ws
only_program ws (m, decls, (n, (u, eu), (l, more, e))) = let (a, ea) = more u in decls [] (Runs a) (eu ∙ ea ∙ ap (agent a) e)

-- what the machine goes through, with what completes it, is a program
pub run_completed : (ws : List Term) (qs : List StackSymbol) → run start (classes ws) ≡ Some qs → (p : ProgramPhrase) × (ws ++ completion qs ≡ program p [])
run_completed ws qs e = only_program (ws ++ completion qs) (run_back ws start qs (completion qs) [] e (completes qs))

-- where it may end, the words alone are a program
pub run_ended : (ws : List Term) (qs : List StackSymbol) → run start (classes ws) ≡ Some qs → ended qs ≡ true → (p : ProgramPhrase) × (ws ≡ program p [])
run_ended ws qs e h = subst HasTerms (append-nil ws) (only_program (ws ++ []) (run_back ws start qs [] [] e (all_absent qs h)))
