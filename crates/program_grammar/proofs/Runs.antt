-- The machine over a list of words in two parts, and over one word more.
use Rattle.std.proofs.Common.{◌≡◌, ℕ, ◌+◌, ◌<◌, List, [], ◌∷◌, ◌++◌, reverse, take, drop, length, Option, Some, None, Bool, true, false, get_or, suc, add-one, append_assoc, refl, ap, sym, ◌∙◌}
use Rattle.std.specs.Prelude.{option_and_then, ◌&&◌, if◌then◌else◌}
use Rattle.std.specs.List.{list_all}
use Rattle.std.proofs.lemmas.List.{take_more, reverse-append}
use Rattle.std.proofs.lemmas.List.Folds.{list_all-append}
use Rattle.std.proofs.Math.Seq.{drop-cons}
use Rattle.program_grammar.specs.declared.words.Language.{Language}
use Rattle.program_grammar.specs.declared.words.Word.{Word}
use Rattle.program_grammar.specs.declared.stack_symbols.StackSymbol.{StackSymbol}
use Rattle.program_grammar.specs.declared.machine.Step.{Step}
use Rattle.program_grammar.specs.Machine.{permits, feed, feed_in, run, run_in, word_steps, with_some, trace}

and_then_assoc : {A B C : Type 0} (f : A → Option B) (g : B → Option C) (o : Option A) → option_and_then g (option_and_then f o) ≡ option_and_then (λ a. option_and_then g (f a)) o
and_then_assoc f g None = refl
and_then_assoc f g (Some a) = refl

and_then_same : {A B : Type 0} (f g : A → Option B) (o : Option A) → ((a : A) → f a ≡ g a) → option_and_then f o ≡ option_and_then g o
and_then_same f g None h = refl
and_then_same f g (Some a) h = h a

pub run-append : (xs ys : List Word) (ps : List StackSymbol) → run ps (xs ++ ys) ≡ option_and_then (λ qs. run qs ys) (run ps xs)
run-append [] ys ps = refl
run-append (x ∷ xs) ys ps = and_then_same (λ qs. run qs (xs ++ ys)) (λ qs. option_and_then (λ rs. run rs ys) (run qs xs)) (feed ps x) (λ qs. run-append xs ys qs) ∙ sym (and_then_assoc (λ qs. run qs xs) (λ rs. run rs ys) (feed ps x))

run_one : (ps : List StackSymbol) (x : Word) → run ps (x ∷ []) ≡ feed ps x
run_one ps x = go (feed ps x)
  where
    go : (o : Option (List StackSymbol)) → option_and_then (λ qs. run qs []) o ≡ o
    go None = refl
    go (Some qs) = refl

-- what the machine goes through in a language is the language's
pub run_in_run : (l : Language) (ws : List Word) (ps qs : List StackSymbol) → run_in l ps ws ≡ Some qs → (list_all (permits l) ws ≡ true) × (run ps ws ≡ Some qs)
run_in_run l ws ps qs e = go (list_all (permits l) ws) refl e
  where
    go : (b : Bool) → list_all (permits l) ws ≡ b → (if b then run ps ws else None) ≡ Some qs → (list_all (permits l) ws ≡ true) × (run ps ws ≡ Some qs)
    go true h e = (h, e)
    go false h e = cc

pub run_in-permitted : (l : Language) (ws : List Word) (ps : List StackSymbol) → list_all (permits l) ws ≡ true → run_in l ps ws ≡ run ps ws
run_in-permitted l ws ps h = ap (λ b. if b then run ps ws else None) h

feed_in_feed : (l : Language) (ps qs : List StackSymbol) (w : Word) → feed_in l ps w ≡ Some qs → feed ps w ≡ Some qs
feed_in_feed l ps qs w e = go (permits l w) e
  where
    go : (b : Bool) → (if b then feed ps w else None) ≡ Some qs → feed ps w ≡ Some qs
    go true e = e
    go false e = cc

-- one word more, which the language has or not
pub run_more : (l : Language) (ws : List Word) (i : ℕ) (d : Word) (ps qs : List StackSymbol) → i < length ws → run_in l ps (take i ws) ≡ Some qs
    → run_in l ps (take (i + 1) ws) ≡ feed_in l qs (get_or ws i d)
run_more l ws i d ps qs h e =
    let (permitted, goes) = run_in_run l (take i ws) ps qs e in
    ap (run_in l ps) (take_more ws i d h) ∙ ap (λ b. if b then run ps (take i ws ++ get_or ws i d ∷ []) else None) (list_all-append (permits l) (take i ws) (get_or ws i d ∷ []) ∙ ap (λ b. b && (permits l (get_or ws i d) && true)) permitted)
    ∙ go (permits l (get_or ws i d)) goes
  where
    go : (b : Bool) → run ps (take i ws) ≡ Some qs → (if b && true then run ps (take i ws ++ get_or ws i d ∷ []) else None) ≡ (if b then feed qs (get_or ws i d) else None)
    go true goes = run-append (take i ws) (get_or ws i d ∷ []) ps ∙ ap (option_and_then (λ rs. run rs (get_or ws i d ∷ []))) goes ∙ run_one qs (get_or ws i d)
    go false goes = refl

and_comm : (a b : Bool) → (a && b) ≡ (b && a)
and_comm true true = refl
and_comm true false = refl
and_comm false true = refl
and_comm false false = refl

pub list_all-reverse : {X : Type 0} (p : X → Bool) (xs : List X) → list_all p (reverse xs) ≡ list_all p xs
list_all-reverse p [] = refl
list_all-reverse p (x ∷ xs) = ap (list_all p) (reverse-append (x ∷ []) xs) ∙ list_all-append p (reverse xs) (x ∷ []) ∙ and_comm (list_all p (reverse xs)) (list_all p (x ∷ [])) ∙ ap (λ b. (p x && true) && b) (list_all-reverse p xs) ∙ ap (λ b. b && list_all p xs) (and_comm (p x) true)

-- the steps of one word more
pub trace_more : (l : Language) (ws : List Word) (i : ℕ) (d : Word) (qs rs : List StackSymbol) (all done done' : List Step) → i < length ws → all ≡ done ++ trace qs i (drop i ws) → feed_in l qs (get_or ws i d) ≡ Some rs
    → done' ≡ done ++ word_steps qs i (get_or ws i d) → all ≡ done' ++ trace rs (i + 1) (drop (i + 1) ws)
trace_more l ws i d qs rs all done done' h e f g =
    e ∙ ap (λ l. done ++ trace qs i l) (drop-cons ws i d h)
    ∙ ap (λ o. done ++ (word_steps qs i (get_or ws i d) ++ with_some o (λ ps. trace ps (suc i) (drop (suc i) ws)))) (feed_in_feed l qs rs (get_or ws i d) f)
    ∙ sym (append_assoc done (word_steps qs i (get_or ws i d)) (trace rs (suc i) (drop (suc i) ws)))
    ∙ ap (λ l. l ++ trace rs (suc i) (drop (suc i) ws)) (sym g)
    ∙ ap (λ n. done' ++ trace rs n (drop n ws)) (sym (add-one i))
