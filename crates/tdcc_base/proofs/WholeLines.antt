-- Whole lines stand before other bytes as they stand alone.
use Rattle.std.proofs.Common.{◌≡◌, ◌≢◌, ℕ, Bool, true, false, cond, List, [], ◌∷◌, ◌++◌, All, refl, sym, ap, ◌∙◌, subst, inl, inr}
use Rattle.std.specs.Prelude.{◌==◌, ◌&&◌}
use Rattle.std.proofs.lemmas.List.Elements.{All-head, All-tail}
use Rattle.tdcc_base.specs.Lines.{first_line, lines_of, onto_first}
use Rattle.tdcc_base.specs.Texts.{is_mark, HasNoMark, AreWholeLines, behind, split_from}
use Rattle.tdcc_base.proofs.Splits.{at_mark}

-- no bytes, or the last of them is a line feed
abbrev pub Whole : List ℕ → Type 0
Whole [] = Unit {0}
Whole (b ∷ []) = b ≡ 10
Whole (b ∷ c ∷ bytes) = Whole (c ∷ bytes)

pub whole_of : (bytes : List ℕ) → AreWholeLines bytes → Whole bytes
whole_of bytes w = elim w [ inl e ↦ subst Whole (sym e) tt | inr p ↦ subst Whole (sym p.1) (ends_so p.0) ]
  where
    ends_so : (front : List ℕ) → Whole (front ++ 10 ∷ [])
    ends_so [] = refl
    ends_so (x ∷ []) = refl
    ends_so (x ∷ y ∷ front) = ends_so (y ∷ front)

onto_first-append : (e : Bool) (b : ℕ) (ms ns : List (List ℕ)) → ms ≢ [] → cond e ([] ∷ (ms ++ ns)) (onto_first b (ms ++ ns)) ≡ cond e ([] ∷ ms) (onto_first b ms) ++ ns
onto_first-append true b ms ns some = refl
onto_first-append false b [] ns some = absurd (some refl)
onto_first-append false b (m ∷ ms) ns some = refl

some_line : (b : ℕ) (bytes : List ℕ) → lines_of (b ∷ bytes) ≢ []
some_line b bytes = go (b == 10) (lines_of bytes)
  where
    go : (e : Bool) (ls : List (List ℕ)) → cond e ([] ∷ ls) (onto_first b ls) ≢ []
    go true ls h = absurd (cc)
    go false [] h = absurd (cc)
    go false (l ∷ ls) h = absurd (cc)

-- the lines of whole lines, and then those of the rest
pub lines_of-whole : (bytes tail : List ℕ) → Whole bytes → lines_of (bytes ++ tail) ≡ lines_of bytes ++ lines_of tail
lines_of-whole [] tail w = refl
lines_of-whole (b ∷ []) tail w = subst (λ (x : ℕ). lines_of (x ∷ tail) ≡ lines_of (x ∷ []) ++ lines_of tail) (sym w) refl
lines_of-whole (b ∷ c ∷ bytes) tail w =
    ap (λ ls. cond (b == 10) ([] ∷ ls) (onto_first b ls)) (lines_of-whole (c ∷ bytes) tail w)
    ∙ onto_first-append (b == 10) b (lines_of (c ∷ bytes)) (lines_of tail) (some_line c bytes)

first_line-whole : (b : ℕ) (bytes tail : List ℕ) → Whole (b ∷ bytes) → first_line (b ∷ bytes ++ tail) ≡ first_line (b ∷ bytes)
first_line-whole b [] tail w = subst (λ (x : ℕ). first_line (x ∷ tail) ≡ first_line (x ∷ [])) (sym w) refl
first_line-whole b (c ∷ bytes) tail w = ap (λ xs. cond (b == 10) [] (b ∷ xs)) (first_line-whole c bytes tail w)

-- the lines behind the first
abbrev pub rest_of : List (List ℕ) → List (List ℕ)
rest_of [] = []
rest_of (l ∷ ls) = ls

lines_of-cons : (b : ℕ) (bytes : List ℕ) → lines_of (b ∷ bytes) ≡ first_line (b ∷ bytes) ∷ rest_of (lines_of (b ∷ bytes))
lines_of-cons b [] = one (b == 10)
  where
    one : (e : Bool) → cond e ([] ∷ []) ((b ∷ []) ∷ []) ≡ cond e [] (b ∷ []) ∷ rest_of (cond e ([] ∷ []) ((b ∷ []) ∷ []))
    one true = refl
    one false = refl
lines_of-cons b (c ∷ bytes) = go (b == 10) (lines_of (c ∷ bytes)) (first_line (c ∷ bytes)) (lines_of-cons c bytes)
  where
    go : (e : Bool) (ls : List (List ℕ)) (line : List ℕ) → ls ≡ line ∷ rest_of ls → cond e ([] ∷ ls) (onto_first b ls) ≡ cond e [] (b ∷ line) ∷ rest_of (cond e ([] ∷ ls) (onto_first b ls))
    go true ls line h = refl
    go false ls line h = subst (λ (ks : List (List ℕ)). onto_first b ks ≡ (b ∷ line) ∷ rest_of (onto_first b ks)) (sym h) refl

-- no line is a mark, or, within a line, none behind it
abbrev pub NoMarks : Bool → List ℕ → Type 0
NoMarks true bytes = HasNoMark bytes
NoMarks false bytes = All (λ line. is_mark line ≡ false) (rest_of (lines_of bytes))

NoMarks-rest : (start : Bool) (b : ℕ) (bytes : List ℕ) → NoMarks start (b ∷ bytes) → All (λ line. is_mark line ≡ false) (rest_of (lines_of (b ∷ bytes)))
NoMarks-rest false b bytes h = h
NoMarks-rest true b bytes h =
    All-tail (λ line. is_mark line ≡ false) (first_line (b ∷ bytes)) (rest_of (lines_of (b ∷ bytes))) (subst (All (λ line. is_mark line ≡ false)) (lines_of-cons b bytes) h)

NoMarks-next : (start : Bool) (b : ℕ) (bytes : List ℕ) → NoMarks start (b ∷ bytes) → NoMarks (b == 10) bytes
NoMarks-next start b bytes h = go (b == 10) (NoMarks-rest start b bytes h)
  where
    onto : (ls : List (List ℕ)) → All (λ line. is_mark line ≡ false) (rest_of (onto_first b ls)) → All (λ line. is_mark line ≡ false) (rest_of ls)
    onto [] k = k
    onto (l ∷ ls) k = k

    go : (e : Bool) → All (λ line. is_mark line ≡ false) (rest_of (cond e ([] ∷ lines_of bytes) (onto_first b (lines_of bytes)))) → NoMarks e bytes
    go true k = k
    go false k = onto (lines_of bytes) k

not_at_mark : (start : Bool) (b : ℕ) (bytes tail : List ℕ) → Whole (b ∷ bytes) → NoMarks start (b ∷ bytes) → (start && is_mark (first_line (b ∷ bytes ++ tail))) ≡ false
not_at_mark false b bytes tail w h = refl
not_at_mark true b bytes tail w h =
    ap is_mark (first_line-whole b bytes tail w)
    ∙ All-head (λ line. is_mark line ≡ false) (first_line (b ∷ bytes)) (rest_of (lines_of (b ∷ bytes))) (subst (All (λ line. is_mark line ≡ false)) (lines_of-cons b bytes) h)

whole_split : (start : Bool) (b : ℕ) (bytes tail : List ℕ) → Whole (b ∷ bytes) → NoMarks start (b ∷ bytes) → split_from start (b ∷ bytes ++ tail) ≡ behind (b ∷ bytes) (split_from true tail)
whole_split start b [] tail w h =
    ap (λ c. cond c (at_mark (b ∷ tail)) (behind (b ∷ []) (split_from (b == 10) tail))) (not_at_mark start b [] tail w h)
    ∙ subst (λ (x : ℕ). behind (x ∷ []) (split_from (x == 10) tail) ≡ behind (x ∷ []) (split_from true tail)) (sym w) refl
whole_split start b (c ∷ bytes) tail w h =
    ap (λ e. cond e (at_mark (b ∷ c ∷ bytes ++ tail)) (behind (b ∷ []) (split_from (b == 10) (c ∷ bytes ++ tail)))) (not_at_mark start b (c ∷ bytes) tail w h)
    ∙ ap (behind (b ∷ [])) (whole_split (b == 10) c bytes tail w (NoMarks-next start b (c ∷ bytes) h))

-- whole lines of which none is a mark are text, whatever follows them
pub split_from-whole : (lines tail : List ℕ) → AreWholeLines lines → HasNoMark lines → split_from true (lines ++ tail) ≡ behind lines (split_from true tail)
split_from-whole [] tail w h = refl
split_from-whole (b ∷ lines) tail w h = whole_split true b lines tail (whole_of (b ∷ lines) w) h
