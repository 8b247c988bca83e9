-- Words of which the settings at the front are read, and the rest is still to be read.
use Rattle.std.proofs.Common.{◌≡◌, ℕ, ◌-◌, ◌≤◌, List, [], ◌∷◌, ◌++◌, sym, ◌∙◌, ap, subst, append_assoc, append-nil, length, get_or, take, drop, take_all, map, arith}
use Rattle.command_words.specs.declared.settings.Limits.{Limits}
use Rattle.command_words.specs.declared.settings.Setting.{Setting}
use Rattle.command_words.specs.declared.settings.Settings.{Settings}
use Rattle.command_words.specs.Settings.{AreLimits, AreOnce, AreSettings, IsSetting, KeepsSettings, GiveLimits}
use Rattle.command_words.proofs.OnceSettings.{once_front}
use Rattle.command_words.proofs.SettingWords.{one_setting}

-- these settings are read and kept, and the words are settings where the rest is
pub record IsSplit (words rest : List (List ℕ)) (kept : Settings) : Type 0 where
  pub read : List Setting
  pub keeps : KeepsSettings kept read
  pub joins : (more : List Setting) → AreSettings rest more → AreSettings words (read ++ more)
  pub splits : (all : List Setting) → AreSettings words all → (more : List Setting) × AreSettings rest more × (all ≡ read ++ more)

-- the next setting is the one that the next words are
next_setting : (flag number : List ℕ) (rest : List (List ℕ)) (more : List Setting) (s : Setting) → IsSetting flag number s → AreSettings (flag ∷ number ∷ rest) more → (later : List Setting) × AreSettings rest later × (more ≡ s ∷ later)
next_setting flag number rest [] s is x = elim x [ ]
next_setting flag number rest (t ∷ later) s is x = (later, x.1, ap (λ a. a ∷ later) (one_setting flag number t s x.0 is))

-- what all settings are, where the next is this one
all_next : (words rest : List (List ℕ)) (flag number : List ℕ) (kept : Settings) (s : Setting) (all : List Setting) → (x : IsSplit words (flag ∷ number ∷ rest) kept) → IsSetting flag number s → AreSettings words all → (later : List Setting) × AreSettings rest later × (all ≡ (x.read ++ s ∷ []) ++ later)
all_next words rest flag number kept s all x is are =
    let more = x.splits all are in
    let next = next_setting flag number rest more.0 s is more.1 in
    (next.0, next.1, more.2 ∙ ap (λ ts. x.read ++ ts) next.2 ∙ sym (append_assoc x.read (s ∷ []) next.0))

-- one more setting is read
one_more_read : (words rest : List (List ℕ)) (flag number : List ℕ) (kept more : Settings) (s : Setting) → (x : IsSplit words (flag ∷ number ∷ rest) kept) → IsSetting flag number s → KeepsSettings more (x.read ++ s ∷ []) → IsSplit words rest more
one_more_read words rest flag number kept more s x is keeps = record {
  read = x.read ++ s ∷ [];
  keeps = keeps;
  joins = λ ts are. rw append_assoc (x.joins (s ∷ ts) (is, are));
  splits = λ all are. all_next words rest flag number kept s all x is are;
}

-- the next setting would be the second of its kind
second_refused : (words rest : List (List ℕ)) (flag number : List ℕ) (kept : Settings) (s : Setting) → (x : IsSplit words (flag ∷ number ∷ rest) kept) → IsSetting flag number s → (AreOnce (x.read ++ s ∷ []) → ⊥) → (limits : Limits) → GiveLimits words limits → ⊥
second_refused words rest flag number kept s x is twice limits gives =
    let all = all_next words rest flag number kept s gives.settings x is gives.are in
    twice (once_front (x.read ++ s ∷ []) all.0 (subst AreOnce all.2 gives.once))

-- the first two, and the slice behind them
first_two : {X : Type 0} (xs : List X) (a b : X) → 2 ≤ length xs → a ≡ get_or xs 0 a → b ≡ get_or xs 1 b → xs ≡ a ∷ b ∷ take (length xs - 2) (drop 2 xs)
first_two (x ∷ y ∷ xs) a b long e e' =
    let rest : take (length (x ∷ y ∷ xs) - 2) xs ≡ xs = take_all (length (x ∷ y ∷ xs) - 2) xs (omega arith) in
    ap (λ a. a ∷ y ∷ xs) (sym e) ∙ ap (λ b. a ∷ b ∷ xs) (sym e') ∙ ap (λ ws. a ∷ b ∷ ws) (sym rest)
first_two _ a b long e e' = absurd (omega arith)

module _ {X : Type 0} (text : X → List ℕ) where
  -- the next two words are read
  pub two_read : (words : List (List ℕ)) (rest : List X) (flag number : X) (kept more : Settings) (s : Setting) → 2 ≤ length rest → flag ≡ get_or rest 0 flag → number ≡ get_or rest 1 number
      → IsSplit words (map text rest) kept → IsSetting (text flag) (text number) s → ((ss : List Setting) → KeepsSettings kept ss → KeepsSettings more (ss ++ s ∷ [])) → IsSplit words (map text (take (length rest - 2) (drop 2 rest))) more
  two_read words rest flag number kept more s long first second x is keeps =
      let x' = subst (λ (ws : List X). IsSplit words (map text ws) kept) (first_two rest flag number long first second) x in
      one_more_read words (map text (take (length rest - 2) (drop 2 rest))) (text flag) (text number) kept more s x' is (keeps x'.read x'.keeps)

  -- and are the second setting of a kind
  pub two_refused : (words : List (List ℕ)) (rest : List X) (flag number : X) (kept : Settings) (s : Setting) → 2 ≤ length rest → flag ≡ get_or rest 0 flag → number ≡ get_or rest 1 number
      → IsSplit words (map text rest) kept → IsSetting (text flag) (text number) s → ((ss : List Setting) → KeepsSettings kept ss → AreOnce (ss ++ s ∷ []) → ⊥) → (limits : Limits) → GiveLimits words limits → ⊥
  two_refused words rest flag number kept s long first second x is twice =
      let x' = subst (λ (ws : List X). IsSplit words (map text ws) kept) (first_two rest flag number long first second) x in
      second_refused words (map text (take (length rest - 2) (drop 2 rest))) (text flag) (text number) kept s x' is (twice x'.read x'.keeps)

  -- nothing is left to read
  pub all_read : (words : List (List ℕ)) (rest : List X) (kept : Settings) (limits : Limits) → length rest ≡ 0 → IsSplit words (map text rest) kept → ((ss : List Setting) → KeepsSettings kept ss → AreLimits ss limits) → GiveLimits words limits
  all_read words [] kept limits none x left = record {
    settings = x.read;
    are = subst (AreSettings words) (append-nil x.read) (x.joins [] tt);
    once = x.keeps.once;
    left = left x.read x.keeps;
  }
  all_read words (_ ∷ _) kept limits none x left = absurd (omega arith)
