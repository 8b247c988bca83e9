-- Words that are settings.
use Rattle.std.proofs.Common.{◌≡◌, ℕ, List, [], ◌∷◌, ◌++◌, arith, sym, ◌∙◌, refl, ap, subst}
use Rattle.command_words.specs.declared.settings.Setting.{Setting}
use Rattle.command_words.specs.declared.settings.Setting.TheVariants.{Workers, Fuel, Net}
use Rattle.command_words.specs.Settings.{AreSettings, IsNumber, IsSetting, flag_of, number_in}

-- a setting is its flag and its number
pub one_by_flag : (a b : Setting) → flag_of a ≡ flag_of b → number_in a ≡ number_in b → a ≡ b
one_by_flag (Workers m) (Workers n) flags numbers = ap Workers numbers
one_by_flag (Fuel m) (Fuel n) flags numbers = ap Fuel numbers
one_by_flag (Net m) (Net n) flags numbers = ap Net numbers
one_by_flag _ _ flags _ = absurd (cc)

-- two words are one setting
pub one_setting : (flag number : List ℕ) (a b : Setting) → IsSetting flag number a → IsSetting flag number b → a ≡ b
one_setting flag number a b x y = one_by_flag a b (sym x.is ∙ y.is) (x.writes.value ∙ sym y.writes.value)

-- words are one list of settings
pub one_list : (words : List (List ℕ)) (ss ts : List Setting) → AreSettings words ss → AreSettings words ts → ss ≡ ts
one_list [] [] [] x y = refl
one_list (flag ∷ number ∷ words) (s ∷ ss) (t ∷ ts) x y = ap (λ a. a ∷ ss) (one_setting flag number s t x.0 y.0) ∙ ap (λ more. t ∷ more) (one_list words ss ts x.1 y.1)
one_list _ _ _ x y = absurd (assumption)

-- where no setting is left, no word is
pub no_more : (word : List ℕ) (words : List (List ℕ)) → AreSettings (word ∷ words) [] → ⊥
no_more word [] x = x
no_more word (_ ∷ _) x = x

-- the words of one setting are two
pub record IsPair (words : List (List ℕ)) (s : Setting) : Type 0 where
  pub flag : List ℕ
  pub number : List ℕ
  pub words_are : words ≡ flag ∷ number ∷ []
  pub is : IsSetting flag number s

pub pair_of : (words : List (List ℕ)) (s : Setting) → AreSettings words (s ∷ []) → IsPair words s
pair_of (f ∷ n ∷ []) s x = record { flag = f; number = n; words_are = refl; is = x.0 }
pair_of (f ∷ n ∷ word ∷ words) s x = absurd (no_more word words x.1)
pair_of _ s x = absurd (assumption)

-- a flag is no number
pub flag_no_number : (s : Setting) (n : ℕ) → IsNumber (flag_of s) n → ⊥
flag_no_number (Workers _) n x = let h = x.digits.1.0 in omega arith
flag_no_number (Fuel _) n x = let h = x.digits.1.0 in omega arith
flag_no_number (Net _) n x = let h = x.digits.1.0 in omega arith

-- settings behind settings
pub joined : (front more : List (List ℕ)) (ss ts : List Setting) → AreSettings front ss → AreSettings more ts → AreSettings (front ++ more) (ss ++ ts)
joined [] more [] ts x y = y
joined (flag ∷ number ∷ front) more (s ∷ ss) ts x y = (x.0, joined front more ss ts x.1 y)
joined _ _ _ _ x y = absurd (grind arith)

-- where settings have a setting in their words, it is one of them, between two lists of settings
pub record IsBetween (front more : List (List ℕ)) (s : Setting) (all : List Setting) : Type 0 where
  pub before : List Setting
  pub behind : List Setting
  pub are_before : AreSettings front before
  pub are_behind : AreSettings more behind
  pub all_is : all ≡ (before ++ s ∷ []) ++ behind

pub between : (front more : List (List ℕ)) (flag number : List ℕ) (s : Setting) (all : List Setting) → IsSetting flag number s → AreSettings ((front ++ flag ∷ number ∷ []) ++ more) all → IsBetween front more s all
between [] more flag number s (t ∷ ts) is x = record {
  before = [];
  behind = ts;
  are_before = tt;
  are_behind = x.1;
  all_is = ap (λ a. a ∷ ts) (one_setting flag number t s x.0 is);
}
between (a ∷ []) more flag number s (t ∷ ts) is x = absurd (flag_no_number s (number_in t) (subst (λ w. IsNumber w (number_in t)) is.is x.0.writes))
between (a ∷ b ∷ front) more flag number s (t ∷ ts) is x =
    let deeper = between front more flag number s ts is x.1 in
    record {
      before = t ∷ deeper.before;
      behind = deeper.behind;
      are_before = (x.0, deeper.are_before);
      are_behind = deeper.are_behind;
      all_is = ap (λ all. t ∷ all) deeper.all_is;
    }
between _ _ _ _ _ _ is x = absurd (assumption)
