-- Words with another number of workers, or with none.
use Rattle.std.proofs.Common.{◌≡◌, ◌≢◌, ℕ, ◌⊎◌, List, [], ◌∷◌, ◌++◌, codes, arith, sym, refl, ap, subst, inl, inr, append-nil}
use Rattle.std.specs.List.{Contains}
use Rattle.std.proofs.lemmas.List.{map-append}
use Rattle.std.proofs.lemmas.List.Elements.{Contains-append_left, Contains-append_right, Contains-append_cases, Contains-push_cases}
use Rattle.command_words.specs.declared.command.Command.{Command}
use Rattle.command_words.specs.declared.command.Command.TheVariants.{Run, Report, Check, Core, Generate}
use Rattle.command_words.specs.declared.settings.Limits.{Limits}
use Rattle.command_words.specs.declared.settings.Setting.{Setting}
use Rattle.command_words.specs.declared.settings.Setting.TheVariants.{Workers, Fuel, Net}
use Rattle.command_words.specs.Limits.{default_fuel, default_net}
use Rattle.command_words.specs.Settings.{AreLimits, AreOnce, AreSettings, IsLimit, IsNumber, IsSetting, GiveLimits, flag_of}
use Rattle.command_words.specs.Words.{CallAlike, IsCommand, IsWithLimits, IsWithLines, MaySetWorkers, SetsWorkers}
use Rattle.command_words.proofs.OnceSettings.{once_flags, once_without}
use Rattle.command_words.proofs.SettingWords.{between, flag_no_number, joined, no_more, pair_of}
use Rattle.command_words.proofs.CommandWords.{first_word, one_command, word_of}

-- no setting, or one of workers
abbrev pub AtMostWorkers : List Setting → Type 0
AtMostWorkers us = (us ≡ []) ⊎ ((k : ℕ) × (us ≡ Workers k ∷ []))

-- SETTINGS: between two lists of them, one of workers gives way to none or another

-- nothing is in an empty list
none_in_empty : (x : Setting) → Contains [] x → ⊥
none_in_empty x (k, within, at) = omega arith

-- no other setting is among them
no_other : (us : List Setting) (x : Setting) → AtMostWorkers us → ((k : ℕ) → x ≢ Workers k) → Contains us x → ⊥
no_other us x (inl e) other at = none_in_empty x (subst (λ (ws : List Setting). Contains ws x) e at)
no_other us x (inr (k, e)) other at = elim (Contains-push_cases [] (Workers k) x (subst (λ (ws : List Setting). Contains ws x) e at)) [ inl h ↦ none_in_empty x h | inr h ↦ other k (sym h) ]

module _ (before behind : List Setting) where
  -- every other setting stays
  others_stay : (us ts : List Setting) (x : Setting) → AtMostWorkers us → ((k : ℕ) → x ≢ Workers k) → Contains ((before ++ us) ++ behind) x → Contains ((before ++ ts) ++ behind) x
  others_stay us ts x most other at = elim (Contains-append_cases (before ++ us) behind x at) [
    | inl front ↦ elim (Contains-append_cases before us x front) [
      | inl h ↦ Contains-append_left (before ++ ts) behind x (Contains-append_left before ts x h)
      | inr h ↦ absurd (no_other us x most other h)
    ]
    | inr h ↦ Contains-append_right (before ++ ts) behind x h
  ]

  -- so each limit does
  limit_stays : (us ts : List Setting) (set : ℕ → Setting) (default n : ℕ) → AtMostWorkers us → AtMostWorkers ts → ((m k : ℕ) → set m ≢ Workers k) → IsLimit ((before ++ us) ++ behind) set default n → IsLimit ((before ++ ts) ++ behind) set default n
  limit_stays us ts set default n most most' other x = record {
    given = λ k at. x.given k (others_stay ts us (set k) most' (other k) at);
    else_default = λ none. x.else_default (λ k at. none k (others_stay us ts (set k) most (other k) at));
  }

  -- and still no two are of one kind
  once_stays : (us : List Setting) (n : ℕ) → AtMostWorkers us → AreOnce ((before ++ Workers n ∷ []) ++ behind) → AreOnce ((before ++ us) ++ behind)
  once_stays us n (inl e) once = subst (λ (ws : List Setting). AreOnce ((before ++ ws) ++ behind)) (sym e) (rw append-nil (once_without before behind (Workers n) once))
  once_stays us n (inr (k, e)) once = subst (λ (ws : List Setting). AreOnce ((before ++ ws) ++ behind)) (sym e)
      (once_flags ((before ++ Workers n ∷ []) ++ behind) ((before ++ Workers k ∷ []) ++ behind) (simp map-append) once)

-- WORDS: the same between words

-- a flag is no command
no_flag : (command : Command) → word_of command ≢ codes "--workers"
no_flag (Run _) e = cc
no_flag (Report _) e = cc
no_flag Check e = cc
no_flag Core e = cc
no_flag (Generate _) e = cc

-- the words of no setting, or of one of workers, may set the workers
may_set : (words : List (List ℕ)) (us : List Setting) → AtMostWorkers us → AreSettings words us → MaySetWorkers words
may_set words us (inr (k, e)) are = inr (k, subst (AreSettings words) e are)
may_set [] us (inl e) are = inl refl
may_set (word ∷ words) us (inl e) are = absurd (no_more word words (subst (AreSettings (word ∷ words)) e are))

module _ (more others : List (List ℕ)) (flag number : List ℕ) (n : ℕ) (us : List Setting) (most : AtMostWorkers us) (is : IsSetting flag number (Workers n)) (are : AreSettings others us) where
  -- the limits stay
  gives_same : (front : List (List ℕ)) (limits : Limits) → GiveLimits ((front ++ flag ∷ number ∷ []) ++ more) limits → GiveLimits ((front ++ others) ++ more) limits
  gives_same front limits gives =
      let b = between front more flag number (Workers n) gives.settings is gives.are in
      let left : AreLimits ((b.before ++ Workers n ∷ []) ++ b.behind) limits = subst (λ (ss : List Setting). AreLimits ss limits) b.all_is gives.left in
      let set : AtMostWorkers (Workers n ∷ []) = inr (n, refl) in
      record {
        settings = (b.before ++ us) ++ b.behind;
        are = joined (front ++ others) more (b.before ++ us) b.behind (joined front others b.before us b.are_before are) b.are_behind;
        once = once_stays b.before b.behind us n most (subst AreOnce b.all_is gives.once);
        left = record {
          fuel = limit_stays b.before b.behind (Workers n ∷ []) us Fuel default_fuel limits.fuel set most (λ m k e. cc) left.fuel;
          net = limit_stays b.before b.behind (Workers n ∷ []) us Net default_net limits.net set most (λ m k e. cc) left.net;
        };
      }

  -- behind the word of a command too
  with_same : (word first : List ℕ) (front : List (List ℕ)) (limits : Limits) → IsWithLimits word (first ∷ ((front ++ flag ∷ number ∷ []) ++ more)) limits → IsWithLimits word (first ∷ ((front ++ others) ++ more)) limits
  with_same word first front limits x =
      let behind : x.more ≡ (front ++ flag ∷ number ∷ []) ++ more = cc in
      record {
        more = (front ++ others) ++ more;
        first = ap (λ w. w ∷ ((front ++ others) ++ more)) (let h : first ≡ word = cc in h);
        given = gives_same front limits (subst (λ (ws : List (List ℕ)). GiveLimits ws limits) behind x.given);
      }

  -- the words are not empty
  not_empty : (front : List (List ℕ)) → ((front ++ flag ∷ number ∷ []) ++ more) ≢ []
  not_empty [] e = cc
  not_empty (_ ∷ _) e = cc

  -- words that may set the workers are these alone, and so may the others
  may_same : (front : List (List ℕ)) → MaySetWorkers ((front ++ flag ∷ number ∷ []) ++ more) → MaySetWorkers ((front ++ others) ++ more)
  may_same front (inl e) = absurd (not_empty front e)
  may_same [] (inr (k, set)) =
      let pair = pair_of (flag ∷ number ∷ more) (Workers k) set in
      let none : [] ≡ more = let words_are = pair.words_are in cc in
      subst (λ (ws : List (List ℕ)). MaySetWorkers (others ++ ws)) none (rw append-nil (may_set others us most are))
  may_same (w ∷ []) (inr (k, set)) =
      let pair = pair_of (w ∷ flag ∷ number ∷ more) (Workers k) set in
      let words_are = pair.words_are in
      absurd (cc)
  may_same (w ∷ v ∷ front) (inr (k, set)) =
      let pair = pair_of (w ∷ v ∷ ((front ++ flag ∷ number ∷ []) ++ more)) (Workers k) set in
      let words_are = pair.words_are in
      absurd (not_empty front (let h : (front ++ flag ∷ number ∷ []) ++ more ≡ [] = cc in h))

  -- so the number of lines stays: the words that set the workers stand behind it
  lines_same : (first : List ℕ) (front : List (List ℕ)) (lines : ℕ) → IsWithLines (first ∷ ((front ++ flag ∷ number ∷ []) ++ more)) lines → IsWithLines (first ∷ ((front ++ others) ++ more)) lines
  lines_same first [] lines x =
      let at : x.number ≡ flag_of (Workers n) = let flag_is = is.is in cc in
      absurd (flag_no_number (Workers n) lines (subst (λ word. IsNumber word lines) at x.writes))
  lines_same first (w ∷ front) lines x =
      let behind : x.more ≡ (front ++ flag ∷ number ∷ []) ++ more = cc in
      record {
        number = w;
        more = (front ++ others) ++ more;
        first = ap (λ f. f ∷ w ∷ ((front ++ others) ++ more)) (let h : first ≡ codes "gen" = cc in h);
        writes = subst (λ word. IsNumber word lines) (let h : x.number ≡ w = cc in h) x.writes;
        allowed = x.allowed;
        workers = may_same front (subst MaySetWorkers behind x.workers);
      }

  -- the command stays
  calls_same : (front : List (List ℕ)) (command : Command) → IsCommand command ((front ++ flag ∷ number ∷ []) ++ more) → IsCommand command ((front ++ others) ++ more)
  calls_same (w ∷ front) (Run limits) x = with_same (codes "run") w front limits x
  calls_same (w ∷ front) (Report limits) x = with_same (codes "report") w front limits x
  calls_same (w ∷ front) (Generate lines) x = lines_same w front lines x
  calls_same (w ∷ front) Check x = absurd (not_empty front (let h : (front ++ flag ∷ number ∷ []) ++ more ≡ [] = cc in h))
  calls_same (w ∷ front) Core x = absurd (not_empty front (let h : (front ++ flag ∷ number ∷ []) ++ more ≡ [] = cc in h))
  calls_same [] command x =
      let p = first_word command (flag ∷ number ∷ more) x in
      let flag_is = is.is in
      absurd (no_flag command (cc))

-- words that set workers call what they call with other words in their place, which are other workers or none
calls_with : (front more workers others : List (List ℕ)) (us : List Setting) → AtMostWorkers us → SetsWorkers workers → AreSettings others us → (command : Command) → IsCommand command ((front ++ workers) ++ more) → IsCommand command ((front ++ others) ++ more)
calls_with front more workers others us most (n, set) are command x =
    let pair = pair_of workers (Workers n) set in
    calls_same more others pair.flag pair.number n us most pair.is are front command (subst (λ (ws : List (List ℕ)). IsCommand command ((front ++ ws) ++ more)) pair.words_are x)

-- another number of workers
pub number_alike : (front more workers others : List (List ℕ)) → SetsWorkers workers → SetsWorkers others → CallAlike ((front ++ workers) ++ more) ((front ++ others) ++ more)
number_alike front more workers others x y command = (
  calls_with front more workers others (Workers y.0 ∷ []) (inr (y.0, refl)) x y.1 command,
  calls_with front more others workers (Workers x.0 ∷ []) (inr (x.0, refl)) y x.1 command,
)

-- no number of workers
pub left_out_alike : (front more workers : List (List ℕ)) (command : Command) → SetsWorkers workers → IsCommand command ((front ++ workers) ++ more) → CallAlike ((front ++ workers) ++ more) (front ++ more)
left_out_alike front more workers command set called other =
    let without : (c : Command) → IsCommand c ((front ++ workers) ++ more) → IsCommand c (front ++ more) =
    λ c x. subst (λ (ws : List (List ℕ)). IsCommand c (ws ++ more)) (append-nil front) (calls_with front more workers [] [] (inl refl) set tt c x) in
    (without other, λ x. subst (λ (c : Command). IsCommand c ((front ++ workers) ++ more)) (one_command (front ++ more) command other (without command called) x) called)
