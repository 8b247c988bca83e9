-- The numbers that are kept while settings are read.
use Rattle.std.proofs.Common.{◌≡◌, ◌≢◌, ℕ, List, [], ◌∷◌, ◌++◌, true, false, Option, None, Some, sym, ◌∙◌, inl, inr, refl, ap, subst}
use Rattle.std.specs.Option.{is_some, unwrap_or}
use Rattle.std.specs.List.{Contains}
use Rattle.std.proofs.lemmas.List.Elements.{Contains-append_left, Contains-push, Contains-push_cases}
use Rattle.command_words.specs.declared.settings.Setting.{Setting}
use Rattle.command_words.specs.declared.settings.Setting.TheVariants.{Workers, Fuel, Net}
use Rattle.command_words.specs.declared.settings.Settings.{Settings}
use Rattle.command_words.specs.Settings.{AreOnce, IsLimit, KeepsSettings, KeepsNumber, flag_of, number_in}
use Rattle.command_words.proofs.OnceSettings.{not_twice, once_more}
use Rattle.command_words.proofs.SettingWords.{one_by_flag}

-- the first number of a kind is kept once it is set
kept_more : (set : ℕ → Setting) (ss : List Setting) (n : ℕ) → ((k : ℕ) → number_in (set k) ≡ k) → KeepsNumber ss set None → KeepsNumber (ss ++ set n ∷ []) set (Some n)
kept_more set ss n numbers kept k = (
  (λ at. elim (Contains-push_cases ss (set n) (set k) at) [
    | inl before ↦ absurd (let h = (kept k).0 before in cc)
    | inr e ↦ ap Some (sym (numbers n) ∙ ap number_in e ∙ numbers k)
  ]),
  (λ e. let h : n ≡ k = cc in subst (λ m. Contains (ss ++ set n ∷ []) (set m)) h (Contains-push ss (set n))),
)

-- and nothing of its kind stands there twice
once_new : (set : ℕ → Setting) (ss : List Setting) (n : ℕ) → ((k : ℕ) → flag_of (set k) ≡ flag_of (set n)) → ((k : ℕ) → number_in (set k) ≡ k) → KeepsNumber ss set None → AreOnce ss → AreOnce (ss ++ set n ∷ [])
once_new set ss n flags numbers kept once = once_more ss (set n) once (λ a at e.
    let same : a ≡ set (number_in a) = one_by_flag a (set (number_in a)) (e ∙ sym (flags (number_in a))) (sym (numbers (number_in a))) in
    let h = (kept (number_in a)).0 (subst (Contains ss) same at) in
    cc)

-- a setting of another kind leaves it as it is
kept_other : (set : ℕ → Setting) (ss : List Setting) (s : Setting) (o : Option ℕ) → ((k : ℕ) → s ≢ set k) → KeepsNumber ss set o → KeepsNumber (ss ++ s ∷ []) set o
kept_other set ss s o other kept k = (
  (λ at. elim (Contains-push_cases ss s (set k) at) [ inl before ↦ (kept k).0 before | inr e ↦ absurd (other k e) ]),
  (λ e. Contains-append_left ss (s ∷ []) (set k) ((kept k).1 e)),
)

-- what is kept, or else the default number, is the limit
pub limit_kept : (ss : List Setting) (set : ℕ → Setting) (default : ℕ) (o : Option ℕ) → KeepsNumber ss set o → IsLimit ss set default (unwrap_or o default)
limit_kept ss set default None kept = record { given = λ k at. absurd (let h = (kept k).0 at in cc); else_default = λ _. refl }
limit_kept ss set default (Some n) kept = record { given = λ k at. let h = (kept k).0 at in cc; else_default = λ none. absurd (none n ((kept n).1 refl)) }

-- what is no value is none
pub no_some : {X : Type 0} (o : Option X) → is_some o ≡ false → o ≡ None
no_some None e = refl
no_some (Some x) e = cc

-- where one is kept, another would be the second of its kind
pub second_number : (set : ℕ → Setting) (ss : List Setting) (n : ℕ) (o : Option ℕ) → ((k : ℕ) → flag_of (set k) ≡ flag_of (set n)) → KeepsNumber ss set o → is_some o ≡ true → AreOnce (ss ++ set n ∷ []) → ⊥
second_number set ss n None flags kept e = cc
second_number set ss n (Some k) flags kept e = not_twice ss (set n) (set k) ((kept k).1 refl) (flags k)

-- the number of workers is set
pub keeps_workers : (kept : Settings) (ss : List Setting) (n : ℕ) → kept.workers ≡ None → KeepsSettings kept ss → KeepsSettings (record kept { workers = Some n }) (ss ++ Workers n ∷ [])
keeps_workers kept ss n none keeps =
    let new = subst (KeepsNumber ss Workers) none keeps.workers in
    record {
      once = once_new Workers ss n (λ k. refl) (λ k. refl) new keeps.once;
      workers = kept_more Workers ss n (λ k. refl) new;
      fuel = kept_other Fuel ss (Workers n) kept.fuel (λ k e. cc) keeps.fuel;
      net = kept_other Net ss (Workers n) kept.net (λ k e. cc) keeps.net;
    }

-- the fuel is set
pub keeps_fuel : (kept : Settings) (ss : List Setting) (n : ℕ) → kept.fuel ≡ None → KeepsSettings kept ss → KeepsSettings (record kept { fuel = Some n }) (ss ++ Fuel n ∷ [])
keeps_fuel kept ss n none keeps =
    let new = subst (KeepsNumber ss Fuel) none keeps.fuel in
    record {
      once = once_new Fuel ss n (λ k. refl) (λ k. refl) new keeps.once;
      workers = kept_other Workers ss (Fuel n) kept.workers (λ k e. cc) keeps.workers;
      fuel = kept_more Fuel ss n (λ k. refl) new;
      net = kept_other Net ss (Fuel n) kept.net (λ k e. cc) keeps.net;
    }

-- the limit of the net is set
pub keeps_net : (kept : Settings) (ss : List Setting) (n : ℕ) → kept.net ≡ None → KeepsSettings kept ss → KeepsSettings (record kept { net = Some n }) (ss ++ Net n ∷ [])
keeps_net kept ss n none keeps =
    let new = subst (KeepsNumber ss Net) none keeps.net in
    record {
      once = once_new Net ss n (λ k. refl) (λ k. refl) new keeps.once;
      workers = kept_other Workers ss (Net n) kept.workers (λ k e. cc) keeps.workers;
      fuel = kept_other Fuel ss (Net n) kept.fuel (λ k e. cc) keeps.fuel;
      net = kept_more Net ss n (λ k. refl) new;
    }
