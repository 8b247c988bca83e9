-- Stores of which each instant has a certificate are a run.
use Rattle.std.proofs.Common.{◌≡◌, ℕ, zero, suc, ◌<◌, List, [], ◌∷◌, length, inl, inr, ap, sym, ◌∙◌, subst, Some, arith}
use Rattle.std.specs.Prelude.{take, get_or, slice_get, IsTrue}
use Rattle.std.proofs.lemmas.Option.{slice_get-get_or, slice_get_within}
use Rattle.token_system.specs.Stores.{StoreMap}
use Rattle.agent_core.specs.Programs.{CoreProgram}
use Rattle.agent_core.specs.WellFormed.{IsWellFormed}
use Rattle.agent_core.specs.Outputs.{IsOutput}
use Rattle.agent_core.specs.Closures.{roots}
use Rattle.agent_laws.proofs.Started.{roots-closures}
use Rattle.agent_laws.proofs.ProgramOutputs.{output-of_roots}
use Rattle.agent_core.specs.Leaves.{Leaf, runs}
use Rattle.agent_core.specs.Strata.{Each, In}
use Rattle.certificate_laws.specs.Justified.{is_tell}
use Rattle.certificate_laws.specs.Certificates.{Certifies}
use Rattle.certificate_laws.specs.LeafNumbers.{StandAt, IsCertificate}
use Rattle.certificate_laws.specs.CertifiedRuns.{IsCertifiedAfter, leaves_after}
use Rattle.certificate_laws.specs.Laws.{CertifiedRunsAreRuns}
use Rattle.certificate_laws.proofs.Certified.{certified-output, each_in}

-- numbers of leaves that are a certificate certify by their leaves
number_in : (ls : List Leaf) (n : ℕ) (l : Leaf) → slice_get ls n ≡ Some l → In l ls
number_in [] n l e = absurd (cc)
number_in (x ∷ ls) zero l e = inl (let same : l ≡ x = cc in same)
number_in (x ∷ ls) (suc n) l e = inr (number_in ls n l e)

in_number : (ls : List Leaf) (l : Leaf) → In l ls → (n : ℕ) × (slice_get ls n ≡ Some l)
in_number [] l i = absurd i
in_number (x ∷ ls) l (inl e) = (0, ap Some (sym e))
in_number (x ∷ ls) l (inr i) = let at = in_number ls l i in (suc at.0, at.1)

stand-from : (ls : List Leaf) (numbers : List ℕ) (run : List Leaf) → StandAt ls numbers run → Each (λ l. In l ls) run
stand-from ls [] [] h = tt
stand-from ls (n ∷ numbers) (l ∷ run) h = (number_in ls n l h.0, stand-from ls numbers run h.1)
stand-from ls [] (l ∷ run) h = absurd h
stand-from ls (n ∷ numbers) [] h = absurd h

stand-in : (ls : List Leaf) (numbers : List ℕ) (run : List Leaf) (n : ℕ) (l : Leaf) → StandAt ls numbers run → slice_get ls n ≡ Some l → In n numbers → In l run
stand-in ls [] [] n l h e i = absurd i
stand-in ls (m ∷ numbers) (x ∷ run) n l h e (inl same) = let at : slice_get ls m ≡ Some l = subst (λ (k : ℕ). slice_get ls k ≡ Some l) same e in let one : l ≡ x = some_one (sym at ∙ h.0) in inl one
  where
    some_one : Some l ≡ Some x → l ≡ x
    some_one e = cc
stand-in ls (m ∷ numbers) (x ∷ run) n l h e (inr i) = inr (stand-in ls numbers run n l h.1 e i)
stand-in ls [] (x ∷ run) n l h e i = absurd h
stand-in ls (m ∷ numbers) [] n l h e i = absurd h

pub certificate_of-numbers : (p : CoreProgram) (ls : List Leaf) (i v : StoreMap) (numbers : List ℕ) (c : IsCertificate p ls i v numbers) → Certifies p ls i v c.run
certificate_of-numbers p ls i v numbers c = record {
  from = stand-from ls numbers c.run c.numbered;
  leads = c.leads;
  whole = each_in (λ l. IsTrue (is_tell l.agent) → IsTrue (runs p v l) → In l c.run) ls (λ l at e r.
      let place = in_number ls l at in
      stand-in ls numbers c.run place.0 l c.numbered place.1 (c.listed place.0 l place.1 e r));
}

-- what is certified after closed stores is an output of the program
pub certified_after-output : (p : CoreProgram) → IsWellFormed p → (z : List StoreMap) (i v : StoreMap) (numbers : List ℕ) → IsCertifiedAfter p z i v numbers → IsOutput p z i v
certified_after-output p is z i v numbers c =
    output-of_roots p is z i v (certified-output p is (roots p z) (roots-closures p is z) (length z) i v c.input c.certificate.run (certificate_of-numbers p (leaves_after p z) i v numbers c.certificate))

pub runs_law : CertifiedRunsAreRuns
runs_law p is ins outs numbers c = record {
  whole = c.outputs;
  each = λ n i v ei ev.
      let within = slice_get_within ins n i ei in
      let there : n < length numbers = let same = c.certificates in omega arith in
      certified_after-output p is (take n outs) i v (get_or numbers n []) (c.each n i v (get_or numbers n []) ei ev (slice_get-get_or numbers n [] there));
}
