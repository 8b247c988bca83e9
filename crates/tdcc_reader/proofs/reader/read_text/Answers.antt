use Rattle.std.proofs.Common.{◌≡◌, List, sym, ◌∙◌, subst, arith}
use Rattle.std.specs.Prelude.{map}
use Rattle.std.proofs.lemmas.List.{length-map}
use Rattle.program_grammar.specs.Reading.{AreSteps}
use Rattle.tdcc_reader.specs.declared.terms.Term.{Term}
use Rattle.tdcc_reader.specs.declared.fault.ReadFault.TheVariants as fault
use Rattle.program_grammar.specs.Terms as grammar
use Rattle.tdcc_reader.specs.TermViews.{term_view}
use Rattle.tdcc_reader.specs.BuildPass.{built_view}
use Rattle.tdcc_reader.specs.Refusals.{IsProgramOf}
use Rattle.tdcc_reader.specs.declared.surface.ParsedText.{ParsedText}
use Rattle.tdcc_reader.specs.Surfaces.{IsSurfaceOf}
use Rattle.tdcc_reader.specs.ParsedTexts.{surface_of}
use Rattle.tdcc_reader.specs.Texts.{ReadsAs}
use Rattle.tdcc_reader.proofs.Options.{ok_to, ok_or, err_to}
use Rattle.tdcc_reader.proofs.Finished.{all_ready}
use Rattle.tdcc_reader.proofs.reader.read_text.Goals as goal

pub returns-clause-found : goal.returns-clause-found
returns-clause-found c =
    let (p, is, are) = c.in_ok-steps.ensures.found in
    let P : List Term → Type 0 = λ l. IsProgramOf c.args.dialect (map term_view l) p in
    let here : IsProgramOf c.args.dialect (map term_view c.in_ok-terms.terms.items) p = subst P c.deref.ensures.value is in
    let there : IsProgramOf c.args.dialect (map term_view c.deref-2.result.now) p = subst P (sym c.deref-2.ensures.value) here in
    let steps : AreSteps p c.deref-3.result.now = subst (AreSteps p) (sym c.deref-3.ensures.value) are in
    let long = length-map c.in_ok-terms.terms.items term_view in
    let few = c.in_ok-terms.ensures.bounded in
    let ready = all_ready c.args.dialect c.args.text.now (map term_view c.in_ok-terms.terms.items) p (built_view c.in_ok-built.built) c.in_ok-terms.ensures.found (omega arith) here (c.in_ok-built.ensures.found p there steps) in
    ok_to c.finish.result (λ (parts : ParsedText). IsSurfaceOf p (surface_of parts)) (λ (parts : ParsedText). ReadsAs c.args.dialect c.args.text.now (surface_of parts)) (c.finish.ensures.found c.args.dialect c.args.text.now p ready) (λ s surface. (p, ready.accepts, surface))

pub returns-clause-complete : goal.returns-clause-complete
returns-clause-complete c = λ p accepts.
    let P : List grammar.Term → Type 0 = λ l. IsProgramOf c.args.dialect l p in
    let here : IsProgramOf c.args.dialect (map term_view c.in_ok-terms.terms.items) p = subst P (sym (c.in_ok-terms.ensures.complete accepts.terms accepts.has)) accepts.is in
    let Q : List Term → Type 0 = λ l. IsProgramOf c.args.dialect (map term_view l) p in
    let first : IsProgramOf c.args.dialect (map term_view c.deref.result.now) p = subst Q (sym c.deref.ensures.value) here in
    let there : IsProgramOf c.args.dialect (map term_view c.deref-2.result.now) p = subst Q (sym c.deref-2.ensures.value) here in
    let steps : AreSteps p c.deref-3.result.now = subst (AreSteps p) (sym c.deref-3.ensures.value) (c.in_ok-steps.ensures.complete p first) in
    let long = length-map c.in_ok-terms.terms.items term_view in
    let few = c.in_ok-terms.ensures.bounded in
    let ready = all_ready c.args.dialect c.args.text.now (map term_view c.in_ok-terms.terms.items) p (built_view c.in_ok-built.built) c.in_ok-terms.ensures.found (omega arith) here (c.in_ok-built.ensures.found p there steps) in
    ok_or c.finish.result (λ (parts : ParsedText). IsSurfaceOf p (surface_of parts)) (λ (parts : ParsedText). IsSurfaceOf p (surface_of parts)) (λ e. e ≡ fault.Memory) (λ e. e ≡ fault.Memory) (c.finish.ensures.found c.args.dialect c.args.text.now p ready) c.finish.ensures.fault (λ s surface. surface) (λ e is. is)

pub finish-requires : goal.finish-requires
finish-requires c =
    let (p, is, are) = c.in_ok-steps.ensures.found in
    let P : List Term → Type 0 = λ l. IsProgramOf c.args.dialect (map term_view l) p in
    let here : IsProgramOf c.args.dialect (map term_view c.in_ok-terms.terms.items) p = subst P c.deref.ensures.value is in
    let there : IsProgramOf c.args.dialect (map term_view c.deref-2.result.now) p = subst P (sym c.deref-2.ensures.value) here in
    let steps : AreSteps p c.deref-3.result.now = subst (AreSteps p) (sym c.deref-3.ensures.value) are in
    let long = length-map c.in_ok-terms.terms.items term_view in
    let few = c.in_ok-terms.ensures.bounded in
    (c.args.dialect, c.args.text.now, p, all_ready c.args.dialect c.args.text.now (map term_view c.in_ok-terms.terms.items) p (built_view c.in_ok-built.built) c.in_ok-terms.ensures.found (omega arith) here (c.in_ok-built.ensures.found p there steps))

pub returns-in_err-terms-clause-complete : goal.returns-in_err-terms-clause-complete
returns-in_err-terms-clause-complete c = λ p accepts.
    let is = c.in_err-terms.ensures.complete accepts.terms accepts.has in
    err_to c.from_residual.result (λ (parts : ParsedText). IsSurfaceOf p (surface_of parts)) _ (λ e. e ≡ fault.Memory) c.from_residual.ensures.1 (λ e h. h ∙ is)

pub returns-in_err-steps-clause-complete : goal.returns-in_err-steps-clause-complete
returns-in_err-steps-clause-complete c = λ p accepts.
    let P : List grammar.Term → Type 0 = λ l. IsProgramOf c.args.dialect l p in
    let here : IsProgramOf c.args.dialect (map term_view c.in_ok-terms.terms.items) p = subst P (sym (c.in_ok-terms.ensures.complete accepts.terms accepts.has)) accepts.is in
    let Q : List Term → Type 0 = λ l. IsProgramOf c.args.dialect (map term_view l) p in
    let first : IsProgramOf c.args.dialect (map term_view c.deref.result.now) p = subst Q (sym c.deref.ensures.value) here in
    let is = c.in_err-steps.ensures.complete p first in
    err_to c.from_residual-in_err-steps.result (λ (parts : ParsedText). IsSurfaceOf p (surface_of parts)) _ (λ e. e ≡ fault.Memory) c.from_residual-in_err-steps.ensures.1 (λ e h. h ∙ is)

pub returns-in_err-built-clause-complete : goal.returns-in_err-built-clause-complete
returns-in_err-built-clause-complete c = λ p accepts.
    let P : List grammar.Term → Type 0 = λ l. IsProgramOf c.args.dialect l p in
    let here : IsProgramOf c.args.dialect (map term_view c.in_ok-terms.terms.items) p = subst P (sym (c.in_ok-terms.ensures.complete accepts.terms accepts.has)) accepts.is in
    let Q : List Term → Type 0 = λ l. IsProgramOf c.args.dialect (map term_view l) p in
    let first : IsProgramOf c.args.dialect (map term_view c.deref.result.now) p = subst Q (sym c.deref.ensures.value) here in
    let there : IsProgramOf c.args.dialect (map term_view c.deref-2.result.now) p = subst Q (sym c.deref-2.ensures.value) here in
    let steps : AreSteps p c.deref-3.result.now = subst (AreSteps p) (sym c.deref-3.ensures.value) (c.in_ok-steps.ensures.complete p first) in
    let is = c.in_err-built.ensures.complete p there steps accepts.within accepts.named accepts.declared in
    err_to c.from_residual-in_err-built.result (λ (parts : ParsedText). IsSurfaceOf p (surface_of parts)) _ (λ e. e ≡ fault.Memory) c.from_residual-in_err-built.ensures.1 (λ e h. h ∙ is)
