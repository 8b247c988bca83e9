-- The clauses of `tdcc` are those of the record.
use Rattle.std.proofs.Common.{◌≡◌, ℕ, List, Bool, Option, ap, ◌∙◌}
use Rattle.tdcc_tool.specs.Contract.{SourceState, SinkState}
use Rattle.tdcc_cli.proofs.answered.Goals as goal

-- a source, or a sink, that is the same tells the same
abbrev source_state : {S : Type 0} → (S → Option (List ℕ)) → (S → ℕ) → (S → Bool) → S → SourceState
source_state left faults steady s = record { left = left s; faults = faults s; steady = steady s }

abbrev sink_state : {K : Type 0} → (K → Option (List ℕ)) → (K → ℕ) → (K → Option ℕ) → K → SinkState
sink_state written faults room k = record { written = written k; faults = faults k; room = room k }

same_source : {S : Type 0} (left : S → Option (List ℕ)) (faults : S → ℕ) (steady : S → Bool) (a b : S) → a ≡ b → source_state left faults steady a ≡ source_state left faults steady b
same_source left faults steady a b e = ap (source_state left faults steady) e

same_sink : {K : Type 0} (written : K → Option (List ℕ)) (faults : K → ℕ) (room : K → Option ℕ) (a b : K) → a ≡ b → sink_state written faults room a ≡ sink_state written faults room b
same_sink written faults room a b e = ap (sink_state written faults room) e

pub returns : goal.returns
returns g c =
    let k = c.tdcc-status.ensures in (
      c.tdcc-status.result,
      c.from.ensures ∙ c.number.ensures,
      record {
        answer = λ complete bytes may. let (o, e, answers, written, told) = k.answer complete bytes may in record { to_out = o; to_err = e; answers = answers; written = written; told = told };
        cut_out = k.cut_out;
        no_trace = λ command called untraced is. same_sink g.K.Sink.written g.K.Sink.faults g.K.Sink.room _ _ (k.no_trace command called untraced is);
        fixed_line = k.fixed_line;
        read = k.read;
        write = k.write;
        whole = k.whole;
        steady = k.steady;
        roomy = k.roomy;
        generated_whole = k.generated_whole;
        usage = k.usage;
        usage_source = λ is. same_source g.S.Source.left g.S.Source.faults g.S.Source.steady _ _ (k.usage_source is);
        usage_out = λ is. same_sink g.K.Sink.written g.K.Sink.faults g.K.Sink.room _ _ (k.usage_out is);
        reads = k.reads;
        ended = k.ended;
        generated = λ command called made. same_source g.S.Source.left g.S.Source.faults g.S.Source.steady _ _ (k.generated command called made);
        statuses = k.statuses;
      },
    )
