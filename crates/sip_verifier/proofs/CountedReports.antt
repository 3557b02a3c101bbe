-- A report of `verify` that keeps to the clause of verdicts is counted.
use Rattle.std.proofs.Common.{sym, ◌≡◌, List, [], ◌∷◌, All}
use Rattle.std.proofs.lemmas.List.Elements.{All-cons, All-nil, All-head, All-tail}
use Rattle.sip_stream.proofs.LegalRecords.{records_legal}
use Rattle.sip_vector.specs.declared.query.Query.{Query}
use Rattle.sip_vector.specs.Answers.{Answer, Fits}
use Rattle.sip_vector.specs.Streams.{IsLegal}
use Rattle.sip_verifier.specs.declared.status.Status.{Status}
use Rattle.sip_verifier.specs.CountClause.{FewFor, CountsFor, Written, CountClause, counting}
use Rattle.sip_verifier.specs.Exchanges.{Exchange}
use Rattle.sip_verifier.specs.Inquiries.{Inquiry}
use Rattle.sip_verifier.specs.Questions.{Accepts, Question, asking, updates, Done}
use Rattle.sip_verifier.specs.Tasks.{CanBeAsked}
use Rattle.sip_verifier.specs.VerdictClause.{VerdictClause}
use Rattle.sip_verifier.proofs.CountedQuestions.{few_wrong, question_counts}
use Rattle.sip_verifier.proofs.WrittenReports as general

module _ (i : Inquiry) (x : Exchange) (can : All (CanBeAsked i.depth) i.queries) where
  pub fits : All (Fits i.depth) i.queries
  fits at other less = (can at other less).1

  legal : IsLegal i.depth (updates i x)
  legal = records_legal i.depth i.form x.stream

  pub few_of : (queries : List Query) → All (CanBeAsked i.depth) queries
      → All (FewFor i.version i.depth (updates i x)) queries
  few_of [] all = All-nil (FewFor i.version i.depth (updates i x))
  few_of (q ∷ queries) all =
      All-cons (FewFor i.version i.depth (updates i x)) q queries
      (few_wrong i.version i.depth (updates i x) q (All-head (CanBeAsked i.depth) q queries all)
      legal) (few_of queries (All-tail (CanBeAsked i.depth) q queries all))

  pub each_counts : (q : Question) (written : Answer) → Fits i.depth q.query → Accepts i.version i.depth (updates i x) q written → CountsFor i.version i.depth (updates i x) q written
  each_counts q written fit accepts = question_counts i.version i.depth (updates i x) q.query q.block q.replies written fit legal accepts

  abbrev pub Reported : Type 0
  Reported = general.Reported asking counting i x (few_of i.queries can) (Fits i.depth) fits each_counts

  abbrev pub written_of : Done i x → List Written
  written_of done = general.written_of asking counting i x (few_of i.queries can) (Fits i.depth) fits each_counts done

  abbrev pub counts_of : Reported → CountClause i x
  counts_of w = general.counts_of asking counting i x (few_of i.queries can) (Fits i.depth) fits each_counts w

  pub lines_counted : (w : Reported) → written_of w.done ≡ (counts_of w).lines
  lines_counted w = sym (general.counts_lines asking counting i x (few_of i.queries can) (Fits i.depth) fits each_counts w)

  pub reported : (status : Status) → VerdictClause i x status → Reported
  reported status v = general.reported asking counting i x (few_of i.queries can) (Fits i.depth) fits each_counts status v

  pub report_counts : (status : Status) → VerdictClause i x status → CountClause i x
  report_counts status v = counts_of (reported status v)
