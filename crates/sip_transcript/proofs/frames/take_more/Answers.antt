-- One more byte, or the end.
use Rattle.std.proofs.Common.{List, ℕ, [], ◌∷◌, ◌++◌, sym, ap, ◌∙◌, append_assoc, arith, rules}
use Rattle.std.proofs.KnownBytes.{Consumes-nil, Consumes-trans}
use Rattle.std.proofs.lemmas.List.{append-nil}
use Rattle.sip_transcript.proofs.Framing.{more-end}
use Rattle.sip_transcript.proofs.frames.take_more.Goals as goal

pub loop-source-init : goal.loop-source-init
loop-source-init g c = record {
  within = search rules;
  came = ([], sym (append-nil _), Consumes-nil _);
  lasts = search rules;
}

pub loop-source-preserved : goal.loop-source-preserved
loop-source-preserved g c =
    let kept = c.loop-source.invariant in
    let byte = c.in-Some.byte in
    let read = rw c.in-Some.is at c.in_ok-next.ensures.reads in
    record {
      within = search rules;
      came = (kept.came.0 ++ byte ∷ [], c.push.ensures.items ∙ ap (λ (l : List ℕ). l ++ byte ∷ []) kept.came.1 ∙ append_assoc _ kept.came.0 (byte ∷ []), Consumes-trans _ _ _ kept.came.0 (byte ∷ []) kept.came.2 read);
      lasts = search rules;
    }

pub returns-in-None-clause-took : goal.returns-in-None-clause-took
returns-in-None-clause-took g c =
    let kept = c.loop-source.invariant in
    more-end _ _ _ _ _ kept.came.0 c.args.upto kept.came.1 kept.came.2 kept.within (rw c.in-None.is at c.in_ok-next.ensures.reads)

pub returns-clause-took : goal.returns-clause-took
returns-clause-took g c =
    let kept = c.loop-source.invariant in
    record { more = kept.came.0; longer = kept.came.1; taken = kept.came.2; within = kept.within; all = λ lt. absurd (omega arith) }
