-- What the general talk did for a moment is what the manner of asking moments says.
use Rattle.std.proofs.Common.{inl, inr, refl, sym, ◌∙◌, arith}
use Rattle.sip_moments.proofs.AskFrames.{ask_fits}
use Rattle.sip_moments.proofs.MomentAsked.{asks_so, keep_only, keeps_so, memory_only, no_pairs, peer_only}
use Rattle.sip_moments.proofs.asking.ask_moment.Goals as goal

pub ask-asked-requires-clause-fits : goal.ask-asked-requires-clause-fits
ask-asked-requires-clause-fits g c =
    ask_fits c.args.version c.args.moment (omega (arith, c.requires.most))

pub ask-asked-requires-clause-stood : goal.ask-asked-requires-clause-stood
ask-asked-requires-clause-stood g c = (_, c.start-check.ensures.stands c.args.version _)

pub verdict_of-requires : goal.verdict_of-requires
verdict_of-requires g c = λ found.
    no_pairs _ c.args.moment _ _ _ _ _ _ found c.ask-asked.result
    (c.ask-asked.ensures.answers _ refl (c.start-check.ensures.stands c.args.version _))

pub returns-clause-asks : goal.returns-clause-asks
returns-clause-asks g c = λ depth stream power.
    let stood = c.start-check.ensures.stands c.args.version _ in
    rw c.verdict_of.ensures
    (asks_so c.args.version depth stream c.args.moment c.args.seat.now _ _ _ _ _ c.ask-asked.result
    (rw (c.start-check.ensures.block, power) at (c.ask-asked.ensures.answers _ refl stood)))

pub returns-clause-keeps : goal.returns-clause-keeps
returns-clause-keeps g c =
    let e = c.ask-asked.ensures in
    record {
      kept = rw c.verdict_of.ensures (keeps_so _ c.args.moment _ _ _ _ _ _ c.ask-asked.result (e.answers _ refl (c.start-check.ensures.stands c.args.version _)));
      cause = λ is. e.peer (peer_only c.ask-asked.result (sym c.verdict_of.ensures ∙ is));
      keep_cause = λ is. e.keeper (keep_only c.ask-asked.result (sym c.verdict_of.ensures ∙ is));
      memory = λ is. elim (memory_only c.ask-asked.result (sym c.verdict_of.ensures ∙ is)) [
        | inl link ↦ inl (e.memory link)
        | inr keep ↦ inr (e.keeper_memory keep)
      ];
    }
