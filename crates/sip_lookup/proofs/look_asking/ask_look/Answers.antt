-- Each end of the call, by what its parts did.
use Rattle.std.proofs.Common.{◌≡◌, ◌≤◌, ℕ, Ok, Err, true, false, length, take, ap, subst, ◌∙◌, inl, inr, arith, rules}
use Rattle.std.proofs.lemmas.Result.{err_from_is_err_and}
use Rattle.sip_vector.specs.declared.query.Query.TheVariants.{Sub}
use Rattle.sip_wire.specs.Spelling.{spelling}
use Rattle.sip_verifier.specs.declared.session.Verdict.TheVariants as verdicts
use Rattle.sip_verifier.specs.Asking as subs
use Rattle.sip_ports.specs.declared.port.PortStop.{PortStop}
use Rattle.sip_ports.proofs.FaultLemmas.{Rose-since}
use Rattle.sip_verifier.specs.declared.asker.Unanswered.{Unanswered}
use Rattle.sip_verifier.specs.declared.asker.Unanswered.TheVariants.{Fault}
use Rattle.sip_verifier.specs.declared.session.SessionFault.TheVariants as faults
use Rattle.sip_verifier.specs.AskClause.{came_of}
use Rattle.sip_verifier.specs.Snapshots.{sink}
use Rattle.sip_verifier.proofs.KeptAsks.{answer_keeps, later_keeps, rejection_keeps}
use Rattle.sip_verifier.proofs.KeptQueries.{all_of_whole}
use Rattle.sip_lookup.specs.declared.answer.LookAnswer.{LookAnswer}
use Rattle.sip_lookup.specs.Frames.{ask_message}
use Rattle.sip_lookup.specs.Lookups.{Looked, are_alone, is_possible, stated_answer}
use Rattle.sip_lookup.specs.Sittings.{looked_of}
use Rattle.sip_lookup.proofs.LookEnds.{answered_comes, ask_comes, bad_comes, crowded_comes, no_number, rejected_comes, stopped_comes, unheard_comes}
use Rattle.sip_lookup.proofs.LookKept.{found_then, link_keeps, not_alone_kept, number_kept, result_kept, sent_kept, stopped_kept, unheard_kept}
use Rattle.sip_lookup.proofs.look_asking.ask_look.Goals as goal

pub returns-in_err-on_link-clause-asks : goal.returns-in_err-on_link-clause-asks
returns-in_err-on_link-clause-asks g c = λ stream stands.
    let (port, is, same) = c.in_err-on_link.ensures in
    let p = err_from_is_err_and c.from_residual.result c.from_residual.ensures.1 in
    let (n, less, went) = rw is at c.send_ask.ensures.talk in
    rw (p.1, p.2)
    (ask_comes c.args.version c.args.depth stream c.args.lookup c.args.root.now.seat (λ (given : LookAnswer) (answer : Looked). looked_of given ≡ answer) _ _ port n went (Err c.in_err-on_link.field-0.0) same)

pub returns-in_err-on_link-clause-keeps : goal.returns-in_err-on_link-clause-keeps
returns-in_err-on_link-clause-keeps g c =
    let (port, is, same) = c.in_err-on_link.ensures in
    let p = err_from_is_err_and c.from_residual.result c.from_residual.ensures.1 in
    let (n, less, went) = rw is at c.send_ask.ensures.talk in
    let cause = c.send_ask.ensures.cause in
    rw (p.1, p.2, same)
    (link_keeps c.args.version _ _ _ _ port (sent_kept c.args.version _ _ (g.C.Sink.talk c.args.keep.now) (take n (spelling c.args.version (ask_message c.args.lookup))) went)
    (λ stop. cause.failed (is ∙ ap (λ (e : PortStop). Err e) stop)) (λ stop. cause.wanted (is ∙ ap (λ (e : PortStop). Err e) stop)))

pub returns-in_err-found-clause-asks : goal.returns-in_err-found-clause-asks
returns-in_err-found-clause-asks g c = λ stream stands.
    let p = err_from_is_err_and c.from_residual-in_err-found.result c.from_residual-in_err-found.ensures.1 in
    let went = rw c.in_ok-on_link.ensures at c.send_ask.ensures.talk in
    rw (p.1, p.2)
    (unheard_comes c.args.version c.args.depth stream c.args.lookup c.args.root.now.seat (λ (given : LookAnswer) (answer : Looked). looked_of given ≡ answer) _ _ _ _ _ went c.in_err-found.field-0.0 c.in_err-found.ensures.hears)

pub returns-in_err-found-clause-keeps : goal.returns-in_err-found-clause-keeps
returns-in_err-found-clause-keeps g c =
    let p = err_from_is_err_and c.from_residual-in_err-found.result c.from_residual-in_err-found.ensures.1 in
    let went = rw c.in_ok-on_link.ensures at c.send_ask.ensures.talk in
    let cause = c.send_ask.ensures.cause in
    let e = c.hear_found.ensures in
    let stop = c.in_err-found.field-0.0 in
    let kept = unheard_kept c.args.version _ _ _ _ _ _ (sent_kept c.args.version _ _ (g.C.Sink.talk c.args.keep.now) (spelling c.args.version (ask_message c.args.lookup)) went) LookAnswer stop c.in_err-found.ensures.hears in
    let told : (u : Unanswered) → stop ≡ u → c.hear_found.result ≡ Err u = λ u is. c.in_err-found.was ∙ ap (λ (u : Unanswered). Err u) is in
    rw (p.1, p.2)
    (later_keeps c.args.version _ (sink g.L.Sink.talk g.L.Sink.faults g.L.Sink.wants c.send_ask.new.link) _ _ _ stop kept cause.later cause.wants_later
    (λ is. e.cause (told _ is)) (λ is. e.keep_cause (told _ is)) (λ is. e.memory (told _ is)))

pub returns-then-not-is_possible-clause-asks : goal.returns-then-not-is_possible-clause-asks
returns-then-not-is_possible-clause-asks g c = λ stream stands.
    let went = rw c.in_ok-on_link.ensures at c.send_ask.ensures.talk in
    let found = c.in_ok-found.found in
    let bad : is_possible c.args.depth c.args.lookup found ≡ false = search rules in
    bad_comes c.args.version c.args.depth stream c.args.lookup c.args.root.now.seat (λ (given : LookAnswer) (answer : Looked). looked_of given ≡ answer) _ _ _ _ _ went found c.in_ok-found.ensures.hears bad

pub returns-then-not-is_possible-clause-keeps : goal.returns-then-not-is_possible-clause-keeps
returns-then-not-is_possible-clause-keeps g c =
    let went = rw c.in_ok-on_link.ensures at c.send_ask.ensures.talk in
    let found = c.in_ok-found.found in
    let so_far = found_then c.args.version _ _ _ _ _ _ (sent_kept c.args.version _ _ (g.C.Sink.talk c.args.keep.now) (spelling c.args.version (ask_message c.args.lookup)) went) found c.in_ok-found.ensures.hears in
    rejection_keeps c.args.version _ _ _ _ _ _ (all_of_whole _ _ _ _ c.args.version so_far)

pub returns-then-not-is_alone-clause-asks : goal.returns-then-not-is_alone-clause-asks
returns-then-not-is_alone-clause-asks g c = λ stream stands.
    let went = rw c.in_ok-on_link.ensures at c.send_ask.ensures.talk in
    let found = c.in_ok-found.found in
    let possible : is_possible c.args.depth c.args.lookup found ≡ true = search rules in
    let some : 1 ≤ length c.args.root.now.seat = omega (arith, c.requires.levels, c.get-levels.ensures.same, c.get-levels.ensures.some) in
    let asked = subst (λ (x : ℕ × ℕ). subs.Asks c.args.version c.args.depth stream (Sub x.0 x.1) c.args.root.now.seat (g.L.Sink.talk c.hear_found.new.link) (g.L.Sink.talk c.ask_sub.new.link) c.ask_sub.new.entries.items c.ask_sub.result) c.interval-lo.ensures.same (c.ask_sub.ensures.asks c.args.depth stream stands) in
    let is = c.in-Ok-Pairs.is ∙ ap (λ v. Ok v) c.in-Ok-Pairs.field-0-is in
    let crowded : are_alone c.args.lookup found c.ask_sub.new.entries.items ≡ false = search rules in
    rw c.get.ensures.same (crowded_comes c.args.version c.args.depth stream c.args.lookup c.args.root.now.seat (λ (given : LookAnswer) (answer : Looked). looked_of given ≡ answer) _ _ _ _ _ went found c.in_ok-found.ensures.hears possible some _ c.ask_sub.new.entries.items c.ask_sub.result asked is crowded)

pub returns-then-not-is_alone-clause-keeps : goal.returns-then-not-is_alone-clause-keeps
returns-then-not-is_alone-clause-keeps g c =
    let went = rw c.in_ok-on_link.ensures at c.send_ask.ensures.talk in
    let found = c.in_ok-found.found in
    let is = c.in-Ok-Pairs.is ∙ ap (λ v. Ok v) c.in-Ok-Pairs.field-0-is in
    let so_far = found_then c.args.version _ _ _ _ _ _ (sent_kept c.args.version _ _ (g.C.Sink.talk c.args.keep.now) (spelling c.args.version (ask_message c.args.lookup)) went) found c.in_ok-found.ensures.hears in
    rejection_keeps c.args.version _ _ _ _ _ _ (not_alone_kept c.args.version _ _ _ _ _ _ so_far c.ask_sub.result is c.ask_sub.ensures.keeps.kept)

pub returns-else-not-is_alone-clause-asks : goal.returns-else-not-is_alone-clause-asks
returns-else-not-is_alone-clause-asks g c = λ stream stands.
    let went = rw c.in_ok-on_link.ensures at c.send_ask.ensures.talk in
    let found = c.in_ok-found.found in
    let possible : is_possible c.args.depth c.args.lookup found ≡ true = search rules in
    let asked = subst (λ (x : ℕ × ℕ). subs.Asks c.args.version c.args.depth stream (Sub x.0 x.1) c.args.root.now.seat (g.L.Sink.talk c.hear_found.new.link) (g.L.Sink.talk c.ask_sub.new.link) c.ask_sub.new.entries.items c.ask_sub.result) c.interval-lo.ensures.same (c.ask_sub.ensures.asks c.args.depth stream stands) in
    let is = c.in-Ok-Pairs.is ∙ ap (λ v. Ok v) c.in-Ok-Pairs.field-0-is in
    let alone : are_alone c.args.lookup found c.ask_sub.new.entries.items ≡ true = search rules in
    let says : looked_of c.answer.result ≡ stated_answer c.args.lookup c.ask_sub.new.entries.items = search rules in
    record { answer = stated_answer c.args.lookup c.ask_sub.new.entries.items; answered = answered_comes c.args.version c.args.depth stream c.args.lookup c.args.root.now.seat (λ (given : LookAnswer) (answer : Looked). looked_of given ≡ answer) _ _ _ _ _ went found c.in_ok-found.ensures.hears possible (omega (arith, c.requires.levels, c.get-levels.ensures.same, c.get-levels.ensures.some)) _ c.ask_sub.new.entries.items c.ask_sub.result asked is alone; states = says }

pub returns-else-not-is_alone-clause-keeps : goal.returns-else-not-is_alone-clause-keeps
returns-else-not-is_alone-clause-keeps g c =
    let went = rw c.in_ok-on_link.ensures at c.send_ask.ensures.talk in
    let found = c.in_ok-found.found in
    let is = c.in-Ok-Pairs.is ∙ ap (λ v. Ok v) c.in-Ok-Pairs.field-0-is in
    let so_far = found_then c.args.version _ _ _ _ _ _ (sent_kept c.args.version _ _ (g.C.Sink.talk c.args.keep.now) (spelling c.args.version (ask_message c.args.lookup)) went) found c.in_ok-found.ensures.hears in
    answer_keeps c.args.version _ _ _ _ _ (result_kept c.args.version _ _ _ _ _ _ so_far c.ask_sub.result (Ok verdicts.Pairs) is c.ask_sub.ensures.keeps.kept)

pub returns-in-Ok-Rejected-clause-asks : goal.returns-in-Ok-Rejected-clause-asks
returns-in-Ok-Rejected-clause-asks g c = λ stream stands.
    let went = rw c.in_ok-on_link.ensures at c.send_ask.ensures.talk in
    let found = c.in_ok-found.found in
    let possible : is_possible c.args.depth c.args.lookup found ≡ true = search rules in
    let some : 1 ≤ length c.args.root.now.seat = omega (arith, c.requires.levels, c.get-levels.ensures.same, c.get-levels.ensures.some) in
    let asked = subst (λ (x : ℕ × ℕ). subs.Asks c.args.version c.args.depth stream (Sub x.0 x.1) c.args.root.now.seat (g.L.Sink.talk c.hear_found.new.link) (g.L.Sink.talk c.ask_sub.new.link) c.ask_sub.new.entries.items c.ask_sub.result) c.interval-lo.ensures.same (c.ask_sub.ensures.asks c.args.depth stream stands) in
    let is = c.in-Ok-Rejected.is ∙ ap (λ v. Ok v) c.in-Ok-Rejected.field-0-is in
    rejected_comes c.args.version c.args.depth stream c.args.lookup c.args.root.now.seat (λ (given : LookAnswer) (answer : Looked). looked_of given ≡ answer) _ _ _ _ _ went found c.in_ok-found.ensures.hears possible some _ c.ask_sub.new.entries.items c.ask_sub.result asked c.in-Ok-Rejected.round c.in-Ok-Rejected.reason is

pub returns-in-Ok-Rejected-clause-keeps : goal.returns-in-Ok-Rejected-clause-keeps
returns-in-Ok-Rejected-clause-keeps g c =
    let went = rw c.in_ok-on_link.ensures at c.send_ask.ensures.talk in
    let found = c.in_ok-found.found in
    let is = c.in-Ok-Rejected.is ∙ ap (λ v. Ok v) c.in-Ok-Rejected.field-0-is in
    let so_far = found_then c.args.version _ _ _ _ _ _ (sent_kept c.args.version _ _ (g.C.Sink.talk c.args.keep.now) (spelling c.args.version (ask_message c.args.lookup)) went) found c.in_ok-found.ensures.hears in
    rejection_keeps c.args.version _ _ _ _ _ _ (result_kept c.args.version _ _ _ _ _ _ so_far c.ask_sub.result (Ok (verdicts.Rejected c.in-Ok-Rejected.round c.in-Ok-Rejected.reason)) is c.ask_sub.ensures.keeps.kept)

pub returns-in-Ok-Number-clause-asks : goal.returns-in-Ok-Number-clause-asks
returns-in-Ok-Number-clause-asks g c = λ stream stands.
    let went = rw c.in_ok-on_link.ensures at c.send_ask.ensures.talk in
    let found = c.in_ok-found.found in
    let possible : is_possible c.args.depth c.args.lookup found ≡ true = search rules in
    let some : 1 ≤ length c.args.root.now.seat = omega (arith, c.requires.levels, c.get-levels.ensures.same, c.get-levels.ensures.some) in
    let asked = subst (λ (x : ℕ × ℕ). subs.Asks c.args.version c.args.depth stream (Sub x.0 x.1) c.args.root.now.seat (g.L.Sink.talk c.hear_found.new.link) (g.L.Sink.talk c.ask_sub.new.link) c.ask_sub.new.entries.items c.ask_sub.result) c.interval-lo.ensures.same (c.ask_sub.ensures.asks c.args.depth stream stands) in
    let is = c.in-Ok-Number.is ∙ ap (λ v. Ok v) c.in-Ok-Number.field-0-is in
    absurd (no_number c.args.version c.args.depth stream c.args.lookup c.args.root.now.seat (λ (given : LookAnswer) (answer : Looked). looked_of given ≡ answer) _ _ _ _ _ went found c.in_ok-found.ensures.hears possible some _ c.ask_sub.new.entries.items c.ask_sub.result asked _ is)

pub returns-in-Ok-Number-clause-keeps : goal.returns-in-Ok-Number-clause-keeps
returns-in-Ok-Number-clause-keeps g c =
    let went = rw c.in_ok-on_link.ensures at c.send_ask.ensures.talk in
    let found = c.in_ok-found.found in
    let is = c.in-Ok-Number.is ∙ ap (λ v. Ok v) c.in-Ok-Number.field-0-is in
    let so_far = found_then c.args.version _ _ _ _ _ _ (sent_kept c.args.version _ _ (g.C.Sink.talk c.args.keep.now) (spelling c.args.version (ask_message c.args.lookup)) went) found c.in_ok-found.ensures.hears in
    rejection_keeps c.args.version _ _ _ _ _ _ (number_kept c.args.version _ _ _ _ _ _ so_far c.ask_sub.result _ is c.ask_sub.ensures.keeps.kept)

pub returns-in-Err-clause-asks : goal.returns-in-Err-clause-asks
returns-in-Err-clause-asks g c = λ stream stands.
    let went = rw c.in_ok-on_link.ensures at c.send_ask.ensures.talk in
    let found = c.in_ok-found.found in
    let possible : is_possible c.args.depth c.args.lookup found ≡ true = search rules in
    let some : 1 ≤ length c.args.root.now.seat = omega (arith, c.requires.levels, c.get-levels.ensures.same, c.get-levels.ensures.some) in
    let asked = subst (λ (x : ℕ × ℕ). subs.Asks c.args.version c.args.depth stream (Sub x.0 x.1) c.args.root.now.seat (g.L.Sink.talk c.hear_found.new.link) (g.L.Sink.talk c.ask_sub.new.link) c.ask_sub.new.entries.items c.ask_sub.result) c.interval-lo.ensures.same (c.ask_sub.ensures.asks c.args.depth stream stands) in
    stopped_comes c.args.version c.args.depth stream c.args.lookup c.args.root.now.seat (λ (given : LookAnswer) (answer : Looked). looked_of given ≡ answer) _ _ _ _ _ went found c.in_ok-found.ensures.hears possible some _ c.ask_sub.new.entries.items c.ask_sub.result asked c.in-Err.fault c.in-Err.is

pub returns-in-Err-clause-keeps : goal.returns-in-Err-clause-keeps
returns-in-Err-clause-keeps g c =
    let went = rw c.in_ok-on_link.ensures at c.send_ask.ensures.talk in
    let found = c.in_ok-found.found in
    let so_far = found_then c.args.version _ _ _ _ _ _ (sent_kept c.args.version _ _ (g.C.Sink.talk c.args.keep.now) (spelling c.args.version (ask_message c.args.lookup)) went) found c.in_ok-found.ensures.hears in
    let e = c.ask_sub.ensures.keeps in
    let kept = stopped_kept c.args.version _ _ _ _ _ _ so_far LookAnswer c.ask_sub.result c.in-Err.fault c.in-Err.is e.kept in
    let told : (u : Unanswered) → Fault c.in-Err.fault ≡ u → came_of c.ask_sub.result ≡ Err u = λ u is. ap came_of c.in-Err.is ∙ ap (λ (u : Unanswered). Err u) is in
    let sent = c.send_ask.ensures.cause in
    let heard = c.hear_found.ensures in
    let later : g.L.Sink.faults c.args.link.now ≤ g.L.Sink.faults c.hear_found.new.link = omega (arith, sent.later, heard.link.later) in
    let wants_later : g.L.Sink.wants c.args.link.now ≤ g.L.Sink.wants c.hear_found.new.link = omega (arith, sent.wants_later, heard.link.wants_later) in
    record {
      kept = kept;
      cause = λ is. let same : Fault c.in-Err.fault ≡ Fault faults.PeerFault = cc in Rose-since _ _ _ later (e.cause (told _ same));
      keep_cause = λ is. let same : Fault c.in-Err.fault ≡ Fault faults.KeepFault = cc in Rose-since _ _ _ heard.keep.later (e.keep_cause (told _ same));
      memory = λ is.
          let same : Fault c.in-Err.fault ≡ Fault faults.OutOfMemory = cc in
          elim (e.memory (told _ same)) [
            | inl rose ↦ inl (Rose-since _ _ _ wants_later rose)
            | inr rose ↦ inr (Rose-since _ _ _ heard.keep.wants_later rose)
          ];
    }
