-- What came of the session's next query came of the first one that is left.
use Rattle.std.proofs.Common.{◌≡◌, refl, ap, sym, rules, w64, to_z, of_z, FitsSigned}
use Rattle.std.proofs.lemmas.Int.{to_z-of_z}
use Rattle.sip_vector.specs.Answers.{number, pairs}
use Rattle.sip_verifier.specs.Given.{States}
use Rattle.sip_verifier.proofs.KeptAsks.{given_keeps, stop_keeps}
use Rattle.sip_verifier.proofs.SessionAsks.{asked_first, fault_first, query_first, still_stand}
use Rattle.sip_verifier.proofs.queries.SessionAsker.ask_next.Goals as goal

pub returns-in-Ok-Number-clause-asks : goal.returns-in-Ok-Number-clause-asks
returns-in-Ok-Number-clause-asks g c = λ stream ask all first.
    let asks = asked_first c.args.self.now stream ask _ _ c.ask.new.self.entries c.ask.result all first (c.ask.ensures.asks stream) in
    let fits : FitsSigned w64 c.in-Ok-Number.value = search rules in
    let kept : to_z w64 (of_z w64 c.in-Ok-Number.value) ≡ c.in-Ok-Number.value = to_z-of_z w64 c.in-Ok-Number.value fits in
    record {
      answer = number c.in-Ok-Number.value;
      answered = rw (c.in-Ok-Number.is, c.in-Ok-Number.field-0-is) at asks;
      states = record { asked = query_first c.args.self.now ask c.next_query-query.result first c.next_query-query.ensures; same = ap number (sym kept) };
    }

pub returns-in-Ok-Number-clause-stands : goal.returns-in-Ok-Number-clause-stands
returns-in-Ok-Number-clause-stands g c = λ stream all. still_stand c.args.self.now c.ask.new.self stream c.ask.ensures.next c.ask.ensures.depth all

pub returns-in-Ok-Pairs-clause-asks : goal.returns-in-Ok-Pairs-clause-asks
returns-in-Ok-Pairs-clause-asks g c = λ stream ask all first.
    let asks = asked_first c.args.self.now stream ask _ _ c.ask.new.self.entries c.ask.result all first (c.ask.ensures.asks stream) in
    record {
      answer = pairs c.ask.new.self.entries;
      answered = rw (c.in-Ok-Pairs.is, c.in-Ok-Pairs.field-0-is) at asks;
      states = record { asked = query_first c.args.self.now ask c.next_query-query.result first c.next_query-query.ensures; same = refl };
    }

pub returns-in-Ok-Pairs-clause-stands : goal.returns-in-Ok-Pairs-clause-stands
returns-in-Ok-Pairs-clause-stands g c = λ stream all. still_stand c.args.self.now c.ask.new.self stream c.ask.ensures.next c.ask.ensures.depth all

pub returns-in-Ok-Rejected-clause-asks : goal.returns-in-Ok-Rejected-clause-asks
returns-in-Ok-Rejected-clause-asks g c = λ stream ask all first.
    let asks = asked_first c.args.self.now stream ask _ _ c.ask.new.self.entries c.ask.result all first (c.ask.ensures.asks stream) in
    rw (c.in-Ok-Rejected.is, c.in-Ok-Rejected.field-0-is) at asks

pub returns-in-Ok-Rejected-clause-stands : goal.returns-in-Ok-Rejected-clause-stands
returns-in-Ok-Rejected-clause-stands g c = λ stream all. still_stand c.args.self.now c.ask.new.self stream c.ask.ensures.next c.ask.ensures.depth all

pub returns-in-Err-clause-asks : goal.returns-in-Err-clause-asks
returns-in-Err-clause-asks g c = λ stream ask all first.
    let asks = asked_first c.args.self.now stream ask _ _ c.ask.new.self.entries c.ask.result all first (c.ask.ensures.asks stream) in
    fault_first c.args.self.now.version c.args.self.now.depth stream ask _ _ c.ask.new.self.entries (λ given. States c.ask.new.self given ask.0) c.in-Err.fault (rw c.in-Err.is at asks)

pub returns-in-Err-clause-stands : goal.returns-in-Err-clause-stands
returns-in-Err-clause-stands g c = λ stream all. still_stand c.args.self.now c.ask.new.self stream c.ask.ensures.next c.ask.ensures.depth all

pub returns-in-Ok-Number-clause-keeps : goal.returns-in-Ok-Number-clause-keeps
returns-in-Ok-Number-clause-keeps g c =
    given_keeps c.args.self.now.version _ _ _ _ _ _ (rw (c.in-Ok-Number.is, c.in-Ok-Number.field-0-is) at c.ask.ensures.keeps)

pub returns-in-Ok-Pairs-clause-keeps : goal.returns-in-Ok-Pairs-clause-keeps
returns-in-Ok-Pairs-clause-keeps g c =
    given_keeps c.args.self.now.version _ _ _ _ _ _ (rw (c.in-Ok-Pairs.is, c.in-Ok-Pairs.field-0-is) at c.ask.ensures.keeps)

pub returns-in-Ok-Rejected-clause-keeps : goal.returns-in-Ok-Rejected-clause-keeps
returns-in-Ok-Rejected-clause-keeps g c =
    stop_keeps c.args.self.now.version _ _ _ _ _ (rw (c.in-Ok-Rejected.is, c.in-Ok-Rejected.field-0-is) at c.ask.ensures.keeps)

pub returns-in-Err-clause-keeps : goal.returns-in-Err-clause-keeps
returns-in-Err-clause-keeps g c =
    stop_keeps c.args.self.now.version _ _ _ _ _ (rw c.in-Err.is at c.ask.ensures.keeps)
