-- The records that were read come to what was told.
use Rattle.std.proofs.Common.{◌≡◌, Some, false, rules, [], ap, sym, ◌∙◌}
use Rattle.std.specs.Prelude.{is_err}
use Rattle.sip_vector.specs.Tallies.{tally}
use Rattle.sip_vector.specs.declared.tally.Tally.{Tally}
use Rattle.sip_stream.specs.Reading.{Reading}
use Rattle.sip_questions.specs.StoreFronts.{held_by}
use Rattle.sip_questions.proofs.StoreHeard.{none_legal}
use Rattle.sip_questions.proofs.StoreReading.{hears_read}
use Rattle.sip_questions.proofs.weighing.is_same_again.Goals as goal

pub read_front-requires-clause-behind : goal.read_front-requires-clause-behind
read_front-requires-clause-behind g c = c.resumed-reader.ensures.after [] (none_legal c.args.depth) (sym c.nothing_told.ensures)

pub returns-in-Some-clause-same : goal.returns-in-Some-clause-same
returns-in-Some-clause-same g c = λ yes r us depth count told.
    let unread = c.resumed-reader.ensures.after [] (none_legal c.args.depth) (sym c.nothing_told.ensures) in
    let first = c.resumed-reader.ensures.told ∙ ap (λ (t : Tally). Some t) c.nothing_told.ensures in
    let behind = c.resumed-reader.ensures.behind in
    let went : is_err c.read_front.result ≡ false = search rules in
    let (read, hears, tells) = hears_read r c.args.form c.resumed-reader.result c.read_front.new.reader (g.B.Source.left c.args.again.now) (g.B.Source.left c.read_front.new.again) c.args.count c.read_front.result
    (ap (λ (x : Reading). x.depth) behind ∙ sym depth) (ap (λ (x : Reading). x.form) behind) unread first count went c.read_front.ensures.reads in
    let some : Some c.in-Some.came ≡ Some (tally read) = sym c.in-Some.is ∙ c.tally.ensures ∙ tells in
    let came : c.in-Some.came ≡ tally read = cc in
    let same : held_by c.in-Some.came ≡ held_by c.args.told.now = search rules in
    (read, hears, ap held_by (sym came) ∙ same ∙ ap held_by told)
