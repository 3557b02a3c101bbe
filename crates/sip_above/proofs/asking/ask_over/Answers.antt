use Rattle.std.proofs.Common.{length, refl}
use Rattle.sip_field.specs.Moduli.{m61_modulus}
use Rattle.sip_heavy.specs.Protocol.{above_asked}
use Rattle.sip_wire.proofs.Asking.{query-fits}
use Rattle.sip_above.specs.Questions.{query_of}
use Rattle.sip_above.proofs.LargeAsked.{large_keeps, root_answers}
use Rattle.sip_above.proofs.asking.ask_over.Goals as goal

pub ask-asked-requires-clause-fits : goal.ask-asked-requires-clause-fits
ask-asked-requires-clause-fits g c = rw c.query-query.ensures (query-fits c.args.version (length c.args.root.now.seat) (query_of c.args.large) c.requires.speaks (c.requires.some, c.requires.most))

pub ask-asked-requires-clause-stood : goal.ask-asked-requires-clause-stood
ask-asked-requires-clause-stood g c = (_, c.start_above-check.ensures.stands c.args.version c.args.places.now c.requires.room)

pub returns-clause-over : goal.returns-clause-over
returns-clause-over g c =
    let root = c.args.root.now in
    let stood = c.start_above-check.ensures.stands c.args.version c.args.places.now c.requires.room in
    let e = c.ask-asked.ensures in
    let answers = rw (c.query-query.ensures, c.start_above-check.ensures.block) at (e.answers _ refl stood) in
    record {
      asks = λ depth stream stands. root_answers c.args.version depth stream c.args.large root.seat root.hash root.weight _ _ _ _ c.ask-asked.new.places c.ask-asked.result stands answers;
      places = e.places;
      keeps = large_keeps (above_asked c.args.version m61_modulus root.hash root.weight (length root.seat) c.args.large.at_least) c.args.large root.seat _ _ _ _ c.ask-asked.new.places c.ask-asked.result answers e.peer e.keeper e.memory e.keeper_memory;
    }
