-- Bytes came, by the kind.
use Rattle.std.proofs.Common.{◌++◌, take, subst}
use Rattle.sip_ports.specs.Ports.{ins}
use Rattle.sip_field.specs.Moduli.{m61_modulus}
use Rattle.sip_moments.specs.Protocol.{moment_asked}
use Rattle.sip_steps.specs.declared.posing.Posing.{Posing}
use Rattle.sip_steps.specs.Openings.{message_of}
use Rattle.sip_steps.specs.Posed.{IsPosed}
use Rattle.sip_steps.proofs.Calls.{talks_on}
use Rattle.sip_steps.proofs.posing.Posing.feed.Goals as goal

pub returns-in-Entries-clause-posed : goal.returns-in-Entries-clause-posed
returns-in-Entries-clause-posed c s events is =
    let own = subst (λ (p : Posing). IsPosed s events p) c.in-Entries.is is in
    (own.0, talks_on own.1 c.feed.ensures.request (c.feed.ensures.asked own.0 (message_of s.opening) s.block events own.1.talk), own.2)

pub returns-in-Entries-clause-begun : goal.returns-in-Entries-clause-begun
returns-in-Entries-clause-begun c =
    let b = c.requires.begun in
    (b.0, b.1 ++ ins (take c.feed.result c.args.bytes.now), returns-in-Entries-clause-posed c b.0 b.1 b.2)

pub returns-in-Sum-clause-posed : goal.returns-in-Sum-clause-posed
returns-in-Sum-clause-posed c s events is =
    let own = subst (λ (p : Posing). IsPosed s events p) c.in-Sum.is is in
    (own.0, talks_on own.1 c.feed-in-Sum.ensures.request (c.feed-in-Sum.ensures.asked own.0 (message_of s.opening) s.block events own.1.talk), own.2)

pub returns-in-Sum-clause-begun : goal.returns-in-Sum-clause-begun
returns-in-Sum-clause-begun c =
    let b = c.requires.begun in
    (b.0, b.1 ++ ins (take c.feed-in-Sum.result c.args.bytes.now), returns-in-Sum-clause-posed c b.0 b.1 b.2)

pub returns-in-Heavy-clause-posed : goal.returns-in-Heavy-clause-posed
returns-in-Heavy-clause-posed c s events is =
    let own = subst (λ (p : Posing). IsPosed s events p) c.in-Heavy.is is in
    (own.0, talks_on own.1 c.feed-in-Heavy.ensures.request (c.feed-in-Heavy.ensures.asked own.0 (message_of s.opening) s.block events own.1.talk), own.2)

pub returns-in-Heavy-clause-begun : goal.returns-in-Heavy-clause-begun
returns-in-Heavy-clause-begun c =
    let b = c.requires.begun in
    (b.0, b.1 ++ ins (take c.feed-in-Heavy.result c.args.bytes.now), returns-in-Heavy-clause-posed c b.0 b.1 b.2)

pub returns-in-Moment-clause-posed : goal.returns-in-Moment-clause-posed
returns-in-Moment-clause-posed c s events is =
    let own = subst (λ (p : Posing). IsPosed s events p) c.in-Moment.is is in
    (own.0, own.1, talks_on own.2 c.feed-in-Moment.ensures.request (c.feed-in-Moment.ensures.asked (moment_asked s.version m61_modulus own.0.degree own.1) (message_of s.opening) s.block events own.2.talk), own.3)

pub returns-in-Moment-clause-begun : goal.returns-in-Moment-clause-begun
returns-in-Moment-clause-begun c =
    let b = c.requires.begun in
    (b.0, b.1 ++ ins (take c.feed-in-Moment.result c.args.bytes.now), returns-in-Moment-clause-posed c b.0 b.1 b.2)

pub feed-requires-in-Moment : goal.feed-requires-in-Moment
feed-requires-in-Moment c =
    let b = c.requires.begun in
    let own = subst (λ (p : Posing). IsPosed b.0 b.1 p) c.in-Moment.is b.2 in
    record { begun = (moment_asked b.0.version m61_modulus own.0.degree own.1, message_of b.0.opening, b.0.block, b.1, own.2.talk) }

pub feed-requires : goal.feed-requires
feed-requires c =
    let b = c.requires.begun in
    let own = subst (λ (p : Posing). IsPosed b.0 b.1 p) c.in-Entries.is b.2 in
    record { begun = (own.0, message_of b.0.opening, b.0.block, b.1, own.1.talk) }

pub feed-requires-in-Sum : goal.feed-requires-in-Sum
feed-requires-in-Sum c =
    let b = c.requires.begun in
    let own = subst (λ (p : Posing). IsPosed b.0 b.1 p) c.in-Sum.is b.2 in
    record { begun = (own.0, message_of b.0.opening, b.0.block, b.1, own.1.talk) }

pub feed-requires-in-Heavy : goal.feed-requires-in-Heavy
feed-requires-in-Heavy c =
    let b = c.requires.begun in
    let own = subst (λ (p : Posing). IsPosed b.0 b.1 p) c.in-Heavy.is b.2 in
    record { begun = (own.0, message_of b.0.opening, b.0.block, b.1, own.1.talk) }
