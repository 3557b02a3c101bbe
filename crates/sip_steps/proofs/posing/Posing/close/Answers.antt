-- The other end closed, by the kind.
use Rattle.std.proofs.Common.{◌++◌, List, sym, ap, subst}
use Rattle.sip_ports.specs.declared.port.TalkEvent.{TalkEvent}
use Rattle.sip_field.specs.Moduli.{m61_modulus}
use Rattle.sip_subvec.specs.Asking as subs
use Rattle.sip_subvec.specs.Protocol.{sub_protocol}
use Rattle.sip_sums.specs.Asking as sums
use Rattle.sip_sums.specs.Protocol.{sum_protocol}
use Rattle.sip_heavy.specs.Asking as heavies
use Rattle.sip_heavy.specs.Protocol.{heavy_protocol}
use Rattle.sip_moments.specs.Asking as moments
use Rattle.sip_moments.specs.Protocol.{moment_asked, moment_protocol}
use Rattle.sip_steps.specs.declared.posing.Posing.{Posing}
use Rattle.sip_steps.specs.Asked.{end_heard}
use Rattle.sip_steps.specs.Openings.{message_of}
use Rattle.sip_steps.specs.Posed.{IsPosed, IsTalk, stage_at}
use Rattle.sip_steps.proofs.Calls.{talks_on}
use Rattle.sip_steps.proofs.posing.Posing.close.Goals as goal

pub returns-in-Entries-clause-posed : goal.returns-in-Entries-clause-posed
returns-in-Entries-clause-posed c s events is =
    let own = subst (λ (p : Posing). IsPosed s events p) c.in-Entries.is is in
    (own.0, subst (λ (e : List TalkEvent). IsTalk (sub_protocol own.0) (subs.SubStands own.0) subs.phase_of s (events ++ e) c.close.new.self) (ap (λ (p : Posing). end_heard (stage_at p)) (sym c.in-Entries.is)) (talks_on own.1 c.close.ensures.request (c.close.ensures.asked own.0 (message_of s.opening) s.block events own.1.talk)), own.2)

pub returns-in-Entries-clause-begun : goal.returns-in-Entries-clause-begun
returns-in-Entries-clause-begun c =
    let b = c.requires.begun in
    (b.0, b.1 ++ end_heard (stage_at c.args.self.now), returns-in-Entries-clause-posed c b.0 b.1 b.2)

pub returns-in-Sum-clause-posed : goal.returns-in-Sum-clause-posed
returns-in-Sum-clause-posed c s events is =
    let own = subst (λ (p : Posing). IsPosed s events p) c.in-Sum.is is in
    (own.0, subst (λ (e : List TalkEvent). IsTalk (sum_protocol own.0) (sums.SumStands own.0) sums.phase_of s (events ++ e) c.close-in-Sum.new.self) (ap (λ (p : Posing). end_heard (stage_at p)) (sym c.in-Sum.is)) (talks_on own.1 c.close-in-Sum.ensures.request (c.close-in-Sum.ensures.asked own.0 (message_of s.opening) s.block events own.1.talk)), own.2)

pub returns-in-Sum-clause-begun : goal.returns-in-Sum-clause-begun
returns-in-Sum-clause-begun c =
    let b = c.requires.begun in
    (b.0, b.1 ++ end_heard (stage_at c.args.self.now), returns-in-Sum-clause-posed c b.0 b.1 b.2)

pub returns-in-Heavy-clause-posed : goal.returns-in-Heavy-clause-posed
returns-in-Heavy-clause-posed c s events is =
    let own = subst (λ (p : Posing). IsPosed s events p) c.in-Heavy.is is in
    (own.0, subst (λ (e : List TalkEvent). IsTalk (heavy_protocol own.0) (heavies.HeavyStands own.0) heavies.phase_of s (events ++ e) c.close-in-Heavy.new.self) (ap (λ (p : Posing). end_heard (stage_at p)) (sym c.in-Heavy.is)) (talks_on own.1 c.close-in-Heavy.ensures.request (c.close-in-Heavy.ensures.asked own.0 (message_of s.opening) s.block events own.1.talk)), own.2)

pub returns-in-Heavy-clause-begun : goal.returns-in-Heavy-clause-begun
returns-in-Heavy-clause-begun c =
    let b = c.requires.begun in
    (b.0, b.1 ++ end_heard (stage_at c.args.self.now), returns-in-Heavy-clause-posed c b.0 b.1 b.2)

pub returns-in-Moment-clause-posed : goal.returns-in-Moment-clause-posed
returns-in-Moment-clause-posed c s events is =
    let own = subst (λ (p : Posing). IsPosed s events p) c.in-Moment.is is in
    (own.0, own.1, subst (λ (e : List TalkEvent). IsTalk (moment_protocol (moment_asked s.version m61_modulus own.0.degree own.1)) (moments.MomentStands (moment_asked s.version m61_modulus own.0.degree own.1)) moments.phase_of s (events ++ e) c.close-in-Moment.new.self) (ap (λ (p : Posing). end_heard (stage_at p)) (sym c.in-Moment.is)) (talks_on own.2 c.close-in-Moment.ensures.request (c.close-in-Moment.ensures.asked (moment_asked s.version m61_modulus own.0.degree own.1) (message_of s.opening) s.block events own.2.talk)), own.3)

pub returns-in-Moment-clause-begun : goal.returns-in-Moment-clause-begun
returns-in-Moment-clause-begun c =
    let b = c.requires.begun in
    (b.0, b.1 ++ end_heard (stage_at c.args.self.now), returns-in-Moment-clause-posed c b.0 b.1 b.2)

pub close-requires-in-Moment : goal.close-requires-in-Moment
close-requires-in-Moment c =
    let b = c.requires.begun in
    let own = subst (λ (p : Posing). IsPosed b.0 b.1 p) c.in-Moment.is b.2 in
    record { begun = (moment_asked b.0.version m61_modulus own.0.degree own.1, message_of b.0.opening, b.0.block, b.1, own.2.talk) }

pub close-requires : goal.close-requires
close-requires c =
    let b = c.requires.begun in
    let own = subst (λ (p : Posing). IsPosed b.0 b.1 p) c.in-Entries.is b.2 in
    record { begun = (own.0, message_of b.0.opening, b.0.block, b.1, own.1.talk) }

pub close-requires-in-Sum : goal.close-requires-in-Sum
close-requires-in-Sum c =
    let b = c.requires.begun in
    let own = subst (λ (p : Posing). IsPosed b.0 b.1 p) c.in-Sum.is b.2 in
    record { begun = (own.0, message_of b.0.opening, b.0.block, b.1, own.1.talk) }

pub close-requires-in-Heavy : goal.close-requires-in-Heavy
close-requires-in-Heavy c =
    let b = c.requires.begun in
    let own = subst (λ (p : Posing). IsPosed b.0 b.1 p) c.in-Heavy.is b.2 in
    record { begun = (own.0, message_of b.0.opening, b.0.block, b.1, own.1.talk) }
