-- What is due goes out, by the kind.
use Rattle.std.proofs.Common.{◌++◌, List, ℕ, sym, ap, subst, ◌∙◌}
use Rattle.sip_ports.specs.Ports.{outs}
use Rattle.sip_field.specs.Moduli.{m61_modulus}
use Rattle.sip_subvec.specs.Asking as subs
use Rattle.sip_subvec.specs.Protocol.{sub_protocol}
use Rattle.sip_sums.specs.Asking as sums
use Rattle.sip_sums.specs.Protocol.{sum_protocol}
use Rattle.sip_heavy.specs.Asking as heavies
use Rattle.sip_heavy.specs.Protocol.{heavy_protocol}
use Rattle.sip_moments.specs.Asking as moments
use Rattle.sip_moments.specs.Protocol.{moment_asked, moment_protocol}
use Rattle.sip_steps.specs.declared.posing.Posing.{Posing}
use Rattle.sip_steps.specs.declared.posing.Posing.TheVariants as kinds
use Rattle.sip_steps.specs.Openings.{message_of}
use Rattle.sip_steps.specs.Posed.{IsPosed, IsTalk, due_at}
use Rattle.sip_steps.proofs.Calls.{talks_on}
use Rattle.sip_steps.proofs.Cases.{begun_after, on_err, on_ok}
use Rattle.sip_steps.proofs.posing.Posing.due.Goals as goal

pub returns-in-Entries-clause-posed : goal.returns-in-Entries-clause-posed
returns-in-Entries-clause-posed g c s events is =
    let own = subst (λ (p : Posing). IsPosed s events p) c.in-Entries.is is in
    on_ok c.due.result
    (λ talk. (own.0, subst (λ (b : List ℕ). IsTalk (sub_protocol own.0) (subs.SubStands own.0) subs.phase_of s (events ++ outs b) c.due.new.self) (ap due_at (sym c.in-Entries.is)) (talks_on own.1 c.due.ensures.request talk), own.2))
    (c.due.ensures.asked own.0 (message_of s.opening) s.block events own.1.talk)

pub returns-in-Entries-clause-begun : goal.returns-in-Entries-clause-begun
returns-in-Entries-clause-begun g c =
    let b = c.requires.begun in
    begun_after c.due.result b.0 b.1 (b.1 ++ outs (due_at c.args.self.now)) c.args.self.now (kinds.Entries c.due.new.self) b.2
    (returns-in-Entries-clause-posed g c b.0 b.1 b.2)
    (on_err c.due.result (λ same. ap kinds.Entries same ∙ sym c.in-Entries.is) c.due.ensures.same)

pub returns-in-Sum-clause-posed : goal.returns-in-Sum-clause-posed
returns-in-Sum-clause-posed g c s events is =
    let own = subst (λ (p : Posing). IsPosed s events p) c.in-Sum.is is in
    on_ok c.due-in-Sum.result
    (λ talk. (own.0, subst (λ (b : List ℕ). IsTalk (sum_protocol own.0) (sums.SumStands own.0) sums.phase_of s (events ++ outs b) c.due-in-Sum.new.self) (ap due_at (sym c.in-Sum.is)) (talks_on own.1 c.due-in-Sum.ensures.request talk), own.2))
    (c.due-in-Sum.ensures.asked own.0 (message_of s.opening) s.block events own.1.talk)

pub returns-in-Sum-clause-begun : goal.returns-in-Sum-clause-begun
returns-in-Sum-clause-begun g c =
    let b = c.requires.begun in
    begun_after c.due-in-Sum.result b.0 b.1 (b.1 ++ outs (due_at c.args.self.now)) c.args.self.now (kinds.Sum c.due-in-Sum.new.self) b.2
    (returns-in-Sum-clause-posed g c b.0 b.1 b.2)
    (on_err c.due-in-Sum.result (λ same. ap kinds.Sum same ∙ sym c.in-Sum.is) c.due-in-Sum.ensures.same)

pub returns-in-Heavy-clause-posed : goal.returns-in-Heavy-clause-posed
returns-in-Heavy-clause-posed g c s events is =
    let own = subst (λ (p : Posing). IsPosed s events p) c.in-Heavy.is is in
    on_ok c.due-in-Heavy.result
    (λ talk. (own.0, subst (λ (b : List ℕ). IsTalk (heavy_protocol own.0) (heavies.HeavyStands own.0) heavies.phase_of s (events ++ outs b) c.due-in-Heavy.new.self) (ap due_at (sym c.in-Heavy.is)) (talks_on own.1 c.due-in-Heavy.ensures.request talk), own.2))
    (c.due-in-Heavy.ensures.asked own.0 (message_of s.opening) s.block events own.1.talk)

pub returns-in-Heavy-clause-begun : goal.returns-in-Heavy-clause-begun
returns-in-Heavy-clause-begun g c =
    let b = c.requires.begun in
    begun_after c.due-in-Heavy.result b.0 b.1 (b.1 ++ outs (due_at c.args.self.now)) c.args.self.now (kinds.Heavy c.due-in-Heavy.new.self) b.2
    (returns-in-Heavy-clause-posed g c b.0 b.1 b.2)
    (on_err c.due-in-Heavy.result (λ same. ap kinds.Heavy same ∙ sym c.in-Heavy.is) c.due-in-Heavy.ensures.same)

pub returns-in-Moment-clause-posed : goal.returns-in-Moment-clause-posed
returns-in-Moment-clause-posed g c s events is =
    let own = subst (λ (p : Posing). IsPosed s events p) c.in-Moment.is is in
    on_ok c.due-in-Moment.result
    (λ talk. (own.0, own.1, subst (λ (b : List ℕ). IsTalk (moment_protocol (moment_asked s.version m61_modulus own.0.degree own.1)) (moments.MomentStands (moment_asked s.version m61_modulus own.0.degree own.1)) moments.phase_of s (events ++ outs b) c.due-in-Moment.new.self) (ap due_at (sym c.in-Moment.is)) (talks_on own.2 c.due-in-Moment.ensures.request talk), own.3))
    (c.due-in-Moment.ensures.asked (moment_asked s.version m61_modulus own.0.degree own.1) (message_of s.opening) s.block events own.2.talk)

pub returns-in-Moment-clause-begun : goal.returns-in-Moment-clause-begun
returns-in-Moment-clause-begun g c =
    let b = c.requires.begun in
    begun_after c.due-in-Moment.result b.0 b.1 (b.1 ++ outs (due_at c.args.self.now)) c.args.self.now (kinds.Moment c.due-in-Moment.new.self) b.2
    (returns-in-Moment-clause-posed g c b.0 b.1 b.2)
    (on_err c.due-in-Moment.result (λ same. ap kinds.Moment same ∙ sym c.in-Moment.is) c.due-in-Moment.ensures.same)

pub due-requires-in-Moment : goal.due-requires-in-Moment
due-requires-in-Moment g c =
    let b = c.requires.begun in
    let own = subst (λ (p : Posing). IsPosed b.0 b.1 p) c.in-Moment.is b.2 in
    record { begun = (moment_asked b.0.version m61_modulus own.0.degree own.1, message_of b.0.opening, b.0.block, b.1, own.2.talk) }

pub due-requires : goal.due-requires
due-requires g c =
    let b = c.requires.begun in
    let own = subst (λ (p : Posing). IsPosed b.0 b.1 p) c.in-Entries.is b.2 in
    record { begun = (own.0, message_of b.0.opening, b.0.block, b.1, own.1.talk) }

pub due-requires-in-Sum : goal.due-requires-in-Sum
due-requires-in-Sum g c =
    let b = c.requires.begun in
    let own = subst (λ (p : Posing). IsPosed b.0 b.1 p) c.in-Sum.is b.2 in
    record { begun = (own.0, message_of b.0.opening, b.0.block, b.1, own.1.talk) }

pub due-requires-in-Heavy : goal.due-requires-in-Heavy
due-requires-in-Heavy g c =
    let b = c.requires.begun in
    let own = subst (λ (p : Posing). IsPosed b.0 b.1 p) c.in-Heavy.is b.2 in
    record { begun = (own.0, message_of b.0.opening, b.0.block, b.1, own.1.talk) }
