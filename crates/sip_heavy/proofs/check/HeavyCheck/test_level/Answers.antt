use Rattle.std.proofs.Common.{◌≡◌, ◌+◌, ◌&&◌, ◌||◌, not, true, false, Result, Ok, Err, length, subst, sym}
use Rattle.std.specs.Prelude.{nat_lt}
use Rattle.sip_wire.specs.declared.message.Reason.{Reason}
use Rattle.sip_wire.specs.declared.message.Reason.TheVariants as reasons
use Rattle.sip_heavy.specs.AcceptsHeavy.{are_pairs, is_empty, end_test}
use Rattle.sip_heavy.specs.Checking.{Kept, asked_of}
use Rattle.sip_heavy.proofs.Soundness.{end_says}
use Rattle.sip_heavy.proofs.check.HeavyCheck.test_level.Goals as goal

pub returns-then-not-are_within : goal.returns-then-not-are_within
returns-then-not-are_within g c =
    let s = c.self.inside in
    let whole = subst (λ (k : Kept). (are_pairs k.nodes && (nat_lt (k.level + 1) (length k.challenges) || not (is_empty k.nodes))) ≡ true) (sym c.self.view_is) (sym c.if-not-is_whole.ensures) in
    let heavy = rw c.deref.ensures.value at (sym c.if-not-are_heavy.ensures) in
    let within = rw c.deref-2.ensures.value at (sym c.if-not-are_within.ensures) in
    subst (λ (k : Kept). ◌≡◌ {A = Result (Unit {0}) Reason} (Err reasons.Total) (end_test (asked_of k) k.level k.nodes)) c.self.view_is (sym (end_says (record { form = s.form; depth = length s.seat; at_least = s.at_least; total = s.total }) s.level s.nodes.items false whole heavy within))

pub returns : goal.returns
returns g c =
    let s = c.self.inside in
    let whole = subst (λ (k : Kept). (are_pairs k.nodes && (nat_lt (k.level + 1) (length k.challenges) || not (is_empty k.nodes))) ≡ true) (sym c.self.view_is) (sym c.if-not-is_whole.ensures) in
    let heavy = rw c.deref.ensures.value at (sym c.if-not-are_heavy.ensures) in
    let within = rw c.deref-2.ensures.value at (sym c.if-not-are_within.ensures) in
    subst (λ (k : Kept). ◌≡◌ {A = Result (Unit {0}) Reason} (Ok tt) (end_test (asked_of k) k.level k.nodes)) c.self.view_is (sym (end_says (record { form = s.form; depth = length s.seat; at_least = s.at_least; total = s.total }) s.level s.nodes.items true whole heavy within))
