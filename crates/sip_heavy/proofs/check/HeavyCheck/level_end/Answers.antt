use Rattle.std.proofs.Common.{◌≡◌, ◌<◌, Ok, Err, Result, true, length, ap, subst, sym, ◌∙◌, rules}
use Rattle.std.specs.Prelude.{nat_le, slice_index}
use Rattle.std.specs.List.{list_all}
use Rattle.sip_wire.specs.declared.message.Reason.{Reason}
use Rattle.sip_heavy.specs.AcceptsHeavy.{pair_counts, end_test, nodes_above}
use Rattle.sip_heavy.specs.Checking.{Kept, asked_of, passing_all, keeping, folded}
use Rattle.sip_heavy.proofs.Levels.{end_answers, end_refused, ended_within, nodes_are}
use Rattle.sip_heavy.proofs.check.HeavyCheck.level_end.Goals as goal

pub returns-in-Err-clause-answers : goal.returns-in-Err-clause-answers
returns-in-Err-clause-answers g c q root challenges given taken =
    let tested = subst (λ (k : Kept). Err c.in-Err.reason ≡ end_test (asked_of k) k.level k.nodes) c.pass_all.ensures c.in-Err.ensures in
    end_refused g.F.Field.MODULUS q root challenges given c.args.self.now taken _ c.in-Err.reason tested

pub fold_level-requires : goal.fold_level-requires
fold_level-requires g c =
    let tested = subst (λ (k : Kept). ◌≡◌ {A = Result (Unit {0}) Reason} (Ok c.in_default.field-0) (end_test (asked_of k) k.level k.nodes)) c.pass_all.ensures c.in_default.ensures in
    let all = passing_all c.args.self.now in
    let kept = c.keep_heavy.ensures ∙ ap (keeping g.F.Field.MODULUS) c.pass_all.ensures in
    let within = (ended_within (asked_of all) all.level all.nodes (sym tested)).1 in (
      search rules,
      (
        subst (λ (k : Kept). k.level < length k.challenges) (sym kept) c.requires.left,
        subst (λ (k : Kept). list_all (λ n. nat_le n k.total) (pair_counts k.nodes) ≡ true) (sym kept) within,
      ),
    )

pub returns-clause-answers : goal.returns-clause-answers
returns-clause-answers g c q root challenges given taken =
    let p = g.F.Field.MODULUS in
    let tested = subst (λ (k : Kept). ◌≡◌ {A = Result (Unit {0}) Reason} (Ok c.in_default.field-0) (end_test (asked_of k) k.level k.nodes)) c.pass_all.ensures c.in_default.ensures in
    end_answers p q root challenges given c.args.self.now taken (Ok tt) c.fold_level.new.self c.requires.left tested (c.fold_level.ensures ∙ ap (folded p) (c.keep_heavy.ensures ∙ ap (keeping p) c.pass_all.ensures))

pub returns-clause-known : goal.returns-clause-known
returns-clause-known g c q root challenges given taken =
    let p = g.F.Field.MODULUS in
    let old = c.args.self.now in
    let same = c.fold_level.ensures ∙ ap (folded p) (c.keep_heavy.ensures ∙ ap (keeping p) c.pass_all.ensures) in
    ap (λ (k : Kept). k.known) same
    ∙ ap (nodes_above p (slice_index old.challenges old.level)) (sym (nodes_are p q root challenges given old taken))
