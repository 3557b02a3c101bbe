use Rattle.std.proofs.Common.{◌≡◌, ◌∷◌, [], length, map, arith, length-append}
use Rattle.std.proofs.lemmas.List.Elements.{All-push}
use Rattle.sip_cli.proofs.PanelLemmas.{none_told}
use Rattle.sip_cli.proofs.panelling.panel_named.Goals as goal

pub loop-name-preserved : goal.loop-name-preserved
loop-name-preserved g c =
    let before = c.loop-name.links.items in
    let more = c.in_ok-push.ensures.items in
    let one = length-append before (c.in_ok-new.field-0 ∷ []) in
    record {
      rested = rw more (All-push (λ l. l.kept.talk.items ≡ []) before c.in_ok-new.field-0 c.loop-name.invariant.rested c.in_ok-new.ensures.talk);
      count = rw more (omega (arith, one, c.loop-name.invariant.count));
    }

pub returns-clause-seated : goal.returns-clause-seated
returns-clause-seated g c =
    let rests = c.loop-name.invariant in
    let all : length c.loop-name.links.items ≡ length c.args.names.now = omega (arith, rests.count, c.loop-name-test.false, c.loop-name.auto.name-index-end) in
    record {
      talks = map (λ l. l.kept.talk.items) c.panel.new.links.items;
      keeps = rw (none_told (λ l. l.kept.talk.items) c.loop-name.links.items (length c.args.names.now) all rests.rested, all) at c.panel.ensures.keeps;
      peer = c.panel.ensures.peer;
      keep = c.panel.ensures.keep;
    }

pub returns-clause-negatives : goal.returns-clause-negatives
returns-clause-negatives g c = c.panel.ensures.negatives
