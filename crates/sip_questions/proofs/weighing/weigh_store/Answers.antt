-- The sizes of records that come to what was told were heard.
use Rattle.std.proofs.Common.{◌≡◌, false, rules, ap, sym, ◌∙◌}
use Rattle.std.specs.Prelude.{is_err}
use Rattle.sip_wire.specs.declared.message.Message.TheVariants as messages
use Rattle.sip_helper.specs.Turns.{HelperState, fresh, step}
use Rattle.sip_helper.proofs.Turning.{on_ok_holds}
use Rattle.sip_questions.proofs.StoreHeard.{open_fits}
use Rattle.sip_questions.proofs.weighing.weigh_store.Goals as goal

pub hear-requires-clause-fits : goal.hear-requires-clause-fits
hear-requires-clause-fits g c = open_fits c.get-depth.result c.get-depth.ensures.some c.get-depth.ensures.most

pub hear_records-requires : goal.hear_records-requires
hear_records-requires g c =
    let (r, number, depth, count) = c.requires.recalls in
    let went : is_err c.hear.result ≡ false = search rules in
    let heard = on_ok_holds _ c.hear.result went c.hear.ensures.heard in
    let opened = ap (λ n. step fresh heard.0 (messages.Open n c.get-depth.result)) (sym number) ∙ ap (λ n. step fresh heard.0 (messages.Open r.number n)) (c.get-depth.ensures.same ∙ sym depth) in
    record { opened = (r, heard.0, heard.1 ∙ ap (λ (s : HelperState). step s heard.0 (messages.Open 2 c.get-depth.result)) c.new-weights.ensures ∙ opened, sym count) }
