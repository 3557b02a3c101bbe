use Rattle.std.proofs.Common.{refl}
use Rattle.sip_ports.specs.Calls.{failed_of-sure}
use Rattle.sip_command_tests.specs.Moves.{audit_of, held_by}
use Rattle.sip_command_tests.proofs.Telling.{all_told, Moves-told, first_sure, second_sure, peer_sure, report_sure, keep_sure}
use Rattle.sip_command_tests.proofs.memory.run_in_memory.Goals as goal

pub returns-clause-promises : goal.returns-clause-promises
returns-clause-promises c = λ task spells.
    let old = held_by c.args.first.now c.args.second.now c.args.peer.now c.args.report.now c.args.keep.now in
    let new = held_by c.run.new.first c.run.new.second c.run.new.peer c.run.new.report c.run.new.keep in
    let told = c.run.ensures.done.keeps.moves (all_told old _) in
    let x = told.0 in (x, Moves-told old new _ _ x told.1, c.run.ensures.done.keeps.verify task spells x told.1)

pub returns-clause-played : goal.returns-clause-played
returns-clause-played c = λ task name spells.
    let old = held_by c.args.first.now c.args.second.now c.args.peer.now c.args.report.now c.args.keep.now in
    let new = held_by c.run.new.first c.run.new.second c.run.new.peer c.run.new.report c.run.new.keep in
    let told = c.run.ensures.done.keeps.moves (all_told old _) in
    let x = told.0 in (x, Moves-told old new _ _ x told.1, c.run.ensures.done.keeps.play task name spells x told.1)

pub returns-clause-seated : goal.returns-clause-seated
returns-clause-seated c = λ task names spells.
    let old = held_by c.args.first.now c.args.second.now c.args.peer.now c.args.report.now c.args.keep.now in
    let new = held_by c.run.new.first c.run.new.second c.run.new.peer c.run.new.report c.run.new.keep in
    let told = c.run.ensures.done.keeps.moves (all_told old _) in
    let x = told.0 in (x, Moves-told old new _ _ x told.1, c.run.ensures.done.keeps.panel task names spells x told.1)

pub returns-clause-looked : goal.returns-clause-looked
returns-clause-looked c = λ task spells.
    let old = held_by c.args.first.now c.args.second.now c.args.peer.now c.args.report.now c.args.keep.now in
    let new = held_by c.run.new.first c.run.new.second c.run.new.peer c.run.new.report c.run.new.keep in
    let told = c.run.ensures.done.keeps.moves (all_told old _) in
    let x = told.0 in (x, Moves-told old new _ _ x told.1, c.run.ensures.done.keeps.look task spells x told.1)

pub returns-clause-summed : goal.returns-clause-summed
returns-clause-summed c = λ task spells.
    let old = held_by c.args.first.now c.args.second.now c.args.peer.now c.args.report.now c.args.keep.now in
    let new = held_by c.run.new.first c.run.new.second c.run.new.peer c.run.new.report c.run.new.keep in
    let told = c.run.ensures.done.keeps.moves (all_told old _) in
    let x = told.0 in (x, Moves-told old new _ _ x told.1, c.run.ensures.done.keeps.moments task spells x told.1)

pub returns-clause-made : goal.returns-clause-made
returns-clause-made c = λ depth spells. c.run.ensures.done.keeps.made depth spells _ refl

pub returns-clause-lines : goal.returns-clause-lines
returns-clause-lines c = λ form depth spells. c.run.ensures.done.keeps.lines form depth spells _ refl

pub returns-clause-wide : goal.returns-clause-wide
returns-clause-wide c = λ form depth spells. c.run.ensures.done.keeps.wide form depth spells _ refl

pub returns-clause-shown : goal.returns-clause-shown
returns-clause-shown c = λ spells. c.run.ensures.done.keeps.show spells _ refl

pub returns-clause-converted : goal.returns-clause-converted
returns-clause-converted c = λ spells. c.run.ensures.done.keeps.convert spells _ refl

pub returns-clause-audited : goal.returns-clause-audited
returns-clause-audited c = λ form spells.
    let old = held_by c.args.first.now c.args.second.now c.args.peer.now c.args.report.now c.args.keep.now in
    let new = held_by c.run.new.first c.run.new.second c.run.new.peer c.run.new.report c.run.new.keep in
    let told = c.run.ensures.done.keeps.moves (all_told old _) in
    let lines = told.0.report in (
      lines,
      (Moves-told old new _ _ told.0 told.1).report,
      c.run.ensures.done.keeps.audit form spells (audit_of old new lines) (record { stream = refl; unread = refl; stored = refl; left = refl; report = told.1.report }),
    )

pub returns-clause-help : goal.returns-clause-help
returns-clause-help c = c.run.ensures.done.keeps.help

pub returns-clause-help_look : goal.returns-clause-help_look
returns-clause-help_look c = c.run.ensures.done.keeps.help_look

pub returns-clause-help_moments : goal.returns-clause-help_moments
returns-clause-help_moments c = c.run.ensures.done.keeps.help_moments

pub returns-clause-served : goal.returns-clause-served
returns-clause-served c = λ form spells. c.run.ensures.done.keeps.serve form spells

pub returns-clause-listed : goal.returns-clause-listed
returns-clause-listed c = c.run.ensures.done.keeps.listed

pub returns-clause-sure_first : goal.returns-clause-sure_first
returns-clause-sure_first c = λ sure. first_sure _ _ c.run.result c.run.ensures.done.keeps.fault (failed_of-sure _ _ (c.run.ensures.first.sure sure))

pub returns-clause-sure_second : goal.returns-clause-sure_second
returns-clause-sure_second c = λ sure. second_sure _ _ c.run.result c.run.ensures.done.keeps.fault (failed_of-sure _ _ (c.run.ensures.second.sure sure))

pub returns-clause-sure_peer : goal.returns-clause-sure_peer
returns-clause-sure_peer c = λ sure. peer_sure _ _ c.run.result c.run.ensures.done.keeps.fault (failed_of-sure _ _ (c.run.ensures.peer.sure sure))

pub returns-clause-sure_report : goal.returns-clause-sure_report
returns-clause-sure_report c = λ sure. report_sure _ _ c.run.result c.run.ensures.done.keeps.fault (failed_of-sure _ _ (c.run.ensures.report.sure sure))

pub returns-clause-sure_keep : goal.returns-clause-sure_keep
returns-clause-sure_keep c = λ sure. keep_sure _ _ c.run.result c.run.ensures.done.keeps.fault (failed_of-sure _ _ (c.run.ensures.keep.sure sure))
