-- The query, its challenges, or neither.
use Rattle.std.proofs.Common.{◌+◌, ◌*◌, ℕ, refl, ap, arith}
use Rattle.std.proofs.lemmas.Result.{err_from_is_err_and}
use Rattle.sip_wire.specs.Spelling.{spelling}
use Rattle.sip_wire.specs.declared.message.Message.TheVariants as messages
use Rattle.sip_transcript.specs.Fields.{query_field}
use Rattle.sip_transcript.specs.Parts.{MayAsk}
use Rattle.sip_transcript.proofs.Growing.{ask-fails-behind, ask-taken}
use Rattle.sip_transcript.proofs.Failing.{ask-stops}
use Rattle.sip_transcript.proofs.There.{there-ok, there-err}
use Rattle.sip_transcript.proofs.head.Head.read_ask.Goals as goal

pub returns-in_err-asked-clause-bad : goal.returns-in_err-asked-clause-bad
returns-in_err-asked-clause-bad g c =
    let p = err_from_is_err_and c.from_residual.result c.from_residual.ensures.1 in
    let head = c.args.self.now in
    let not = there-err (query_field head.version head.depth) (λ asked. spelling head.version (messages.Query asked.0)) (MayAsk head.version head.depth) _ _ c.read_query.result _ _ c.in_err-asked.ensures c.read_query.ensures.reads in
    rw (p.1, p.2) (ask-stops _ _ _ _ _ _ not)

pub overflow_add-at : goal.overflow_add-at
overflow_add-at g c =
    let is = there-ok c.read_query.result _ c.in_ok-asked.asked c.in_ok-asked.ensures in
    let short = rw is at c.read_query.ensures.short in
    omega arith

pub returns-in_err-read_block-clause-bad : goal.returns-in_err-read_block-clause-bad
returns-in_err-read_block-clause-bad g c =
    let p = err_from_is_err_and c.from_residual-in_err-read_block.result c.from_residual-in_err-read_block.ensures.1 in
    let is = there-ok c.read_query.result _ c.in_ok-asked.asked c.in_ok-asked.ensures in
    let read = rw is at c.read_query.ensures.reads in
    let fails = rw c.get-levels.ensures.same at c.in_err-read_block.ensures.bad in
    rw (p.1, p.2) (ask-fails-behind c.args.self.now.version c.args.self.now.depth c.in_ok-asked.asked.1 c.args.self.now.length c.in_ok-asked.asked.0 _ _ _ _ read.0 read.1 fails)

pub returns-clause-took : goal.returns-clause-took
returns-clause-took g c =
    let head = c.args.self.now in
    let asked = c.in_ok-asked.asked in
    let is = there-ok c.read_query.result _ asked c.in_ok-asked.ensures in
    let read = rw is at c.read_query.ensures.reads in
    let block = rw c.get-levels.ensures.same at c.in_ok-read_block.ensures.took in
    ask-taken asked.1 asked.0 _ _ _ head _ c.requires.shallow read.0 read.1 block refl refl c.push.ensures.items (ap (λ (n : ℕ). (head.length + asked.1) + 8 * n) c.get-levels.ensures.same)
