use Rattle.std.proofs.Common.{◌/◌, ◌∙◌, length, ap, sym}
use Rattle.sip_c.proofs.Recorded.{count_is}
use Rattle.sip_c.proofs.records.RecordsCodes.count.Goals as goal

pub returns : goal.returns
returns c =
    let bytes = c.args.self.now.bytes.now in
    ap (λ n. length bytes / n) c.size_of.ensures ∙ sym (count_is c.args.self.now.width bytes)
