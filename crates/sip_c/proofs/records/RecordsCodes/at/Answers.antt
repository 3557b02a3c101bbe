use Rattle.std.proofs.Common.{◌∙◌, ap, sym}
use Rattle.sip_c.specs.Records.{code_of}
use Rattle.sip_c.proofs.Recorded.{code_is, piece_is, piece_long, within}
use Rattle.sip_c.proofs.records.RecordsCodes.at.Goals as goal

pub piece-requires : goal.piece-requires
piece-requires c =
    within c.args.self.now.width c.args.self.now.bytes.now c.args.place c.size_of.result c.size_of.ensures c.requires

pub code_of-requires-clause-whole : goal.code_of-requires-clause-whole
code_of-requires-clause-whole c =
    piece_long c.args.self.now.width c.args.self.now.bytes.now c.args.place c.size_of.result c.piece.result.now c.size_of.ensures c.requires c.piece.ensures

pub returns : goal.returns
returns c = λ d.
    c.code_of.ensures ∙ ap (code_of c.args.self.now.width) (piece_is c.args.self.now.width c.args.self.now.bytes.now c.args.place c.size_of.result c.piece.result.now c.size_of.ensures c.piece.ensures)
    ∙ sym (code_is c.args.self.now.width c.args.self.now.bytes.now c.args.place d c.requires)
