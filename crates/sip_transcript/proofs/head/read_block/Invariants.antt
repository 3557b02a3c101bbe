-- As many challenges as levels have gone by.
use Rattle.sip_ports.specs.Ports.{Lasts}
use Rattle.sip_transcript.specs.Parts.{TakesBlock}
use Rattle.sip_transcript.proofs.head.read_block.Given as goal

abbrev pub invariant-loop-level : goal.invariant-loop-level
invariant-loop-level g l = record {
  took : TakesBlock l.level (g.S.Source.left l.initial.source) (g.S.Source.left l.source) l.initial.challenges.items l.challenges.items;
  lasts : Lasts g.S.Source.faults g.S.Source.wants g.S.Source.is_sure l.initial.source l.source;
}
