use Rattle.sip_session.proofs.HonestCarried.{carried}
use Rattle.sip_session.proofs.honesty.panels_with_an_honest_helper_are_carried.Goals as goal

pub returns : goal.returns
returns c = λ helpers task x attempts before now status of ends cause one good none. carried helpers task x of.some of.most of.room of.can attempts of.are good before now status ends cause none
