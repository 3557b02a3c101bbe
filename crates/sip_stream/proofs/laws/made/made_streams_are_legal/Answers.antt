use Rattle.sip_stream.specs.Layouts.{made_form}
use Rattle.sip_stream.specs.Made.{made}
use Rattle.sip_stream.proofs.ReadStreams.{stream_back}
use Rattle.sip_stream.proofs.MadeStreams.{made_is_legal, made_is_strict, made_form_deep}
use Rattle.sip_stream.proofs.laws.made.made_streams_are_legal.Goals as goal

pub returns-clause-legal : goal.returns-clause-legal
returns-clause-legal c = made_is_legal

pub returns-clause-strict : goal.returns-clause-strict
returns-clause-strict c = made_is_strict

pub returns-clause-read : goal.returns-clause-read
returns-clause-read c = λ x count depth some most few. stream_back depth (made_form depth) (made x count depth) (made_form_deep depth most) (made_is_legal x count depth some few)
