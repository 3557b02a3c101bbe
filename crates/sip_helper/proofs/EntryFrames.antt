-- How far the entries of an answer were sent.
use Rattle.std.proofs.Common.{◌≡◌, ℕ, ◌<◌, ◌≤◌, List, [], ◌++◌, length, Ok, Err, refl, sym, ap, subst, ◌∙◌, arith, append-nil, append_assoc, length-append}
use Rattle.std.specs.declared.option.Option.{Option}
use Rattle.sip_ports.specs.declared.port.TalkEvent.{TalkEvent}
use Rattle.sip_ports.specs.Ports.{GoesOn, SendsWhole, outs}
use Rattle.sip_ports.proofs.TalkLemmas.{GoesOn-refl, GoesOn-trans, outs-append}
use Rattle.sip_vector.specs.declared.update.Entry.{Entry}
use Rattle.sip_wire.specs.declared.message.Message.TheVariants as messages
use Rattle.sip_wire.specs.declared.version.Version.{Version}
use Rattle.sip_wire.specs.Spelling.{spelling}
use Rattle.sip_helper.proofs.Rows.{framed, framed-step}
use Rattle.sip_helper.proofs.Sending.{sends_after, stopped_in}

-- the bytes in front of those of the rest were sent
pub record Partly (version : Version) (start now : Option (List TalkEvent)) (all rest : List Entry) : Type 0 where
  pub sent : List ℕ
  pub talk : GoesOn start now (outs sent)
  pub order : framed version all ≡ sent ++ framed version rest

pub begins : (version : Version) (start : Option (List TalkEvent)) (all : List Entry) → Partly version start start all all
begins version start all = record { sent = []; talk = GoesOn-refl start; order = refl }

module _ (version : Version) (start now new : Option (List TalkEvent)) (all rest rows more : List Entry) (so : Partly version start now all rest) (split : rest ≡ rows ++ more) where
  -- no row is left
  pub ends : (E : Type 0) → rows ≡ [] → (length rows < 512 → more ≡ []) → SendsWhole {T = Unit {0}} {E = E} start now (Ok tt) (framed version all)
  ends E none last =
      let nothing : rest ≡ [] = split ∙ ap (λ (l : List Entry). l ++ more) none ∙ last (omega (arith, ap length none)) in
      subst (λ l. GoesOn start now (outs l)) (sym (so.order ∙ ap (λ (l : List Entry). so.sent ++ framed version l) nothing ∙ append-nil so.sent)) so.talk

  module _ (some : 0 < length rows) (most : length rows ≤ 512) (last : length rows < 512 → more ≡ []) where
    step : framed version rest ≡ spelling version (messages.Entries (record { items = rows })) ++ framed version more
    step = ap (framed version) split ∙ framed-step version rows more some most last

    -- one more frame was sent
    pub goes_on : GoesOn now new (outs (spelling version (messages.Entries (record { items = rows })))) → Partly version start new all more
    goes_on went =
        let frame = spelling version (messages.Entries (record { items = rows })) in
        record {
          sent = so.sent ++ frame;
          talk = subst (GoesOn start new) (sym (outs-append so.sent frame)) (GoesOn-trans start now new (outs so.sent) (outs frame) so.talk went);
          order = so.order ∙ ap (λ l. so.sent ++ l) step ∙ sym (append_assoc so.sent frame (framed version more));
        }

    -- a frame was cut short
    pub stops : {E E' : Type 0} (e : E) (e' : E') → SendsWhole {T = Unit {0}} now new (Err e) (spelling version (messages.Entries (record { items = rows }))) → SendsWhole {T = Unit {0}} start new (Err e') (framed version all)
    stops {E' = E'} e e' went =
        subst (SendsWhole {T = Unit {0}} start new (Err e')) (sym (so.order ∙ ap (λ l. so.sent ++ l) step))
        (sends_after start now {T = Unit {0}} {E = E'} new (Err e') so.sent _ so.talk (stopped_in now new e e' (spelling version (messages.Entries (record { items = rows }))) (framed version more) went))

-- fewer are left behind a frame
pub fewer : (rest rows more : List Entry) → rest ≡ rows ++ more → 0 < length rows → length more < length rest
fewer rest rows more split some = omega (arith, ap length split, length-append rows more)
