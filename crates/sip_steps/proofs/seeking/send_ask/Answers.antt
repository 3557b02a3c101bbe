-- An Ask has a spelling in each version.
use Rattle.std.proofs.Common.{ℕ, sym, subst, arith}
use Rattle.std.specs.Prelude.{IsTrue}
use Rattle.sip_wire.specs.declared.message.Message.TheVariants.{AskLook}
use Rattle.sip_wire.specs.Spelling.{fits}
use Rattle.sip_lookup.specs.Frames.{code_of}
use Rattle.sip_lookup.proofs.OwedLooks.{ask_fits}
use Rattle.sip_steps.proofs.seeking.send_ask.Goals as goal

pub encode-requires : goal.encode-requires
encode-requires g c =
    let type_inv = c.item.type_inv in
    subst (λ (k : ℕ). IsTrue (fits c.args.version (AskLook k c.item.result))) (sym c.code.ensures)
    (subst (λ (i : ℕ). IsTrue (fits c.args.version (AskLook (code_of c.args.lookup) i))) (sym c.item.ensures)
    (ask_fits c.args.version c.args.lookup (omega (arith, type_inv, c.item.ensures))))
