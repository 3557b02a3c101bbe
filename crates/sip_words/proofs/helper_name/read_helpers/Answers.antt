use Rattle.std.proofs.Common.{◌≡◌, None, length, lit<, sym, ap, ◌∙◌, arith, rules}
use Rattle.std.proofs.lemmas.Bool.{eqb-true}
use Rattle.std.proofs.lemmas.Iterator.Consumers.{YieldsList-at, YieldsList-end, YieldsList-turn}
use Rattle.std.proofs.lemmas.Iterator.Splits.{YieldsList-from_str_split}
use Rattle.std.proofs.lemmas.List.{length-map}
use Rattle.sip_words.specs.Shapes.{helper_word}
use Rattle.sip_words.proofs.HelperWords.{count_named, part_names}
use Rattle.sip_words.proofs.helper_name.read_helpers.Goals as goal

pub returns-in_err-name : goal.returns-in_err-name
returns-in_err-name c =
    let t = YieldsList-turn (YieldsList-at c.into_iter-name-iterator.ensures.into_iter_gives (YieldsList-from_str_split 44 c.args.word.now (lit< tt) c.split-name-items.ensures.text c.split-name-items.ensures.has_more c.split-name-items.ensures.pattern)) c.loop-name.yielded _ c.loop-name.yielded_by _ _ c.in-Some.name c.in-Some.is c.next.ensures.steps in
    let none : c.from_residual.result ≡ None = search rules in
    rw none (λ names are.
    let one = part_names c.args.word.now _ _ names t.0 t.1 are in
    absurd (c.in_err-name.ensures one.0 one.1))

pub returns-then-is_full : goal.returns-then-is_full
returns-then-is_full c = λ names are.
    let t = YieldsList-turn (YieldsList-at c.into_iter-name-iterator.ensures.into_iter_gives (YieldsList-from_str_split 44 c.args.word.now (lit< tt) c.split-name-items.ensures.text c.split-name-items.ensures.has_more c.split-name-items.ensures.pattern)) c.loop-name.yielded _ c.loop-name.yielded_by _ _ c.in-Some.name c.in-Some.is c.next.ensures.steps in
    let count = count_named c.args.word.now names are in
    let few = are.0 in
    let named = ap length c.loop-name.invariant.named in
    let yielded = length-map c.loop-name.yielded (λ x. x.now) in
    let read = length-map c.loop-name.names.items helper_word in
    let full : length c.loop-name.names.items ≡ 16 = eqb-true _ _ (sym c.is_full.ensures.value ∙ c.if-is_full.true) in
    absurd (omega (arith, count, few, named, yielded, read, t.0, full))

pub returns : goal.returns
returns c =
    let e = YieldsList-end (YieldsList-at c.into_iter-name-iterator.ensures.into_iter_gives (YieldsList-from_str_split 44 c.args.word.now (lit< tt) c.split-name-items.ensures.text c.split-name-items.ensures.has_more c.split-name-items.ensures.pattern)) c.loop-name.yielded _ c.loop-name.yielded_by _ _ c.in-None.is c.next.ensures.steps in
    (c.loop-name.invariant.room, sym e.0 ∙ c.loop-name.invariant.named)
