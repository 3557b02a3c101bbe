-- Two whole writes in turn.
use Rattle.std.proofs.Common.{◌≡◌, ℕ, ◌+◌, ◌<◌, Result, Ok, Err, List, ◌++◌, length, take, sym, subst, arith, length-append}
use Rattle.std.specs.declared.option.Option.{Option}
use Rattle.std.proofs.Math.Seq.{take-append-add}
use Rattle.std.proofs.lemmas.List.{take-append-le}
use Rattle.sip_ports.specs.declared.port.TalkEvent.{TalkEvent}
use Rattle.sip_ports.specs.Ports.{GoesOn, SendsWhole, outs}
use Rattle.sip_ports.proofs.TalkLemmas.{GoesOn-trans, outs-append}

-- the first one sent all
pub sends_more : {T E : Type 0} (old mid new : Option (List TalkEvent)) (r : Result T E) (xs ys : List ℕ) → GoesOn old mid (outs xs) → SendsWhole mid new r ys → SendsWhole old new r (xs ++ ys)
sends_more old mid new (Ok v) xs ys front went = subst (GoesOn old new) (sym (outs-append xs ys)) (GoesOn-trans old mid new (outs xs) (outs ys) front went)
sends_more old mid new (Err e) xs ys front went =
    let n = went.0 in
    let fewer : n < length ys = went.1 in
    let whole : take (length xs + n) (xs ++ ys) ≡ xs ++ take n ys = take-append-add xs ys n in (
      length xs + n,
      omega (arith, length-append xs ys),
      subst (λ l. GoesOn old new (outs l)) (sym whole) (subst (GoesOn old new) (sym (outs-append xs (take n ys))) (GoesOn-trans old mid new (outs xs) (outs (take n ys)) front went.2)),
    )

-- the first one stopped
pub sends_short : {T E : Type 0} (old new : Option (List TalkEvent)) (r : Result T E) (e : E) (xs ys : List ℕ) → r ≡ Err e → (n : ℕ) → n < length xs → GoesOn old new (outs (take n xs)) → SendsWhole old new r (xs ++ ys)
sends_short old new r e xs ys is n fewer went =
    let same : take n (xs ++ ys) ≡ take n xs = take-append-le n xs ys (omega arith) in
    rw is (n, omega (arith, length-append xs ys), subst (λ l. GoesOn old new (outs l)) (sym same) went)
