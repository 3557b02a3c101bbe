-- Several pieces are sent one after another, and the last one may be cut short.
use Rattle.std.proofs.Common.{◌≡◌, ℕ, ◌+◌, List, ◌++◌, length, take, Result, Ok, Err, sym, subst, arith, length-append}
use Rattle.std.specs.declared.option.Option.{Option}
use Rattle.std.proofs.lemmas.List.{take-append-le}
use Rattle.std.proofs.Math.Seq.{take-append-add}
use Rattle.sip_ports.specs.declared.port.TalkEvent.{TalkEvent}
use Rattle.sip_ports.specs.Ports.{GoesOn, SendsWhole, outs}
use Rattle.sip_ports.proofs.TalkLemmas.{GoesOn-trans, outs-append}

module _ (a b : Option (List TalkEvent)) where
  -- a piece behind what was sent
  pub sends_after : {T E : Type 0} (c : Option (List TalkEvent)) (r : Result T E) (xs ys : List ℕ) → GoesOn a b (outs xs) → SendsWhole b c r ys → SendsWhole a c r (xs ++ ys)
  sends_after c (Ok x) xs ys before now = subst (GoesOn a c) (sym (outs-append xs ys)) (GoesOn-trans a b c (outs xs) (outs ys) before now)
  sends_after c (Err e) xs ys before now =
      let n = now.0 in
      let total = length-append xs ys in
      let front : take (length xs + n) (xs ++ ys) ≡ xs ++ take n ys = take-append-add xs ys n in
      (length xs + n, omega (arith, now.1, total), subst (λ l. GoesOn a c (outs l)) (sym front) (subst (GoesOn a c) (sym (outs-append xs (take n ys))) (GoesOn-trans a b c (outs xs) (outs (take n ys)) before now.2)))

  -- a piece that is cut short is all that follows it cut short
  pub stopped_in : {E E' : Type 0} (e : E) (e' : E') (xs ys : List ℕ) → SendsWhole {T = Unit {0}} a b (Err e) xs → SendsWhole {T = Unit {0}} a b (Err e') (xs ++ ys)
  stopped_in e e' xs ys now =
      let n = now.0 in
      let total = length-append xs ys in
      let less = now.1 in
      let front : take n (xs ++ ys) ≡ take n xs = take-append-le n xs ys (omega arith) in
      (n, omega arith, subst (λ l. GoesOn a b (outs l)) (sym front) now.2)
