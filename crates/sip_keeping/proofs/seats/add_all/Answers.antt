use Rattle.std.proofs.Common.{◌≡◌, ℕ, ◌+◌, List, [], ◌∷◌, ◌++◌, length, replicate, sym, ap, ◌∙◌, arith}
use Rattle.std.proofs.lemmas.List.{append-nil, append_assoc, length-append, length-replicate, replicate-append-replicate}
use Rattle.sip_sketch.specs.declared.kind.SeatKind.{SeatKind}
use Rattle.sip_keeping.proofs.seats.add_all.Goals as goal

-- one more
more : (kinds old new : List SeatKind) (kind : SeatKind) (n : ℕ) → old ≡ kinds ++ replicate n kind → new ≡ old ++ kind ∷ [] → new ≡ kinds ++ replicate (n + 1) kind
more kinds old new kind n before grown =
    grown ∙ (ap (λ xs. xs ++ kind ∷ []) before ∙ (append_assoc kinds (replicate n kind) (kind ∷ []) ∙ ap (λ xs. kinds ++ xs) (replicate-append-replicate n 1 kind)))

-- they are as many as there were, and those that were added
many : (kinds now : List SeatKind) (kind : SeatKind) (n : ℕ) → now ≡ kinds ++ replicate n kind → length now ≡ length kinds + n
many kinds now kind n is = ap length is ∙ (length-append kinds (replicate n kind) ∙ ap (λ k. length kinds + k) (length-replicate n kind))

pub loop-init : goal.loop-init
loop-init c = sym (append-nil c.args.kinds.now.items)

pub push-requires : goal.push-requires
push-requires c =
    let now = many _ _ _ _ c.loop.invariant in
    (omega arith, omega (arith, now, c.requires, c.loop-test.true))

pub loop-preserved : goal.loop-preserved
loop-preserved c = more _ _ _ _ _ c.loop.invariant c.push.ensures.items

pub returns : goal.returns
returns c =
    let whole : c.loop.counter ≡ c.args.count = omega arith in
    rw (← whole) c.loop.invariant
