-- Which contents a file may have, where all that is stored has some property.
use Rattle.std.proofs.Common.{ℕ, zero, suc, List, [], ◌∷◌, ◌++◌, map, take, All, Some, sym, subst, append_assoc, append-nil}
use Rattle.std.specs.Prelude.{⊤}
use Rattle.std.specs.declared.option.Option.{Option}
use Rattle.std.proofs.lemmas.List.Elements.{All-cons, All-nil, All-push}
use Rattle.sip_ports.specs.Desk.{IsOfLink, beside_after, held_after, may_hold, steps}
use Rattle.sip_ports.specs.declared.port.TalkEvent.{TalkEvent}
use Rattle.sip_ports.specs.declared.port.TalkEvent.TheVariants.{Out, In, Ended, Fresh, Stored, Renames, Kept}
use Rattle.sip_ports.proofs.DeskLemmas.{may_hold-append}

module _ (P : Option (List ℕ) → Type 0) where
  -- each file that takes the name has the property, where the file beside has these bytes at first
  abbrev pub Leaves : List ℕ → List TalkEvent → Type 0
  Leaves beside [] = ⊤
  Leaves beside (Fresh ∷ events) = Leaves [] events
  Leaves beside (Stored b ∷ events) = Leaves (beside ++ b ∷ []) events
  Leaves beside (Renames ∷ events) = P (Some beside) × Leaves beside events
  Leaves beside (Kept ∷ events) = P (Some beside) × Leaves beside events
  Leaves beside (Out _ ∷ events) = Leaves beside events
  Leaves beside (In _ ∷ events) = Leaves beside events
  Leaves beside (Ended ∷ events) = Leaves beside events

  leaves-held : (held : List (Option (List ℕ))) (beside : List ℕ) (events : List TalkEvent) → Leaves beside events → All P held
      → All P (held_after held beside events)
  leaves-held held beside [] leaves all = all
  leaves-held held beside (Fresh ∷ events) leaves all = leaves-held held [] events leaves all
  leaves-held held beside (Stored b ∷ events) leaves all = leaves-held held (beside ++ b ∷ []) events leaves all
  leaves-held held beside (Renames ∷ events) leaves all =
      leaves-held (held ++ Some beside ∷ []) beside events leaves.1 (All-push P held (Some beside) all leaves.0)
  leaves-held held beside (Kept ∷ events) leaves all =
      leaves-held (Some beside ∷ []) beside events leaves.1 (All-cons P (Some beside) [] leaves.0 (All-nil P))
  leaves-held held beside (Out _ ∷ events) leaves all = leaves-held held beside events leaves all
  leaves-held held beside (In _ ∷ events) leaves all = leaves-held held beside events leaves all
  leaves-held held beside (Ended ∷ events) leaves all = leaves-held held beside events leaves all

  -- so behind a talk
  pub leaves-may_hold : (start : Option (List ℕ)) (talk events : List TalkEvent) → ((beside : List ℕ) → Leaves beside events)
      → All P (may_hold start talk) → All P (may_hold start (talk ++ events))
  leaves-may_hold start talk events leaves all =
      subst (All P) (sym (may_hold-append start talk events)) (leaves-held (may_hold start talk) (beside_after [] talk) events (leaves (beside_after [] talk)) all)

  pub leaves-take : (n : ℕ) (beside : List ℕ) (events : List TalkEvent) → Leaves beside events → Leaves beside (take n events)
  leaves-take zero beside events leaves = tt
  leaves-take (suc n) beside [] leaves = tt
  leaves-take (suc n) beside (Fresh ∷ events) leaves = leaves-take n [] events leaves
  leaves-take (suc n) beside (Stored b ∷ events) leaves = leaves-take n (beside ++ b ∷ []) events leaves
  leaves-take (suc n) beside (Renames ∷ events) leaves = (leaves.0, leaves-take n beside events leaves.1)
  leaves-take (suc n) beside (Kept ∷ events) leaves = (leaves.0, leaves-take n beside events leaves.1)
  leaves-take (suc n) beside (Out _ ∷ events) leaves = leaves-take n beside events leaves
  leaves-take (suc n) beside (In _ ∷ events) leaves = leaves-take n beside events leaves
  leaves-take (suc n) beside (Ended ∷ events) leaves = leaves-take n beside events leaves

  pub leaves-append : (beside : List ℕ) (events more : List TalkEvent) → Leaves beside events → ((after : List ℕ) → Leaves after more)
      → Leaves beside (events ++ more)
  leaves-append beside [] more leaves others = others beside
  leaves-append beside (Fresh ∷ events) more leaves others = leaves-append [] events more leaves others
  leaves-append beside (Stored b ∷ events) more leaves others = leaves-append (beside ++ b ∷ []) events more leaves others
  leaves-append beside (Renames ∷ events) more leaves others = (leaves.0, leaves-append beside events more leaves.1 others)
  leaves-append beside (Kept ∷ events) more leaves others = (leaves.0, leaves-append beside events more leaves.1 others)
  leaves-append beside (Out _ ∷ events) more leaves others = leaves-append beside events more leaves others
  leaves-append beside (In _ ∷ events) more leaves others = leaves-append beside events more leaves others
  leaves-append beside (Ended ∷ events) more leaves others = leaves-append beside events more leaves others

  -- the link stores nothing
  pub leaves-of_link : (beside : List ℕ) (events : List TalkEvent) → IsOfLink events → Leaves beside events
  leaves-of_link beside [] link = tt
  leaves-of_link beside (Fresh ∷ events) link = absurd link
  leaves-of_link beside (Stored b ∷ events) link = absurd link
  leaves-of_link beside (Renames ∷ events) link = absurd link
  leaves-of_link beside (Kept ∷ events) link = absurd link
  leaves-of_link beside (Out _ ∷ events) link = leaves-of_link beside events link
  leaves-of_link beside (In _ ∷ events) link = leaves-of_link beside events link
  leaves-of_link beside (Ended ∷ events) link = leaves-of_link beside events link

  leaves-stored : (beside bytes : List ℕ) → P (Some (beside ++ bytes)) → Leaves beside (map Stored bytes ++ (Renames ∷ Kept ∷ []))
  leaves-stored beside [] has = let own = subst (λ (x : List ℕ). P (Some x)) (append-nil beside) has in (own, (own, tt))
  leaves-stored beside (b ∷ bytes) has =
      leaves-stored (beside ++ b ∷ []) bytes (subst (λ (x : List ℕ). P (Some x)) (sym (append_assoc beside (b ∷ []) bytes)) has)

  -- a replacement stores its file
  pub leaves-steps : (beside file : List ℕ) → P (Some file) → Leaves beside (steps file)
  leaves-steps beside file has = leaves-stored [] file has
