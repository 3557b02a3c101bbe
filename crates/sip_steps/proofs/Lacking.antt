-- Bytes of a frame that are too few for a look at it: they end neither its head nor the frame.
use Rattle.std.proofs.Common.{ℕ, ◌-◌, ◌<◌, ◌≤◌, ◌++◌, List, inl, inr, length, refl, sym, subst, arith, length-append}
use Rattle.std.proofs.lemmas.Bool.{cases_lt}
use Rattle.sip_wire.specs.declared.kind.Place.{Place}
use Rattle.sip_wire.specs.declared.version.Version.{Version}
use Rattle.sip_wire.specs.Spelling.{asked}
use Rattle.sip_wire.specs.Taking.{room_for}
use Rattle.sip_wire.proofs.AtHand.{room_in_body, room_in_head}
use Rattle.sip_wire.proofs.ReadingLaws.{asked-append, asked-least}

module _ (version : Version) (place : Place) (part more : List ℕ) (lacking : ℕ) (lacks : lacking ≤ room_for version place part) (few : length more < lacking) where
  -- in the head, or behind it
  in_head : length part < 3 → lacking ≤ 3 - length part
  in_head less = subst (λ (n : ℕ). lacking ≤ n) (sym (room_in_head version place part (3 - length part) less refl)) lacks

  in_body : 3 ≤ length part → lacking ≤ asked version place part - length part
  in_body three = subst (λ (n : ℕ). lacking ≤ n) (sym (room_in_body version place part (asked version place part - length part) three refl)) lacks

  -- there is room for them
  pub lacking_room : length more ≤ room_for version place part
  lacking_room = omega (arith, lacks, few)

  -- with them the frame is not whole
  pub lacking_short : length (part ++ more) < asked version place (part ++ more)
  lacking_short = elim (cases_lt (length part) 3) [
    | inl less ↦ let own = in_head less in omega (arith, own, few, less, length-append part more, asked-least version place (part ++ more))
    | inr three ↦ let own = in_body three in omega (arith, own, few, three, length-append part more, asked-append version place part more three)
  ]

  -- and it lacks as many less
  pub lacking_less : lacking - length more ≤ room_for version place (part ++ more)
  lacking_less = elim (cases_lt (length part) 3) [
    | inl less ↦
        let own = in_head less in
        let head : length (part ++ more) < 3 = omega (arith, own, few, less, length-append part more) in
        subst (λ (n : ℕ). lacking - length more ≤ n) (room_in_head version place (part ++ more) (3 - length (part ++ more)) head refl)
        (omega (arith, own, few, less, length-append part more))
    | inr three ↦
        let own = in_body three in
        let body : 3 ≤ length (part ++ more) = omega (arith, three, length-append part more) in
        subst (λ (n : ℕ). lacking - length more ≤ n) (room_in_body version place (part ++ more) (asked version place (part ++ more) - length (part ++ more)) body refl)
        (omega (arith, own, few, three, length-append part more, asked-append version place part more three))
  ]
