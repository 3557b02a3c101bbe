-- The example that the laws work out: the entries 1 to 2 of (3, 0, 5, 1) at the challenges (2, 10).
use Rattle.std.specs.Prelude.{ℕ, ◌+◌, ◌%◌, pos, Some, None, List, [], ◌∷◌, Result, replicate, ◌++◌}
use Rattle.sip_field.specs.Moduli.{m61_modulus}
use Rattle.sip_vector.specs.Answers.{Answer}
use Rattle.sip_wire.specs.declared.version.Version.{Version}
use Rattle.sip_wire.specs.declared.version.Version.TheVariants.{One, Two}
use Rattle.sip_replies.specs.Replies.{Fault, verdict}
use Rattle.sip_subvec.specs.AcceptsSub.{Siblings, Stated}
use Rattle.sip_subvec.specs.Protocol.{sub_asked, sub_protocol}

-- the entry (2, v), alone
abbrev pub entry_2 : Version → ℕ → List ℕ
entry_2 One v =
    0x13 ∷ 0x00 ∷ 0x0e ∷ 0x00 ∷ 0x01 ∷ 0x00 ∷ 0x00 ∷ 0x00 ∷ 0x02 ∷ replicate 7 0 ++ v ∷ []
entry_2 Two v =
    0x13 ∷ 0x00 ∷ 0x12 ∷ 0x00 ∷ 0x01 ∷ replicate 7 0 ++ 0x02 ∷ replicate 7 0 ++ v ∷ []

-- Siblings l and r, alone
abbrev pub both : ℕ → ℕ → List ℕ
both l r = 0x14 ∷ 0x00 ∷ 0x11 ∷ 0x03 ∷ replicate 7 0 ++ l ∷ replicate 7 0 ++ r ∷ []

-- Entries (2, 5), then Siblings 3 and 1
abbrev pub reply_0 : Version → List ℕ
reply_0 version = entry_2 version 5 ++ both 3 1

-- Siblings with neither
abbrev pub reply_1 : List ℕ
reply_1 = 0x14 ∷ 0x00 ∷ 0x01 ∷ 0x00 ∷ []

-- Siblings with 1 on the left alone
abbrev pub left_one : List ℕ
left_one = 0x14 ∷ 0x00 ∷ 0x09 ∷ 0x02 ∷ replicate 7 0 ++ 0x01 ∷ []

-- Entries (0, 3) and (1, 5), then Siblings with neither
abbrev pub both_entries : Version → List ℕ
both_entries One =
    0x13 ∷ 0x00 ∷ 0x1a ∷ 0x00 ∷ 0x02 ∷ replicate 4 0 ++ replicate 7 0 ++ 0x03 ∷
    0x00 ∷ 0x00 ∷ 0x00 ∷ 0x01 ∷ replicate 7 0 ++ 0x05 ∷ reply_1
both_entries Two =
    0x13 ∷ 0x00 ∷ 0x22 ∷ 0x00 ∷ 0x02 ∷ replicate 8 0 ++ replicate 7 0 ++ 0x03 ∷
    replicate 7 0 ++ 0x01 ∷ replicate 7 0 ++ 0x05 ∷ reply_1

-- what these replies to `sub:1:2` give
abbrev pub verdict_of : Version → List (List ℕ) → Result Answer Fault
verdict_of version replies =
    verdict (sub_protocol (sub_asked version m61_modulus 73 1 2 (2 ∷ 10 ∷ [])))
    (2 ∷ 10 ∷ []) replies

-- no sibling on either side
abbrev pub neither : Siblings
neither = record { left = None; right = None }

-- what the honest replies to `sub:1:2` state
abbrev pub stated_inner : Stated
stated_inner = record {
  entries = record { index = 2; value = pos 5 } ∷ [];
  siblings = record { left = Some 3; right = Some 1 } ∷ neither ∷ [];
}

-- what those to `sub:0:3` state
abbrev pub stated_whole : Stated
stated_whole = record {
  entries =
      record { index = 0; value = pos 3 } ∷ record { index = 2; value = pos 5 }
      ∷ record { index = 3; value = pos 1 } ∷ [];
  siblings = neither ∷ neither ∷ [];
}

-- the entry (0, v), with these siblings
abbrev pub states_first : ℕ → List Siblings → Stated
states_first v siblings = record {
  entries = record { index = 0; value = pos v } ∷ [];
  siblings = siblings;
}

-- the right sibling 4, whatever is revealed
abbrev pub guessed_sibling : List ℕ → Siblings
guessed_sibling challenges = record { left = None; right = Some 4 }

-- the right sibling 30, and then r_1 - 1, modulo 31
abbrev pub two_siblings : List ℕ → Siblings
two_siblings [] = record { left = None; right = Some 30 }
two_siblings (r ∷ _) = record { left = None; right = Some ((r + 30) % 31) }
