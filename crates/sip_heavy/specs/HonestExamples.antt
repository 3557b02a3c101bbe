-- The honest replies that the laws work out: the entries of at least 4 of (3, 0, 5, 1) at the
-- challenges (2, 10).
use Rattle.std.specs.Prelude.{ℕ, ℤ, pos, negsuc, List, [], ◌∷◌, ◌++◌, replicate}
use Rattle.sip_wire.specs.declared.message.Mark.{Mark}
use Rattle.sip_wire.specs.declared.message.Message.{Message}
use Rattle.sip_wire.specs.declared.message.Message.TheVariants as messages
use Rattle.sip_wire.specs.declared.version.Version.{Version}
use Rattle.sip_wire.specs.declared.version.Version.TheVariants.{One, Two}

-- LevelEnd
abbrev pub level_end : List ℕ
level_end = 0x17 ∷ 0x00 ∷ 0x00 ∷ []

-- a small index, and a small number of eight bytes
abbrev pub index_bytes : Version → ℕ → List ℕ
index_bytes One i = replicate 3 0 ++ i ∷ []
index_bytes Two i = replicate 7 0 ++ i ∷ []

abbrev pub eight : ℕ → List ℕ
eight n = replicate 7 0 ++ n ∷ []

-- Leaves (2, 5) and (3, 1), then LevelEnd
abbrev pub reply_0 : Version → List ℕ
reply_0 One =
    0x15 ∷ 0x00 ∷ 0x1a ∷ 0x00 ∷ 0x02 ∷ index_bytes One 2 ++ eight 5 ++ index_bytes One 3 ++ eight 1
    ++ level_end
reply_0 Two =
    0x15 ∷ 0x00 ∷ 0x22 ∷ 0x00 ∷ 0x02 ∷ index_bytes Two 2 ++ eight 5 ++ index_bytes Two 3 ++ eight 1
    ++ level_end

-- Nodes (0, 9, 3), then LevelEnd
abbrev pub reply_1 : Version → List ℕ
reply_1 One =
    0x16 ∷ 0x00 ∷ 0x16 ∷ 0x00 ∷ 0x01 ∷ index_bytes One 0 ++ eight 9 ++ eight 3 ++ level_end
reply_1 Two =
    0x16 ∷ 0x00 ∷ 0x1a ∷ 0x00 ∷ 0x01 ∷ index_bytes Two 0 ++ eight 9 ++ eight 3 ++ level_end

-- ---- marks: the entries of at least 3 and of at least 6 of (0, 5, -9, 3) with the weights
-- (0, 5, 9, 5)

abbrev pub mark : ℕ → ℤ → ℕ → Mark
mark i v w = record { item = i; value = v; weight = w }

-- both pairs have a weight of at least 3
abbrev pub marks_of_three : List Message
marks_of_three =
    messages.Marks (record {
      items = mark 0 (pos 0) 0 ∷ mark 1 (pos 5) 5 ∷ mark 2 (negsuc 8) 9 ∷ mark 3 (pos 3) 5 ∷ [];
    })
    ∷ messages.LevelEnd ∷ []

-- one of them has 6
abbrev pub marks_of_six : List Message
marks_of_six =
    messages.Marks (record { items = mark 2 (negsuc 8) 9 ∷ mark 3 (pos 3) 5 ∷ [] })
    ∷ messages.LevelEnd ∷ []

-- and the node above the other is shown
abbrev pub node_of_six : List Message
node_of_six =
    messages.Nodes (record { items = record { index = 0; hash = 60; count = 5 } ∷ [] })
    ∷ messages.LevelEnd ∷ []
