-- What has a spelling in version 1 has one in version 2: no field is narrower there, and no mark is
-- missing.
use Rattle.std.proofs.Common.{◌≡◌, ℕ, zero, suc, ◌^◌, ◌≤◌, true, ◌&&◌, nat_lt, List, [], ◌∷◌, ◌++◌, refl, ◌∙◌, arith}
use Rattle.std.specs.Prelude.{IsTrue}
use Rattle.std.proofs.lemmas.Bool.{and_from, and_parts, ltb-true, lt-ltb}
use Rattle.std.proofs.lemmas.Bool.Decides.{nat_tests}
use Rattle.std.proofs.Math.Nat.{pow-le-pow_right}
use Rattle.sip_wire.specs.declared.kind.Kind.{Kind}
use Rattle.sip_wire.specs.declared.kind.Kind.TheVariants as kinds
use Rattle.sip_wire.specs.declared.message.Message.{Message}
use Rattle.sip_wire.specs.declared.version.Version.{Version}
use Rattle.sip_wire.specs.declared.version.Version.TheVariants.{One, Two}
use Rattle.sip_wire.specs.Table.{Field, Shape, counted, entry_fields, index, leaf_fields, mark_fields, most_nodes, most_rows, node_fields, query_fields, query_shape, repeat, shape, side, update_fields}
use Rattle.sip_wire.specs.Spelling.{fits, fits_shape, has_room, all_hold, kind_of, mark_of, numbers}

-- ---- fields

-- as many fields, each as wide or wider, that hold the same numbers
AreWider : List Field → List Field → Type 0
AreWider [] [] = Unit {0}
AreWider (f ∷ fs) (g ∷ gs) = (f.width ≤ g.width) × ((n : ℕ) → g.holds n ≡ f.holds n) × AreWider fs gs
AreWider _ _ = ⊥

same_fields : (fs : List Field) → AreWider fs fs
unfolding AreWider
same_fields [] = tt
same_fields (f ∷ fs) = (omega arith, λ n. refl, same_fields fs)

field_wider : (f : Field) (fs gs : List Field) → AreWider fs gs → AreWider (f ∷ fs) (f ∷ gs)
unfolding AreWider
field_wider f fs gs w = (omega arith, λ n. refl, w)

index_wider : (fs gs : List Field) → AreWider fs gs → AreWider (index One ∷ fs) (index Two ∷ gs)
unfolding AreWider
index_wider fs gs w = (omega arith, λ n. refl, w)

appended : (fs gs hs ks : List Field) → AreWider fs gs → AreWider hs ks → AreWider (fs ++ hs) (gs ++ ks)
unfolding AreWider
appended [] [] hs ks w v = v
appended [] (g ∷ gs) hs ks w v = absurd w
appended (f ∷ fs) [] hs ks w v = absurd w
appended (f ∷ fs) (g ∷ gs) hs ks w v = (w.0, w.1, appended fs gs hs ks w.2 v)

repeated : (n : ℕ) (fs gs : List Field) → AreWider fs gs → AreWider (repeat n fs) (repeat n gs)
repeated zero fs gs w = same_fields []
repeated (suc n) fs gs w = appended fs gs (repeat n fs) (repeat n gs) w (repeated n fs gs w)

-- numbers that have room in the one have room in the other
room_wider : (fs gs : List Field) (ns : List ℕ) → AreWider fs gs → has_room fs ns ≡ true → has_room gs ns ≡ true
unfolding AreWider has_room
room_wider [] [] ns w h = h
room_wider [] (g ∷ gs) ns w h = absurd w
room_wider (f ∷ fs) [] ns w h = absurd w
room_wider (f ∷ fs) (g ∷ gs) [] w h = absurd cc
room_wider (f ∷ fs) (g ∷ gs) (n ∷ ns) w h =
    let both = and_parts (nat_lt n (256 ^ f.width)) (has_room fs ns) h in
    let below = ltb-true n (256 ^ f.width) both.0 in
    let more = pow-le-pow_right {n = 256} (omega arith) w.0 in
    and_from (nat_lt n (256 ^ g.width)) (has_room gs ns) (lt-ltb n (256 ^ g.width) (omega (arith, below, more))) (room_wider fs gs ns w.2 both.1)

-- and are held there
held_wider : (fs gs : List Field) (ns : List ℕ) → AreWider fs gs → all_hold fs ns ≡ true → all_hold gs ns ≡ true
unfolding AreWider all_hold
held_wider [] [] ns w h = refl
held_wider [] (g ∷ gs) ns w h = absurd w
held_wider (f ∷ fs) [] ns w h = absurd w
held_wider (f ∷ fs) (g ∷ gs) [] w h = absurd cc
held_wider (f ∷ fs) (g ∷ gs) (n ∷ ns) w h =
    let both = and_parts (f.holds n) (all_hold fs ns) h in
    and_from (g.holds n) (all_hold gs ns) (w.1 n ∙ both.0) (held_wider fs gs ns w.2 both.1)

-- ---- shapes

-- each mark of the one is a mark of the other, with wider fields in the same order
record IsWider (s t : Shape) : Type 0 where
  marks : (mark : ℕ) → s.is_mark mark ≡ true → t.is_mark mark ≡ true
  fields : (mark : ℕ) → AreWider (s.fields mark) (t.fields mark)
  order : (mark : ℕ) (ns : List ℕ) → t.in_order mark ns ≡ s.in_order mark ns

fits_wider : (s t : Shape) (mark : ℕ) (ns : List ℕ) → IsWider s t → fits_shape s mark ns ≡ true → fits_shape t mark ns ≡ true
fits_wider s t mark ns w h =
    let fs = s.fields mark in
    let gs = t.fields mark in
    let last = and_parts (s.is_mark mark && has_room fs ns && s.in_order mark ns) (all_hold fs ns) h in
    let next = and_parts (s.is_mark mark && has_room fs ns) (s.in_order mark ns) last.0 in
    let first = and_parts (s.is_mark mark) (has_room fs ns) next.0 in
    and_from (t.is_mark mark && has_room gs ns && t.in_order mark ns) (all_hold gs ns)
    (and_from (t.is_mark mark && has_room gs ns) (t.in_order mark ns)
    (and_from (t.is_mark mark) (has_room gs ns) (w.marks mark first.0) (room_wider fs gs ns (w.fields mark) first.1))
    (w.order mark ns ∙ next.1))
    (held_wider fs gs ns (w.fields mark) last.1)

same_shape : (s : Shape) → IsWider s s
same_shape s = record { marks = λ mark is. is; fields = λ mark. same_fields (s.fields mark); order = λ mark ns. refl }

-- rows behind a count
rows_wider : (most : ℕ) (fs gs : List Field) → AreWider fs gs → IsWider (counted most fs) (counted most gs)
rows_wider most fs gs w = record { marks = λ mark is. is; fields = λ mark. repeated mark fs gs w; order = λ mark ns. refl }

query_marks : (mark : ℕ) → (query_shape One).is_mark mark ≡ true → (query_shape Two).is_mark mark ≡ true
query_marks mark h = grind (arith, nat_tests)

query_wider : (code : ℕ) → AreWider (query_fields One code) (query_fields Two code)
query_wider zero = same_fields []
query_wider (suc zero) = index_wider _ _ (index_wider _ _ (same_fields []))
query_wider (suc (suc zero)) = field_wider side _ _ (index_wider _ _ (index_wider _ _ (same_fields [])))
query_wider (suc (suc (suc zero))) = same_fields (side ∷ [])
query_wider (suc (suc (suc (suc zero)))) = same_fields []
query_wider (suc (suc (suc (suc (suc zero))))) = same_fields (query_fields One 5)
query_wider (suc (suc (suc (suc (suc (suc zero)))))) = same_fields (query_fields One 6)
query_wider (suc (suc (suc (suc (suc (suc (suc zero))))))) = same_fields (query_fields One 7)
query_wider (suc (suc (suc (suc (suc (suc (suc (suc code)))))))) = same_fields []

shape_wider : (kind : Kind) → IsWider (shape One kind) (shape Two kind)
shape_wider kinds.Open = same_shape (shape One kinds.Open)
shape_wider kinds.Updates = rows_wider most_rows (update_fields One) (update_fields Two) (field_wider side _ _ (index_wider _ _ (same_fields _)))
shape_wider kinds.EndStream = same_shape (shape One kinds.EndStream)
shape_wider kinds.Query = record { marks = query_marks; fields = query_wider; order = λ mark ns. refl }
shape_wider kinds.Reveal = same_shape (shape One kinds.Reveal)
shape_wider kinds.Bye = same_shape (shape One kinds.Bye)
shape_wider kinds.Claim = same_shape (shape One kinds.Claim)
shape_wider kinds.Poly = same_shape (shape One kinds.Poly)
shape_wider kinds.Entries = rows_wider most_rows (entry_fields One) (entry_fields Two) (index_wider _ _ (same_fields _))
shape_wider kinds.Siblings = same_shape (shape One kinds.Siblings)
shape_wider kinds.Leaves = rows_wider most_rows (leaf_fields One) (leaf_fields Two) (index_wider _ _ (same_fields _))
shape_wider kinds.Nodes = rows_wider most_nodes (node_fields One) (node_fields Two) (index_wider _ _ (same_fields _))
shape_wider kinds.LevelEnd = same_shape (shape One kinds.LevelEnd)
shape_wider kinds.Refuse = same_shape (shape One kinds.Refuse)
shape_wider kinds.AskLook = same_shape (shape One kinds.AskLook)
shape_wider kinds.Found = same_shape (shape One kinds.Found)
shape_wider kinds.End = same_shape (shape One kinds.End)
shape_wider kinds.AskMoment = same_shape (shape One kinds.AskMoment)
shape_wider (kinds.Power degree) = same_shape (shape One (kinds.Power degree))
shape_wider kinds.Held = same_shape (shape One kinds.Held)
shape_wider kinds.Recall = same_shape (shape One kinds.Recall)
shape_wider kinds.Marks = record { marks = λ mark none. absurd cc; fields = λ mark. same_fields (repeat mark mark_fields); order = λ mark ns. refl }

-- a message with a spelling has one in version 2
pub fits_two : (version : Version) (m : Message) → IsTrue (fits version m) → IsTrue (fits Two m)
unfolding fits
fits_two One m h = fits_wider (shape One (kind_of m)) (shape Two (kind_of m)) (mark_of m) (numbers m) (shape_wider (kind_of m)) h
fits_two Two m h = h
