-- The bytes of a frame after more came.
use Rattle.std.proofs.Common.{◌≡◌, ℕ, ◌+◌, ◌≤◌, List, ◌++◌, length, take, drop, refl, sym, ap, subst, ◌∙◌, arith, length-append, length-take-le, drop_at, take_at}
use Rattle.std.specs.declared.option.Option.{Option}
use Rattle.std.proofs.lemmas.List.{map-append, take-take, take-append-le}
use lib.Seq.{take-add}
use Rattle.sip_ports.specs.declared.port.TalkEvent.{TalkEvent}
use Rattle.sip_ports.specs.declared.port.TalkEvent.TheVariants.{In}
use Rattle.sip_ports.specs.Ports.{GoesOn, ins}
use Rattle.sip_ports.proofs.TalkLemmas.{GoesOn-trans}

-- the front of what is stored, where bytes were written behind the first t
front : (t c n : ℕ) (items buf post more : List ℕ) → t ≤ length items → c ≤ length buf → t + c ≤ n → take (t + c) (take n ((take t items ++ (buf ++ post)) ++ more)) ≡ take t items ++ take c buf
front t c n items buf post more le_t le_c le_n =
    let len : length (take t items) ≡ t = length-take-le t items le_t in
    let all : take (t + c) (take n ((take t items ++ (buf ++ post)) ++ more)) ≡ take (t + c) ((take t items ++ (buf ++ post)) ++ more) = take-take (t + c) n ((take t items ++ (buf ++ post)) ++ more) le_n in
    let written : take (t + c) ((take t items ++ (buf ++ post)) ++ more) ≡ take (t + c) (take t items ++ (buf ++ post)) =
    take-append-le (t + c) (take t items ++ (buf ++ post)) more (omega (arith, length-append (take t items) (buf ++ post), length-append buf post)) in
    let split : take (t + c) (take t items ++ (buf ++ post)) ≡ take t (take t items ++ (buf ++ post)) ++ take c (drop t (take t items ++ (buf ++ post))) = take-add t c (take t items ++ (buf ++ post)) in
    let first : take t (take t items ++ (buf ++ post)) ≡ take t items = take_at (take t items) (buf ++ post) t len in
    let second : drop t (take t items ++ (buf ++ post)) ≡ buf ++ post = drop_at (take t items) (buf ++ post) t len in
    let third : take c (buf ++ post) ≡ take c buf = take-append-le c buf post le_c in
    all ∙ written ∙ split ∙ rw (first, second, third) refl

-- what was taken of a buffer after c more bytes came behind the first t
pub more_taken : (t c upto n : ℕ) (items slice buf post : List ℕ) → n ≡ length items → slice ≡ items → upto ≤ n → c ≤ length buf → t + c ≤ upto
    → take (t + c) (take n ((take t slice ++ (buf ++ post)) ++ drop (length (take t slice ++ (buf ++ post))) items)) ≡ take t items ++ take c buf
more_taken t c upto n items slice buf post len same le_n le_c le =
    ap (λ (s : List ℕ). take (t + c) (take n ((take t s ++ (buf ++ post)) ++ drop (length (take t s ++ (buf ++ post))) items))) same
    ∙ front t c n items buf post (drop (length (take t items ++ (buf ++ post))) items) (omega arith) le_c (omega arith)

-- the talk of what came before and of what came now
pub came_more : (a b c : Option (List TalkEvent)) (before came : List ℕ) → GoesOn a b (ins before) → GoesOn b c (ins came) → GoesOn a c (ins (before ++ came))
came_more a b c before came p q = subst (GoesOn a c) (sym (map-append In before came)) (GoesOn-trans a b c (ins before) (ins came) p q)
