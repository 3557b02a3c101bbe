-- One step of a draw, by the word that comes.
use Rattle.std.proofs.Common.{◌∙◌, inl, inr, ◌≡◌, ◌≢◌, ℕ, zero, suc, refl, sym, ap, Some, None, eq-eqb}
use Rattle.std.proofs.lemmas.Bool.{cases_eq, ne_eqb}
use Rattle.rand_core.specs.Stream.{Stream, next_u64}
use Rattle.sip_field.specs.Moduli.{m61_modulus}
use Rattle.sip_field.specs.Draw.{AllMissed, candidate, draw_within}

-- a candidate that isn't the modulus is the challenge
pub draw_hit : (n tries : ℕ) (words : Stream) (word : ℕ) (rest : Stream) → n ≡ suc tries →
    (word, rest) ≡ next_u64 words → candidate word ≢ m61_modulus →
    draw_within n words ≡ (Some (candidate word), rest)
unfolding draw_within
draw_hit n tries words word rest more e ne = rw (more, ← e, ne_eqb _ _ ne) refl

-- a candidate that is the modulus is left out
pub draw_miss : (n tries : ℕ) (words : Stream) (word : ℕ) (rest : Stream) → n ≡ suc tries →
    (word, rest) ≡ next_u64 words → candidate word ≡ m61_modulus →
    draw_within n words ≡ draw_within tries rest
unfolding draw_within
draw_miss n tries words word rest more e eq = rw (more, ← e, eq-eqb _ _ eq) refl

-- with no tries left nothing is drawn
pub draw_spent : (n : ℕ) (words : Stream) → n ≡ 0 → draw_within n words ≡ (None, words)
unfolding draw_within
draw_spent n words e = rw e refl

-- where all words miss, nothing is drawn
pub missed_none : (n : ℕ) (words : Stream) → AllMissed n words → (draw_within n words).0 ≡ None
unfolding draw_within AllMissed
missed_none zero words m = refl
missed_none (suc n) words m =
    ap (λ r. r.0) (draw_miss (suc n) n words _ _ refl refl m.0) ∙ missed_none n (next_u64 words).1 m.1

-- a challenge is not none
pub no_challenge : (r : ℕ) → Some r ≡ None → ⊥
no_challenge r h = cc

-- and only there
pub none_missed : (n : ℕ) (words : Stream) → (draw_within n words).0 ≡ None → AllMissed n words
unfolding AllMissed
none_missed zero words e = tt
none_missed (suc n) words e = elim (cases_eq (candidate (next_u64 words).0) m61_modulus) [
  | inl missed ↦
      let miss = ap (λ r. r.0) (draw_miss (suc n) n words _ _ refl refl missed) in
      (missed, none_missed n (next_u64 words).1 (sym miss ∙ e))
  | inr other ↦
      let hit = ap (λ r. r.0) (draw_hit (suc n) n words _ _ refl refl other) in
      absurd (no_challenge _ (sym hit ∙ e))
]
