-- The word of a stream: what each begins with, and that no two streams share one.
use Rattle.std.proofs.Common.{◌≡◌, ◌≢◌, Bool, true, false, ℕ, ◌^◌, ◌<◌, ◌≤◌, nat_eq, nat_le, List, ◌∷◌, ◌++◌, get_or, Option, Some, Bor, MatchOption, true≢false, drop, subst, sym, refl, ap, ◌∙◌, arith}
use Rattle.std.specs.Prelude.{codes, decimal}
use Rattle.std.specs.Bool.{then_some}
use Rattle.std.specs.List.{starts_with}
use Rattle.std.proofs.lemmas.Bool.{leb-true, le-leb}
use Rattle.std.proofs.lemmas.Fmt.{decimal_injective}
use Rattle.std.proofs.lemmas.Str.Pattern.{split_parts, split_after, IsSplitOnceResult}
use Rattle.sip_stream.specs.declared.form.Form.{Form}
use Rattle.sip_stream.specs.declared.form.Form.TheVariants.{Binary}
use Rattle.sip_stream.specs.declared.form.Form.TheVariants as forms
use Rattle.sip_stream.specs.Made.{most_made}
use Rattle.sip_words.specs.declared.stream.Stream.{Stream}
use Rattle.sip_words.specs.declared.stream.Stream.TheVariants.{Made, Text, Wide, File}
use Rattle.sip_words.specs.Shapes.{IsStoredWord, IsStreamWord, HasForm, file_in, form_of}
use Rattle.sip_words.proofs.QueryWords.{same_parts, decimal_lacks_colon}

-- what follows `made:`
abbrev pub numbers : ℕ → ℕ → List ℕ
numbers number count = decimal number ++ 58 ∷ decimal count

-- two made streams with one word are one
pub made_once : (n c n' c' : ℕ) → n < 2 ^ 64 → c ≤ most_made → n' < 2 ^ 64 → c' ≤ most_made → numbers n c ≡ numbers n' c' → (n ≡ n') × (c ≡ c')
made_once n c n' c' low few low' few' same =
    let parts = same_parts 58 (decimal n) (decimal n') (decimal c) (decimal c') (decimal_lacks_colon n low) (decimal_lacks_colon n' low') same in
    (decimal_injective n n' low low' parts.0, decimal_injective c c' (omega arith) (omega arith) parts.1)

-- the made stream of the two numbers, where it is short enough
pub allowed : (rest : List ℕ) (n c : ℕ) (allows : Bool) → n < 2 ^ 64 → c < 2 ^ 64 → allows ≡ nat_le c most_made → rest ≡ numbers n c → MatchOption (then_some allows (Made n c))
    ((number count : ℕ) → number < 2 ^ 64 → count ≤ most_made → rest ≢ numbers number count)
    (λ s. (number : ℕ) × (count : ℕ) × (number < 2 ^ 64) × (count ≤ most_made) × (rest ≡ numbers number count) × (s ≡ Made number count))
allowed rest n c true low small is whole = (n, c, low, leb-true c most_made (sym is), whole, refl)
allowed rest n c false low small is whole = λ n' c' low' few' same.
    let parts = same_parts 58 (decimal n) (decimal n') (decimal c) (decimal c') (decimal_lacks_colon n low) (decimal_lacks_colon n' low') (sym whole ∙ same) in
    let one : c ≡ c' = decimal_injective c c' small (omega arith) parts.1 in
    let few : true ≡ false = sym (le-leb c most_made (omega arith)) ∙ sym is in
    absurd (true≢false few)

-- the letter that a word begins with
abbrev first : List ℕ → ℕ
first word = get_or word 0 0

-- one that begins with a mark does not fail its test
unmarked : (mark xs word : List ℕ) → word ≡ mark ++ xs → starts_with nat_eq (mark ++ xs) mark ≡ true → starts_with nat_eq word mark ≡ false → ⊥
unmarked mark xs word is starts none = true≢false (sym starts ∙ subst (λ w. starts_with nat_eq w mark ≡ false) is none)

-- a word names one stream
pub stream_once : (s t : Stream) (word : List ℕ) → IsStreamWord s word → IsStreamWord t word → s ≡ t
stream_once (Made n c) (Made n' c') word (low, few, is) (low', few', also) =
    let rest : numbers n c ≡ numbers n' c' = ap (drop 5) (sym is ∙ also) in
    let parts = made_once n c n' c' low few low' few' rest in
    rw (parts.0, parts.1) refl
stream_once (Made n c) Text word (low, few, is) (path, some, also) = let a : first word ≡ 109 = ap first is in let b : first word ≡ 116 = ap first also in absurd (omega arith)
stream_once (Made n c) Wide word (low, few, is) (path, some, also) = let a : first word ≡ 109 = ap first is in let b : first word ≡ 119 = ap first also in absurd (omega arith)
stream_once (Made n c) File word (low, few, is) (some, made, text, wide) = absurd (unmarked (codes "made:") (numbers n c) word is refl made)
stream_once Text (Made n c) word (path, some, is) (low, few, also) = let a : first word ≡ 116 = ap first is in let b : first word ≡ 109 = ap first also in absurd (omega arith)
stream_once Text Text word is also = refl
stream_once Text Wide word (path, some, is) (path', some', also) = let a : first word ≡ 116 = ap first is in let b : first word ≡ 119 = ap first also in absurd (omega arith)
stream_once Text File word (path, some, is) (some', made, text, wide) = absurd (unmarked (codes "text:") path word is refl text)
stream_once Wide (Made n c) word (path, some, is) (low, few, also) = let a : first word ≡ 119 = ap first is in let b : first word ≡ 109 = ap first also in absurd (omega arith)
stream_once Wide Text word (path, some, is) (path', some', also) = let a : first word ≡ 119 = ap first is in let b : first word ≡ 116 = ap first also in absurd (omega arith)
stream_once Wide Wide word is also = refl
stream_once Wide File word (path, some, is) (some', made, text, wide) = absurd (unmarked (codes "wide:") path word is refl wide)
stream_once File (Made n c) word (some, made, text, wide) (low, few, is) = absurd (unmarked (codes "made:") (numbers n c) word is refl made)
stream_once File Text word (some, made, text, wide) (path, some', is) = absurd (unmarked (codes "text:") path word is refl text)
stream_once File Wide word (some, made, text, wide) (path, some', is) = absurd (unmarked (codes "wide:") path word is refl wide)
stream_once File File word is also = refl

-- and has one form at a depth
pub form_once : (depth : ℕ) (f g : Form) (word : List ℕ) → HasForm depth f word → HasForm depth g word → f ≡ g
form_once depth f g word (s, is, names) (t, also, names') =
    let same = stream_once s t word names names' in
    sym is ∙ (ap (form_of depth) same ∙ also)

-- the form of a file; a made stream has none
abbrev form_in : Stream → Form
form_in (Made _ _) = Binary
form_in Text = forms.Text
form_in Wide = forms.Wide
form_in File = Binary

file_form : (f : Form) → form_in (file_in f) ≡ f
file_form Binary = refl
file_form forms.Text = refl
file_form forms.Wide = refl

-- a word names one stream that a file holds
pub stored_once : (f g : Form) (word : List ℕ) → IsStoredWord f word → IsStoredWord g word → f ≡ g
stored_once f g word names names' = sym (file_form f) ∙ (ap form_in (stream_once (file_in f) (file_in g) word names names') ∙ file_form g)

-- the cut at the colon gives the two numbers
pub cut_numbers : (rest : List ℕ) (r : Option (Bor (List ℕ) × Bor (List ℕ))) → IsSplitOnceResult 58 rest r → (n c : ℕ) → n < 2 ^ 64 → rest ≡ numbers n c → MatchOption r ⊥ (λ x. (x.0.now ≡ decimal n) × (x.1.now ≡ decimal c))
cut_numbers rest r split n c low same = split_after 58 rest (decimal n) (decimal c) r split (omega arith) same (decimal_lacks_colon n low)

-- the two parts that the cut gave are what follows `made:`
pub joined_numbers : (rest : List ℕ) (x : Bor (List ℕ) × Bor (List ℕ)) → IsSplitOnceResult 58 rest (Some x) → (n c : ℕ) → x.0.now ≡ decimal n → x.1.now ≡ decimal c → rest ≡ numbers n c
joined_numbers rest x split n c first second =
    let parts = split_parts 58 rest (Some x) split (omega arith) in
    let cut = parts.0 in
    cc
