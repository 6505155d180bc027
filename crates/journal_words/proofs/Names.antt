-- The octets of tokens and of names: no space, no comma, and in a token no colon.
use Rattle.std.proofs.Common.{◌≡◌, ◌≢◌, ◌⊎◌, inl, inr, ⊎_elim, ◌∙◌, sym, refl, ap, subst, ℕ, ◌<◌, ◌≤◌, nat_lt, ◌&&◌, ◌||◌, not, ◌==◌, Bool, true, false, List, [], ◌∷◌, ◌++◌, take, drop, bytes_eq, codes, All, IsTrue, arith, true≢false, eqb-true, ltb-true, leb-true, take-append-drop}
use Rattle.std.specs.Char.{is_ascii_alphanumeric}
use Rattle.std.specs.Int.{is_in_range}
use Rattle.std.specs.List.{list_all, list_any}
use Rattle.std.proofs.lemmas.Bool.{and_parts}
use Rattle.std.proofs.lemmas.List.Elements.{All-append, All-head, All-tail, All-weaker, All-same}
use Rattle.std.proofs.lemmas.List.Sums.{AllPass-from_list_all}
use Rattle.std.proofs.lemmas.Slice.Eq.{bytes_eq-Decides}
use Rattle.http_header.specs.Token.{is_token_byte}
use Rattle.net_base.specs.Identities.{is_name, is_plain_name, is_name_octet}
use Rattle.net_base.specs.Requests.{is_token}
use Rattle.journal_words.proofs.Digits.{IsDigit}
use Rattle.journal_words.proofs.Marks.{Apart, apart_by}
use Rattle.journal_words.proofs.Steps.{other_test}

-- ---- tests

either : (a b : Bool) → (a || b) ≡ true → (a ≡ true) ⊎ (b ≡ true)
either true b h = inl refl
either false b h = inr h

-- an octet that is one of the marks has what holds of all of them
any_of : (P : ℕ → Type 0) (marks : List ℕ) (b : ℕ) → list_any (λ m. m == b) marks ≡ true → All P marks → P b
any_of P [] b h all = absurd (true≢false (sym h))
any_of P (m ∷ marks) b h all =
    ⊎_elim
    (λ here. subst P (eqb-true m b here) (All-head P m marks all))
    (λ later. any_of P marks b later (All-tail P m marks all))
    (either (m == b) (list_any (λ k. k == b) marks) h)

within : (low high b : ℕ) → is_in_range low high b ≡ true → (low ≤ b) × (b ≤ high)
within low high b h = let both = and_parts _ _ h in (leb-true low b both.0, leb-true b high both.1)

-- a letter or a digit
alphanumeric : (b : ℕ) → is_ascii_alphanumeric b ≡ true → IsDigit b
alphanumeric b h =
    ⊎_elim
    (λ low. ⊎_elim (λ digit. made 48 57 (within 48 57 b digit) (omega arith) (inl (omega arith)))
    (λ upper. made 65 90 (within 65 90 b upper) (omega arith) (inr (omega arith)))
    (either (is_in_range 48 57 b) (is_in_range 65 90 b) low))
    (λ lower. made 97 122 (within 97 122 b lower) (omega arith) (inr (omega arith)))
    (either (is_in_range 48 57 b || is_in_range 65 90 b) (is_in_range 97 122 b) h)
  where
    made : (low high : ℕ) → (low ≤ b) × (b ≤ high) → 47 < low → (high < 58) ⊎ (58 < low) → IsDigit b
    made low high both above (inl under) = let a = both.0 in let c = both.1 in record { high = omega arith; named = λ is. absurd (omega arith) }
    made low high both above (inr over) = let a = both.0 in let c = both.1 in record { high = omega arith; named = λ is. absurd (omega arith) }

-- ---- octets of names and tokens

-- no control, no space and no comma
pub record IsPlain (b : ℕ) : Type 0 where
  pub high : 32 < b
  pub comma : b ≢ 44

abbrev plain_test : ℕ → Bool
plain_test b = nat_lt 32 b && not (b == 44)

plain_by : (b : ℕ) → plain_test b ≡ true → IsPlain b
plain_by b h = let both = and_parts _ _ h in record { high = ltb-true 32 b both.0; comma = other_test b 44 both.1 }

all_plain : (text : List ℕ) → list_all plain_test text ≡ true → All IsPlain text
all_plain text h = All-weaker (λ b. plain_test b ≡ true) IsPlain plain_by text (AllPass-from_list_all plain_test text h)

plain_digit : (b : ℕ) → IsDigit b → IsPlain b
plain_digit b d = let high = d.high in record { high = omega arith; comma = λ is. absurd (omega arith) }

token_plain : (b : ℕ) → is_token_byte b ≡ true → IsPlain b
unfolding is_token_byte
token_plain b h =
    ⊎_elim (λ low. plain_digit b (alphanumeric b low)) (λ mark. any_of IsPlain (codes "!#$%&'*+-.^_`|~") b mark (all_plain (codes "!#$%&'*+-.^_`|~") refl))
    (either (is_ascii_alphanumeric b) (list_any (λ c. c == b) (codes "!#$%&'*+-.^_`|~")) h)

token_colon : (b : ℕ) → is_token_byte b ≡ true → b ≢ 58
unfolding is_token_byte
token_colon b h =
    ⊎_elim (λ low. (alphanumeric b low).named) (λ mark. any_of (λ c. c ≢ 58) (codes "!#$%&'*+-.^_`|~") b mark (apart_by 58 (codes "!#$%&'*+-.^_`|~") refl))
    (either (is_ascii_alphanumeric b) (list_any (λ c. c == b) (codes "!#$%&'*+-.^_`|~")) h)

pub token_all_plain : (text : List ℕ) → IsTrue (is_token text) → All IsPlain text
token_all_plain text h =
    All-weaker (λ b. is_token_byte b ≡ true) IsPlain token_plain text (AllPass-from_list_all is_token_byte text (and_parts _ _ h).1)

pub token_no_colon : (text : List ℕ) → IsTrue (is_token text) → Apart 58 text
token_no_colon text h =
    All-weaker (λ b. is_token_byte b ≡ true) (λ b. b ≢ 58) token_colon text (AllPass-from_list_all is_token_byte text (and_parts _ _ h).1)

name_plain : (b : ℕ) → is_name_octet b ≡ true → IsPlain b
name_plain b h =
    ⊎_elim (λ low. plain_digit b (alphanumeric b low)) (λ mark. any_of IsPlain (codes "-._:[]") b mark (all_plain (codes "-._:[]") refl))
    (either (is_ascii_alphanumeric b) (list_any (λ c. c == b) (codes "-._:[]")) h)

plain_name_all : (text : List ℕ) → is_plain_name text ≡ true → All IsPlain text
plain_name_all text h =
    All-weaker (λ b. is_name_octet b ≡ true) IsPlain name_plain text (AllPass-from_list_all is_name_octet text (and_parts _ _ h).1)

wild : (text : List ℕ) → bytes_eq (take 2 text) (codes "*.") ≡ true → text ≡ codes "*." ++ drop 2 text
wild text h = sym (take-append-drop 2 text) ∙ ap (λ t. t ++ drop 2 text) ((bytes_eq-Decides (take 2 text) (codes "*.")).0 h)

pub name_all_plain : (text : List ℕ) → IsTrue (is_name text) → All IsPlain text
name_all_plain text h =
    ⊎_elim (plain_name_all text)
    (λ both. let each = and_parts (bytes_eq (take 2 text) (codes "*.")) (is_plain_name (drop 2 text)) both in
    All-same IsPlain text (codes "*." ++ drop 2 text) (wild text each.0)
    (All-append IsPlain (codes "*.") (drop 2 text) (all_plain (codes "*.") refl) (plain_name_all (drop 2 text) each.1)))
    (either (is_plain_name text) (bytes_eq (take 2 text) (codes "*.") && is_plain_name (drop 2 text)) h)

not_wild : (text : List ℕ) → text ≡ codes "-" → bytes_eq (take 2 text) (codes "*.") ≡ false
not_wild text is = ap (λ t. bytes_eq (take 2 t) (codes "*.")) is

-- a name isn't `-`
pub name_other : (text : List ℕ) → IsTrue (is_name text) → text ≢ codes "-"
name_other text h is =
    ⊎_elim
    (λ plain. true≢false (sym (ap (λ t. bytes_eq t (codes "-")) is) ∙ not_true _ (and_parts _ _ (and_parts _ _ plain).0).1))
    (λ both. true≢false (sym (and_parts (bytes_eq (take 2 text) (codes "*.")) (is_plain_name (drop 2 text)) both).0 ∙ not_wild text is))
    (either (is_plain_name text) (bytes_eq (take 2 text) (codes "*.") && is_plain_name (drop 2 text)) h)
  where
    not_true : (b : Bool) → not b ≡ true → b ≡ false
    not_true true k = sym k
    not_true false k = refl
